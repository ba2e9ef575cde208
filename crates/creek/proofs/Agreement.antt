-- Two panels side by side (`specs/Agreement`): every history comes to the order of what it accepted, `comes_to_order`; two that accepted
-- the same agree, `side_by_side`; and the committed list only grows at its end, `grows_at_end`.
use Prim.Native.Nat.{ℕ, ◌≤◌}
use native.Mathlib.Omega.{arith}
use mathlib.Core.Path.{◌≡◌, refl, sym, ap, ◌∙◌}
use mathlib.Core.Bool.{Bool, true, false, not, ◌&&◌, cond}
use mathlib.Core.List.{List, [], ◌∷◌, ◌++◌, append_assoc, append-nil}
use mathlib.Core.Option.{some}
use lib.ListN.{length, length-append}
use Rattle.numbers.specs.declared.Number.{Number}
use Rattle.request.specs.declared.Request.{Request}
use Rattle.request.specs.Refusal as refused
use Rattle.effects.specs.Replay.{replay}
use Rattle.lists.specs.Lists.{one, count, find, is_nil}
use Rattle.lists.specs.Places.{All}
use Rattle.lists.proofs.AllLaws.{all_weaken, all_append}
use Rattle.lists.proofs.BoolLaws.{both_true, both, second_false}
use Rattle.lists.proofs.ListLaws.{one_false, count-append, count_either, found-counts, found_passes, nil_is}
use Rattle.numbers.proofs.NumberLaws.{same_number_sound}
use Rattle.sets.proofs.SetLaws.{subset-member}
use Rattle.creek.specs.Plan.{Plan, Parts, parts_of, empty_plan, order, has_number, named, entered, made, committing}
use Rattle.creek.specs.Execution.{operations, registers}
use Rattle.creek.specs.Book.{Call, invoke, deliver, commit, undo, execute, Book, empty_book, refusal, is_accepted, accepted, noted}
use Rattle.creek.specs.Calls.{Replica, bad_shop, replica_of, fresh, brings_request, is_commit, accept, step}
use Rattle.creek.specs.History.{run, accepted_in}
use Rattle.creek.specs.Showing.{register_shown, place_refusal, place_shown}
use Rattle.creek.specs.internal.Sound.{SoundPlan, Sound}
use Rattle.creek.specs.Agreement.{in_clock_order, committing_found_in, committing_number_in, committing_in_turn, standing_order}
use Rattle.creek.specs.Agreement.{EachNumberOnce, brought_by, settled_by, gathered, accepted_requests, accepted_settlements}
use Rattle.creek.specs.Agreement.{History, opened_in, requests_in, settlements_in, replica_after, ComesToOrder, GrowsAtEnd}
use Rattle.creek.specs.Agreement.{AcceptedSame, Idle, SideBySide}
use Rattle.creek.proofs.CallLaws.{by-outcome, step_book}
use Rattle.creek.proofs.AcceptanceLaws.{New, made_new, heard_new, Commits, commits}
use Rattle.creek.proofs.EnteredLaws.{entered-count}
use Rattle.creek.proofs.CommittedLaws.{committing-count}
use Rattle.creek.proofs.ExecutionLaws.{idle-board}
use Rattle.creek.proofs.SoundLaws.{step_sound, fresh_sound, reached_sound}
use Rattle.creek.proofs.StableReply.{run_extends}
use Rattle.creek.proofs.StandingOrderLaws.{determined, Apart, entering, enters_late, settles-next}

-- ---- a plan and what was accepted until then

-- the plan has the order of those requests and settlements, has those requests, and no settlement concerns a request that is new
record Comes (a : Plan) (requests : List Request) (settlements : List Number) : Type 0 where
  parts : parts_of a ≡ standing_order requests settlements
  held : (test : Request → Bool) → count test requests ≡ count test (order a)
  apart : (x : Request) → count (has_number x.number) requests ≡ 0 → All (Apart x requests) settlements

module _ (a : Plan) (l : List Request) (ns : List Number) (sound : SoundPlan a) (comes : Comes a l ns) where
  once : EachNumberOnce l
  once n = omega (arith, comes.held (has_number n), sound.held.distinct n)

  -- the order of the requests plays no part
  comes-moved : (m : List Request) → ((test : Request → Bool) → count test m ≡ count test l) → Comes a m ns
  comes-moved m moved = record {
    parts = comes.parts ∙ (determined l m ns).same (λ z. sym (moved _)) once (λ n. omega (arith, moved (has_number n), once n));
    held = λ test. moved test ∙ comes.held test;
    apart = λ x absent. all_weaken (still x) ns (comes.apart x (sym (moved _) ∙ absent));
  }
    where
      still : (x : Request) (n : Number) → Apart x l n → Apart x m n
      still x n h = record { other = h.other; unnamed = moved _ ∙ h.unnamed }

  -- ---- a request enters

  enters_comes : (x : Request) → New a x → Comes (entered a x) (x ∷ l) ns
  unfolding entered
  enters_comes x new = record {
    parts = ap (entering x) comes.parts ∙ sym (enters_late x l ns once absent (comes.apart x absent));
    held = λ test. omega (arith, comes.held test, entered-count a x test);
    apart = λ y far. apart_more y ns (comes.apart y (omega arith)) (comes.apart x absent);
  }
    where
      absent : count (has_number x.number) l ≡ 0
      absent = comes.held (has_number x.number) ∙ new.absent

      -- x itself is settled by none of them
      apart_more : (y : Request) (ms : List Number) → All (Apart y l) ms → All (Apart x l) ms → All (Apart y (x ∷ l)) ms
      apart_more y [] h k = tt
      apart_more y (m ∷ ms) h k = (
        record {
          other = h.0.other;
          unnamed = omega (arith, h.0.unnamed, one_false (second_false (named x y) k.0.other));
        },
        apart_more y ms h.1 k.1,
      )

  -- ---- a request is committed

  module _ (n : Number) (c : Commits a n) where
    found : find (has_number n) a.tentative ≡ some c.request
    found = ap (λ (m : Number). find (has_number m) a.tentative) c.number ∙ c.found

    -- the request of that number is held
    here : 1 ≤ count (has_number n) l
    here = omega (
      arith,
      comes.held (has_number n),
      count-append (has_number n) a.committed a.tentative,
      found-counts (has_number n) (has_number n) c.request a.tentative found (found_passes (has_number n) c.request a.tentative found),
    )

    -- its context names nothing that is not held
    unnamed : (x : Request) → count (has_number x.number) l ≡ 0 → named c.request x ≡ false
    unnamed x absent = go (named c.request x) refl
      where
        go : (b : Bool) → named c.request x ≡ b → b ≡ false
        go true e = absurd (omega (
          arith,
          absent,
          comes.held (has_number x.number),
          sound.held.known_held x.number (subset-member c.request.context a.known x.number c.context_known e),
        ))
        go false e = refl

    commit_apart : (x : Request) → count (has_number x.number) l ≡ 0 → Apart x l n
    commit_apart x absent = record {
      other = go (has_number n x) refl;
      unnamed = omega (
        arith,
        once n,
        comes.held (λ y. not (named y x) && has_number n y),
        count-append (λ y. not (named y x) && has_number n y) a.committed a.tentative,
        count_either (has_number n) (λ y. named y x) l,
        found-counts (has_number n) (λ y. not (named y x) && has_number n y) c.request a.tentative found
            (both (ap not (unnamed x absent)) (found_passes (has_number n) c.request a.tentative found)),
      );
    }
      where
        go : (b : Bool) → has_number n x ≡ b → b ≡ false
        go true e =
            absurd (omega (arith, here, absent, ap (λ (m : Number). count (has_number m) l) (same_number_sound n x.number e)))
        go false e = refl

    commits_comes : Comes (committing a c.request) l (ns ++ n ∷ [])
    unfolding committing
    commits_comes = record {
      parts =
          ap (committing_found_in (parts_of a)) (sym found)
          ∙ ap (λ (p : Parts). committing_number_in p n) comes.parts ∙ sym (settles-next l ns n);
      held = λ test. comes.held test ∙ sym (committing-count a c.request c.found sound test);
      apart = λ x absent. all_append (Apart x l) ns (n ∷ []) (comes.apart x absent) (commit_apart x absent, tt);
    }

-- ---- every call

accept_comes : (r : Replica) (c : Call) (l : List Request) (ns : List Number) → refusal r.book c ≡ refused.accepted → Sound r
    → Comes r.book.plan l ns → Comes (accept r c).book.plan (brought_by r.book.plan c ++ l) (ns ++ settled_by r.book.plan c)
unfolding accept accepted refusal
accept_comes r (invoke i) l ns taken sound comes =
    rw (append-nil ns) (enters_comes r.book.plan l ns sound.plan comes (made r.book.plan i)
    (made_new r.book.plan sound.plan i taken))
accept_comes r (deliver x) l ns taken sound comes =
    rw (append-nil ns) (enters_comes r.book.plan l ns sound.plan comes x (heard_new r.book.plan x taken))
accept_comes r (commit n) l ns taken sound comes =
    let c = commits r.book.plan n taken in
    rw c.leads (commits_comes r.book.plan l ns sound.plan comes n c)
accept_comes r undo l ns taken sound comes = rw (append-nil ns) comes
accept_comes r execute l ns taken sound comes = rw (append-nil ns) comes

-- ---- every list of calls

module _ (r : Replica) (c : Call) where
  -- what the call adds where it is accepted
  abbrev brought : List Request
  brought = cond (is_accepted r.book c) (brought_by r.book.plan c) []

  abbrev settled : List Number
  settled = cond (is_accepted r.book c) (settled_by r.book.plan c) []

  step_comes : (l : List Request) (ns : List Number) → Sound r → Comes r.book.plan l ns
      → Comes (step r c).book.plan (l ++ brought) (ns ++ settled)
  step_comes l ns sound comes =
      comes-moved (step r c).book.plan (brought ++ l) (ns ++ settled) (step_sound r c sound).plan
      (by-outcome
      (λ v w q. Comes q.book.plan (cond v (brought_by r.book.plan c) [] ++ l) (ns ++ cond v (settled_by r.book.plan c) [])) r c
      (λ taken. accept_comes r c l ns taken sound comes) (rw (append-nil ns) comes))
      (l ++ brought) (λ test. omega (arith, count-append test l brought, count-append test brought l))

run_comes : (r : Replica) (cs : List Call) (l : List Request) (ns : List Number) → Sound r → Comes r.book.plan l ns
    → Comes (run r cs).book.plan (l ++ accepted_requests r.book cs) (ns ++ accepted_settlements r.book cs)
unfolding run gathered
run_comes r [] l ns sound comes = rw (append-nil l, append-nil ns) comes
run_comes r (c ∷ cs) l ns sound comes =
    rw (← step_book r c, ← append_assoc l (brought r c), ← append_assoc ns (settled r c))
    (run_comes (step r c) cs (l ++ brought r c) (ns ++ settled r c) (step_sound r c sound) (step_comes r c l ns sound comes))

fresh_comes : (panels own : ℕ) → Comes (fresh panels own).book.plan [] []
unfolding fresh standing_order committing_in_turn in_clock_order
fresh_comes panels own = go (bad_shop panels own)
  where
    empty : (p o : ℕ) → Comes (empty_plan p o) [] []
    empty p o = record { parts = refl; held = λ test. refl; apart = λ x absent. tt }

    go : (v : Bool) → Comes (cond v (replica_of (empty_book 1 0)) (replica_of (empty_book panels own))).book.plan [] []
    go true = empty 1 0
    go false = empty panels own

history_comes : (h : History) → Comes (replica_after h).book.plan (requests_in h) (settlements_in h)
history_comes h =
    run_comes (fresh h.panels h.own) h.calls [] [] (fresh_sound h.panels h.own) (fresh_comes h.panels h.own)

-- ---- how many were accepted

-- where a call of that kind gives one and every other none, as many are gathered as calls of that kind are accepted
gathered-counted : {A : Type 0} (given : Plan → Call → List A) (kind : Call → Bool)
    → ((a : Plan) (c : Call) → length (given a c) ≡ one (kind c)) → (b : Book) (cs : List Call) → length (gathered given b cs) ≡ accepted_in b cs kind
unfolding gathered accepted_in
gathered-counted given kind each b [] = refl
gathered-counted given kind each b (c ∷ cs) =
    omega (
      arith,
      length-append (cond (is_accepted b c) (given b.plan c) []) (gathered given (noted b c) cs),
      go (is_accepted b c),
      gathered-counted given kind each (noted b c) cs,
    )
  where
    go : (v : Bool) → length (cond v (given b.plan c) []) ≡ one (v && kind c)
    go true = each b.plan c
    go false = refl

one_brought : (a : Plan) (c : Call) → length (brought_by a c) ≡ one (brings_request c)
one_brought a (invoke i) = refl
one_brought a (deliver x) = refl
one_brought a (commit n) = refl
one_brought a undo = refl
one_brought a execute = refl

one-settled : (a : Plan) (c : Call) → length (settled_by a c) ≡ one (is_commit c)
one-settled a (invoke i) = refl
one-settled a (deliver x) = refl
one-settled a (commit n) = refl
one-settled a undo = refl
one-settled a execute = refl

-- ---- the theorems

pub comes_to_order : (h : History) → ComesToOrder h
comes_to_order h = record {
  committed = ap (λ (p : Parts). p.committed) (history_comes h).parts;
  tentative = ap (λ (p : Parts). p.tentative) (history_comes h).parts;
  requests_counted = gathered-counted brought_by brings_request one_brought (opened_in h) h.calls;
  settlements_counted = gathered-counted settled_by is_commit one-settled (opened_in h) h.calls;
}

pub grows_at_end : (r : Replica) (further : List Call) → GrowsAtEnd r further
grows_at_end r further = record { grows = run_extends r further }

-- an idle replica that fresh and calls led to has its standing order on the board
idle-registers : (h : History) → Idle (replica_after h)
    → registers (replica_after h).book.execution ≡ replay (operations (order (replica_after h).book.plan))
unfolding registers
idle-registers h idle =
    let e = (replica_after h).book.execution in
    let nothing = both_true (is_nil e.rollback) (is_nil e.todo) idle in
    ap (λ (l : List Request). replay (operations l))
    (idle-board e (reached_sound h.panels h.own h.calls).follows
    (omega (arith, ap length (nil_is e.rollback nothing.0), ap length (nil_is e.todo nothing.1))))

module _ (h k : History) (same : AcceptedSame h k) where
  parts_same : parts_of (replica_after h).book.plan ≡ parts_of (replica_after k).book.plan
  parts_same =
      (history_comes h).parts
      ∙ (determined (requests_in h) (requests_in k) (settlements_in h)).same same.requests (once_in h) (once_in k)
      ∙ ap (standing_order (requests_in k)) same.settlements ∙ sym (history_comes k).parts
    where
      once_in : (g : History) → EachNumberOnce (requests_in g)
      once_in g = once (replica_after g).book.plan (requests_in g) (settlements_in g)
          (reached_sound g.panels g.own g.calls).plan (history_comes g)

  order_same : order (replica_after h).book.plan ≡ order (replica_after k).book.plan
  order_same = ap (λ (p : Parts). p.committed ++ p.tentative) parts_same

  registers_same : Idle (replica_after h) → Idle (replica_after k)
      → registers (replica_after h).book.execution ≡ registers (replica_after k).book.execution
  registers_same idle idle' =
      idle-registers h idle ∙ ap (λ (l : List Request). replay (operations l)) order_same ∙ sym (idle-registers k idle')

  pub side_by_side : SideBySide (replica_after h) (replica_after k)
  unfolding place_refusal place_shown register_shown
  side_by_side = record {
    committed = ap (λ (p : Parts). p.committed) parts_same;
    tentative = ap (λ (p : Parts). p.tentative) parts_same;
    standing_order_is = order_same;
    place_refusal_is = λ place. rw order_same;
    place_shown_is = λ place. rw order_same;
    registers_idle = registers_same;
    register_shown_is = λ idle idle' n. rw (registers_same idle idle');
  }
