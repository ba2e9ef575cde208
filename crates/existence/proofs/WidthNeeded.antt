-- That the calls fit is needed: no panel keeps its contracts where a request is heard whose context has no word, or where more is set than
-- a register holds.
use Prim.Native.Nat.{ℕ, ◌+◌, ◌*◌, ◌<◌}
use native.Mathlib.Omega.{arith}
use mathlib.Core.Path.{◌≡◌, refl, sym, ap, ◌∙◌}
use mathlib.Core.List.{List, [], ◌∷◌}
use lib.ListN.{length}
use lib.Seq.{length-slice}
use Rattle.lists.specs.Places.{All}
use Rattle.numbers.specs.Numbers.{most_panels, same_number, bad_number}
use Rattle.sets.specs.Sets.{all_zero, names_from, bit, member}
use Rattle.request.specs.declared.Request.{Request}
use Rattle.request.specs.Operations.{bad_operation}
use Rattle.request.specs.Asked.{bad_asked}
use Rattle.request.specs.Order.{before}
use Rattle.request.specs.Request.{bad_context}
use Rattle.effects.specs.Effect.{range, off_board, exec}
use Rattle.registers.specs.Rollback.{saved_of, saved_in}
use Rattle.effects.specs.Replay.{replay_on, replay}
use Rattle.registers.specs.declared.Saved.{Saved}
use Rattle.ordering.specs.Slots.{IsSlot}
use Rattle.store.specs.Requests.{context_at, request_at}
use Rattle.creek.specs.Plan.{last_event, last_clock, entered, at_least, made, invoke_refusal, deliver_refusal}
use Rattle.creek.specs.Execution.{adjusted, executed_next, execute_refusal}
use Rattle.creek.specs.Book.{Call, deliver, refusal, accepted}
use Rattle.creek.specs.Calls.{bad_shop, fresh, accept, step}
use Rattle.creek.specs.History.{run}
use Rattle.creek.proofs.StackLaws.{stacked-board}
use Rattle.replica.specs.State.{State}
use Rattle.replica.specs.internal.Model.{requests_at, order_of, board_of, order_slots, book_of, model, operation_at, registers_before, Inv}
use Rattle.replica.proofs.ModelLaws.{order_is}
use Rattle.history.specs.Worthless.{PanelCall, Panel, stand_for, reached, Keeps}
use Rattle.history.proofs.History.{panel_inv, panel_replica}
use Rattle.history.proofs.Worthless.{kept_leads}
use Rattle.existence.specs.Memory.{held_by, board_by}
use Rattle.existence.specs.Existence.{NobodyKeeps, wordless, short_context, wide_calls, wide_amount}

-- ---- what a memory holds

module _ (q : State) (inv : Inv q) where
  -- the requests held
  held_in : order_of q ≡ held_by (model q)
  unfolding model
  held_in = sym (order_is q inv)

  -- the requests on the board
  board_in : board_of q ≡ board_by (model q)
  unfolding model book_of
  board_in = sym (stacked-board (board_of q) q.executed (order_of q))

  -- a word for each panel in every context
  all_words : (slots : List ℕ) → All IsSlot slots → All (λ (x : Request). length x.context.words ≡ most_panels) (requests_at q slots)
  unfolding request_at context_at
  all_words [] is = tt
  all_words (t ∷ ts) is = (
    length-slice (most_panels * t) (most_panels * t + most_panels) q.contexts (omega (arith, is.0, inv.lengths)) ∙ omega arith,
    all_words ts is.1,
  )

-- ---- of a panel that kept its contracts on those calls

module _ (panel : Panel) (panels own : ℕ) (calls : List PanelCall) (k : Keeps panel panels own calls) where
  abbrev last : State
  last = reached panel panels own calls

  abbrev called : List Call
  called = stand_for panel (panel.fresh panels own).state calls

  last_inv : Inv last
  last_inv = panel_inv k.fresh (kept_leads panel (panel.fresh panels own).state calls k.kept)

  last-model : model last ≡ run (fresh panels own) called
  last-model = panel_replica k.fresh (kept_leads panel (panel.fresh panels own).state calls k.kept)

-- ---- a context with no word

-- the request is accepted and held
short-held : held_by (run (fresh 2 0) (deliver wordless ∷ [])) ≡ wordless ∷ []
unfolding run step fresh bad_shop accept accepted refusal deliver_refusal bad_number bad_asked bad_operation bad_context all_zero member bit
    names_from entered
short-held = refl

pub words_needed : NobodyKeeps 2 0 short_context
words_needed panel k =
    let q = last panel 2 0 short_context k in
    let inv = last_inv panel 2 0 short_context k in
    let held = held_in q inv ∙ ap held_by (last-model panel 2 0 short_context k) ∙ short-held in
    let words = rw held at (all_words q inv (order_slots q) inv.order_slots_is) in
    omega (arith, words.0)

-- ---- an amount that is out of range

abbrev wide_board : List Request
wide_board = board_by (run (fresh 1 0) wide_calls)

-- both sets are on the board, and before the second the register is out of range
record Wide : Type 0 where
  both : length wide_board ≡ 2
  saved : (saved_of (operation_at wide_board 1) (registers_before wide_board 1)).r ≡ range

wide : Wide
unfolding run step fresh bad_shop accept accepted refusal invoke_refusal last_event last_clock at_least made before entered bad_asked
    bad_operation adjusted same_number execute_refusal executed_next off_board exec replay_on replay saved_of
wide = record { both = refl; saved = refl }

pub amount_needed : NobodyKeeps 1 0 wide_amount
unfolding saved_in
amount_needed panel k =
    let q = last panel 1 0 wide_amount k in
    let inv = last_inv panel 1 0 wide_amount k in
    let board : board_of q ≡ wide_board = board_in q inv ∙ ap board_by (last-model panel 1 0 wide_amount k) in
    let there : 1 < length (board_of q) = omega (arith, ap length board, wide.both) in
    let kept = ap (λ (s : Saved). s.r) (inv.log.restores 1 there) in
    let is = ap (λ (l : List Request). (saved_of (operation_at l 1) (registers_before l 1)).r) board ∙ wide.saved in
    omega (arith, kept, is)
