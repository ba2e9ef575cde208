-- The state of a shift's first moment: it is the replica that fresh returns, and the invariant holds of it.
use Prim.Native.Nat.{ℕ}
use native.Mathlib.Omega.{arith}
use mathlib.Core.Path.{◌≡◌, refl, sym, ap, ◌∙◌}
use mathlib.Core.Bool.{Bool, true, false, not, ◌&&◌}
use lib.ListN.{length-replicate}
use lib.Dec.{leb, ltb}
use borrow.Author.Tests.{le-leb, lt-ltb, leb-true, ltb-true, not-false}
use Rattle.lists.specs.Lists.{one}
use Rattle.lists.proofs.BoolLaws.{both, both_true, neither, neither_true, true_not_false}
use Rattle.numbers.specs.declared.PanelNo.{PanelNo}
use Rattle.numbers.specs.Numbers.{panel_no, most_panels}
use Rattle.request.specs.Refusal as refused
use Rattle.sets.specs.Sets.{empty_set}
use Rattle.sets.proofs.SetLaws.{member_empty}
use Rattle.effects.proofs.ReplayLaws.{replay-nothing}
use Rattle.creek.specs.Plan.{last_event, last_clock}
use Rattle.creek.specs.Book.{empty_book}
use Rattle.creek.specs.Calls.{bad_shop, replica_of, fresh, fresh_refusal}
use Rattle.ordering.specs.Slots.{most_slots}
use Rattle.ordering.proofs.SlotLaws.{in_words_member}
use Rattle.store.specs.Requests.{most_words}
use Rattle.creek.specs.internal.Sound.{most_requests}
use Rattle.creek.proofs.SoundLaws.{fresh_sound}
use Rattle.replica.specs.State.{State, first_memory}
use Rattle.replica.specs.declared.Shop.{Shop}
use Rattle.replica.specs.Promises.{Fresh}
use Rattle.replica.specs.Memory.{shop_opened}
use Rattle.replica.specs.internal.Model.{plan_of, book_of, model, Inv, GoodShop, Empty}

-- ---- the test of fresh

pub good_shop : (panels own : ℕ) → bad_shop panels own ≡ false → GoodShop panels own
unfolding bad_shop
good_shop panels own e =
    let parts = neither_true (not (leb 1 panels && leb panels most_panels)) (not (ltb own panels)) e in
    record {
      few = leb-true panels most_panels (both_true (leb 1 panels) (leb panels most_panels) (not-false _ parts.0)).1;
      below = ltb-true own panels (not-false _ parts.1);
    }

shop_good : (panels own : ℕ) → GoodShop panels own → bad_shop panels own ≡ false
unfolding bad_shop
shop_good panels own g =
    neither (ap not (both (le-leb 1 panels (omega (arith, g))) (le-leb panels most_panels g.few))) (ap not (lt-ltb own panels g.below))

pub one_panel_shop : GoodShop 1 0
one_panel_shop = record { few = omega arith; below = omega arith }

-- ---- the state

module _ (panels : ℕ) (own : PanelNo) (good : GoodShop panels own.0) where
  abbrev start : State
  start = first_memory panels own

  start-model : model start ≡ fresh panels own.0
  unfolding model book_of plan_of fresh
  start-model = rw (shop_good panels own.0 good)

  start_inv : Inv start
  unfolding plan_of last_event last_clock
  start_inv = record {
    counts = record { committed = omega arith; ordered = omega arith; executed = omega arith; stacked = omega arith; done = omega arith };
    lengths = record {
      requests = record {
        clocks = length-replicate {A = ℕ} most_slots 0;
        askings = length-replicate {A = ℕ} most_slots 0;
        contexts = length-replicate {A = ℕ} most_words 0;
      };
      order = length-replicate {A = ℕ} most_requests 0;
      stack = length-replicate {A = ℕ} most_requests 0;
      saved = length-replicate {A = ℕ} most_requests 0;
      responses = length-replicate {A = ℕ} most_requests 0;
      held = length-replicate {A = ℕ} most_panels 0;
      awaiting = length-replicate {A = ℕ} most_panels 0;
      settled = length-replicate {A = ℕ} most_panels 0;
    };
    held = λ slot h. sym (ap one (member_empty _));
    settled = record { marked = λ t h. sym (ap one (in_words_member empty_set t h ∙ member_empty _)) };
    order_slots_is = tt;
    board_slots_is = tt;
    log = record { replayed = sym replay-nothing; restores = λ k h. absurd (omega arith); replies = λ k h. absurd (omega arith) };
    events = refl;
    clock = refl;
    awaiting_own = λ n h. true_not_false h (member_empty n);
    sound = rw start-model (fresh_sound panels own.0);
  }

  pub empty-made : Empty panels own.0 (first_memory panels own)
  empty-made = record { state = start-model; invariant = start_inv }

-- ---- fresh

one_panel : fresh 1 0 ≡ replica_of (empty_book 1 0)
unfolding fresh bad_shop
one_panel = refl

module _ (panels own : ℕ) where
  refused_fresh : bad_shop panels own ≡ true
      → Fresh panels own (record { refusal = refused.bad_shop; state = first_memory 1 (panel_no 0) })
  unfolding fresh_refusal fresh
  refused_fresh bad =
      let e = empty-made 1 (panel_no 0) one_panel_shop in
      record { refusal = rw bad; memory = rw bad; state = e.state ∙ one_panel ∙ rw bad; invariant = e.invariant }

  opened_fresh : bad_shop panels own ≡ false
      → Fresh panels own (record { refusal = refused.accepted; state = first_memory panels (panel_no own) })
  unfolding fresh_refusal
  opened_fresh good =
      let e = empty-made panels (panel_no own) (good_shop panels own good) in
      record { refusal = rw good; memory = rw good; state = e.state; invariant = e.invariant }

-- of the shop that is opened where that one, bad or not, is asked for
module _ (panels : ℕ) (own : PanelNo) (bad : Bool) (judged : bad ≡ bad_shop panels own.0) (shop : Shop)
    (opened : shop ≡ shop_opened bad panels own) where
  pub fresh-refused : bad ≡ true → Fresh panels own.0 (record { refusal = refused.bad_shop; state = first_memory shop.panels shop.own })
  fresh-refused is = rw (opened, is) (refused_fresh panels own.0 (sym judged ∙ is))

  pub fresh-opened : bad ≡ false → Fresh panels own.0 (record { refusal = refused.accepted; state = first_memory shop.panels shop.own })
  fresh-opened is = rw (opened, is) (opened_fresh panels own.0 (sym judged ∙ is))
