-- That a slot stays tentative by its number.
use Prim.Native.Nat.{ℕ}
use mathlib.Core.Path.{◌≡◌}
use mathlib.Core.Bool.{not, ◌||◌}
use Rattle.sets.specs.declared.Context.{Context}
use Rattle.sets.specs.Sets.{member}
use Rattle.numbers.specs.Numbers.{same_number}
use Rattle.numbers.specs.internal.Slots.{number_of}
use Rattle.ordering.specs.Slots.{IsSlot}
use Rattle.slots.specs.Settlement.{stays}
use Rattle.ordering.proofs.SlotLaws.{same_slot, in_words_member}

-- a slot stays where its number is neither in the context nor the settled one
pub stays_by_number : (context : Context) (s t : ℕ) → IsSlot s → IsSlot t
    → stays context.words s t ≡ not (member context (number_of t) || same_number (number_of s) (number_of t))
unfolding stays
stays_by_number context s t hs ht = rw (in_words_member context t ht, same_slot s t hs ht)
