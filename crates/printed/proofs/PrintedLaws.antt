-- Laws of printing into lent bytes, in this order: too few of them; enough of them; what is left of them; what is returned.
use Prim.Native.Nat.{ℕ, ◌+◌, ◌≤◌, ◌<◌}
use native.Mathlib.Omega.{arith}
use mathlib.Core.Path.{◌≡◌, ap, ◌∙◌}
use mathlib.Core.List.{List, [], ◌++◌}
use lib.ListN.{length, get_or, take, drop, length-append}
use lib.Seq.{get_or-append-add, get_or-drop}
use borrow.Author.Tests.{lt-ltb, le-ltb}
use Rattle.text.specs.Written.{Written}
use Rattle.printed.specs.Printout.{most_input, most_printed, printout, printed_text, after_print, Printed}

module _ (input out : List ℕ) where
  -- ---- too few bytes are lent

  pub text_none : length out < most_printed → printed_text input (length out) ≡ []
  unfolding printed_text
  text_none few = rw (lt-ltb (length out) most_printed few)

  -- they are left alone, and 0 is returned
  pub printed_none : length out < most_printed → Printed input out out 0
  unfolding after_print
  printed_none few = record { returned = rw (text_none few); after = rw (text_none few) }

  -- ---- enough are lent

  pub text-whole : most_printed ≤ length out → printed_text input (length out) ≡ printout (take most_input input)
  unfolding printed_text
  text-whole enough = rw (le-ltb (length out) most_printed enough)

  -- the printout of as much of the input as is read stands at their front, and its length is returned
  pub printed-whole : (out' : List ℕ) (n : ℕ) → most_printed ≤ length out → Written out (printout (take most_input input)) out' n
      → Printed input out out' n
  unfolding after_print
  printed-whole out' n enough put = record { returned = rw (text-whole enough) put.count; after = rw (text-whole enough) put.bytes }

  -- ---- what is left of them

  -- every byte behind the text is as it was
  pub behind-kept : (i : ℕ) → let n = length (printed_text input (length out)) in get_or (after_print input out) (n + i) 0 ≡ get_or out (n + i) 0
  unfolding after_print
  behind-kept i =
      let text = printed_text input (length out) in
      get_or-append-add text (drop (length text) out) i 0 ∙ get_or-drop (length text) out i 0

-- ---- what is returned

module _ {input out out' : List ℕ} {n : ℕ} (printed : Printed input out out' n) where
  -- the bytes of the printout, where enough are lent
  pub returned-whole : most_printed ≤ length out → n ≡ length (printout (take most_input input))
  returned-whole enough = printed.returned ∙ ap length (text-whole input out enough)

  -- never more than are lent, since a lent slice keeps its length
  pub returned_within : length out' ≡ length out → n ≤ length out
  unfolding after_print
  returned_within same =
      let text = printed_text input (length out) in
      let sizes : length out ≡ length text + length (drop (length text) out) =
      simp same at (ap length printed.after) ∙ length-append text (drop (length text) out) in
      omega (arith, printed.returned)
