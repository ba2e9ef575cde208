-- No refusal has the number of what is accepted.
use Rattle.std.proofs.Common.{◌≡◌}
use native.Mathlib.Omega.{arith}
use Rattle.request.specs.declared.refusal.Refusal.{Refusal}
use Rattle.request.specs.declared.refusal.Refusal.TheVariants as Word
use Rattle.request.specs.Refusal.{accepted, number_of}

pub refuses : (w : Refusal) → number_of w ≡ accepted → ⊥
refuses Word.BadShop e = omega (arith, e)
refuses Word.BadNumber e = omega (arith, e)
refuses Word.BadOperation e = omega (arith, e)
refuses Word.OwnEcho e = omega (arith, e)
refuses Word.ShiftFull e = omega (arith, e)
refuses Word.HeldAlready e = omega (arith, e)
refuses Word.NumberClash e = omega (arith, e)
refuses Word.NotHere e = omega (arith, e)
refuses Word.Weak e = omega (arith, e)
refuses Word.SettledAlready e = omega (arith, e)
refuses Word.Waits e = omega (arith, e)
refuses Word.NothingToUndo e = omega (arith, e)
refuses Word.UndoFirst e = omega (arith, e)
refuses Word.NothingToDo e = omega (arith, e)
refuses Word.CutShort e = omega (arith, e)
refuses Word.BadLength e = omega (arith, e)
refuses Word.UnknownKind e = omega (arith, e)
refuses Word.SpareSet e = omega (arith, e)
refuses Word.NoRoom e = omega (arith, e)
refuses Word.BadContext e = omega (arith, e)
