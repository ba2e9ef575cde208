-- `word_of` meets its contract: the types of the fields and a bit keep the sum in a word.
use native.Mathlib.Omega.{arith}
use mathlib.Core.Path.{◌≡◌, refl}
use mathlib.Core.Bool.{Bool, true, false}
use mir.Val.{bool_byte}
use borrow.Author.Rules.{rules}
use Rattle.lists.specs.Lists.{one}
use Rattle.lists.proofs.ListLaws.{one_most}
use Rattle.store.specs.Requests.{word_of}
use Rattle.store.proofs.WordLaws.{Narrow, asked-read}
use Rattle.store.proofs.requests.word_of.Goals as goal

-- the number of a bool
bool-number : (b : Bool) → bool_byte b ≡ one b
bool-number true = refl
bool-number false = refl

pub overflow_mul-result-3 : goal.overflow_mul-result-3
overflow_mul-result-3 c = let b = c.args.a.strong in omega (arith, bool-number b, one_most b)

pub overflow_add-result-3 : goal.overflow_add-result-3
overflow_add-result-3 c = let b = c.args.a.strong in omega (arith, bool-number b, one_most b)

pub overflow_add-result-4 : goal.overflow_add-result-4
overflow_add-result-4 c = let b = c.args.a.strong in omega (arith, bool-number b, one_most b)

pub returns : goal.returns
unfolding word_of
returns c =
    let narrow : Narrow c.args.a = search rules in
    let bit = bool-number c.args.a.strong in
    record { word = rw bit; read = rw bit (asked-read c.args.a narrow) }
