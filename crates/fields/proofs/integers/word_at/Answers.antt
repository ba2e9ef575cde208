-- `integers::word_at` meets its contract: the array has the eight bytes, lowest first.
use mathlib.Core.Path.{◌≡◌, ◌∙◌, ap}
use lib.ListN.{take, drop}
use Rattle.std.proofs.lemmas.List.{take_rest}
use Rattle.std.specs.Int.{from_le_bytes, w64}
use Rattle.fields.specs.Integers.{widest}
use Rattle.fields.proofs.IntegerLaws.{word_of_bytes}
use Rattle.fields.proofs.integers.word_at.Goals as goal

pub returns : goal.returns
returns c =
    let s = c.args.s.now in
    let at = c.args.at in
    let bytes : c.in-Some.bytes.now ≡ take widest (drop at s) = c.in-Some.ensures.cases.same ∙ ap (take widest) (take_rest s at) in
    c.from_le_bytes.ensures ∙ ap (from_le_bytes w64) bytes ∙ word_of_bytes s at
