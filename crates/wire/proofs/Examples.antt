-- Document 01's lengths, and worked messages, their bytes by hand from its table: what is written of each, and what is read.
use Prim.Native.Nat.{ℕ}
use mathlib.Core.Path.{◌≡◌, refl}
use mathlib.Core.Bool.{true, false}
use mathlib.Core.List.{List, [], ◌∷◌, ◌++◌, map}
use lib.ListN.{replicate}
use Rattle.std.specs.Prelude.{Ok, Err}
use Rattle.numbers.specs.Numbers.{numbered}
use Rattle.request.specs.Operations.{code_set, code_claim}
use Rattle.request.specs.Refusal as refusal
use Rattle.sets.specs.Sets.{empty_set, set_of, all_zero, is_empty}
use Rattle.wire.specs.Integers.{integer_at, integer_bytes}
use Rattle.wire.specs.Layout.{kinds, kind_with, layout, widths_with, least_size, most_size}
use Rattle.fields.specs.Widths.{decode, encode}
use Rattle.wire.specs.declared.Message.TheVariants.{Request as request, Settlement as settlement}
use Rattle.wire.specs.Message.{BusMessage, kind_of, front_of, run_of, behind_of, contents}
use Rattle.wire.specs.Message.{widths_of, size_of, fields_of, bytes_of, message_from, weak_with_context}
use Rattle.wire.specs.Reader.{message, end, refused, length_at, kind_at, run_at, fields_at, spare_set, refusal_as, read_as, read_at}
use Rattle.wire.specs.Writer.{write_refusal, write_answer}

-- of each kind the least and the most bytes of a message
lengths : map least_size kinds ++ map most_size kinds ≡ (18 ∷ 82 ∷ 6 ∷ []) ++ (18 ∷ 82 ∷ 6 ∷ [])
unfolding least_size most_size widths_with layout
lengths = refl

-- ---- messages of document 01's printout

-- weak 0/1 clock 10, set 4 to 6
abbrev weak : BusMessage
weak =
    request (record {
      number = numbered 0 1;
      clock = record { 0 = 10 };
      asked = record { code = code_set; r = 4; q = 0; strong = false; amount = 6 };
      context = empty_set;
    })

abbrev weak_bytes : List ℕ
weak_bytes = 18 ∷ 0 ∷ 1 ∷ 0 ∷ 0 ∷ 1 ∷ 10 ∷ 0 ∷ 0 ∷ 0 ∷ 2 ∷ 4 ∷ 0 ∷ 0 ∷ 6 ∷ 0 ∷ 0 ∷ 0 ∷ []

-- strong 1/2 clock 12, claim 0 for 2, context {1/1}
abbrev strong : BusMessage
strong =
    request (record {
      number = numbered 1 2;
      clock = record { 0 = 12 };
      asked = record { code = code_claim; r = 0; q = 0; strong = true; amount = 2 };
      context = set_of (0 ∷ 1 ∷ replicate 6 0);
    })

abbrev strong_bytes : List ℕ
strong_bytes =
    82 ∷ 0 ∷ 2 ∷ 0 ∷ 1 ∷ 2 ∷ 12 ∷ 0 ∷ 0 ∷ 0 ∷ 4 ∷ 0 ∷ 0 ∷ 0 ∷ 2 ∷ 0 ∷ 0 ∷ 0
    ∷ (replicate 8 0 ++ (1 ∷ replicate 7 0) ++ replicate 48 0)

-- settlement 1/2
abbrev settled : BusMessage
settled = settlement (numbered 1 2)

abbrev settled_bytes : List ℕ
settled_bytes = 6 ∷ 0 ∷ 3 ∷ 0 ∷ 1 ∷ 2 ∷ []

written : map bytes_of (weak ∷ strong ∷ settled ∷ []) ≡ weak_bytes ∷ strong_bytes ∷ settled_bytes ∷ []
unfolding bytes_of kind_of fields_of contents front_of run_of behind_of widths_of widths_with layout encode integer_bytes size_of
written = refl

-- ---- read, the one behind the other, and then the end, also past it

abbrev run : List ℕ
run = weak_bytes ++ strong_bytes ++ settled_bytes

read : map (read_at run) (0 ∷ 18 ∷ 100 ∷ 106 ∷ 107 ∷ []) ≡ message weak 18 ∷ message strong 82 ∷ message settled 6 ∷ end ∷ end ∷ []
unfolding read_at read_as refusal_as length_at kind_at kind_with run_at fields_at spare_set message_from least_size most_size widths_with layout decode
    integer_at
read = refl

-- ---- refused: three bytes; kind 0, its length wrong and its bytes cut short as well; of kind 1 a message whose length says 19, one whose
-- length says 17, 17 bytes of one, and one whose spare byte is 1; with that spare byte, one whose length says 19, and 14 bytes of one

refused_runs : List (List ℕ)
refused_runs =
    (18 ∷ 0 ∷ 1 ∷ [])
    ∷ (19 ∷ 0 ∷ 0 ∷ 0 ∷ [])
    ∷ (19 ∷ 0 ∷ 1 ∷ replicate 14 0)
    ∷ (17 ∷ 0 ∷ 1 ∷ replicate 14 0)
    ∷ (18 ∷ 0 ∷ 1 ∷ replicate 14 0)
    ∷ (18 ∷ 0 ∷ 1 ∷ replicate 10 0 ++ (1 ∷ replicate 4 0))
    ∷ (19 ∷ 0 ∷ 1 ∷ replicate 10 0 ++ (1 ∷ replicate 5 0))
    ∷ (18 ∷ 0 ∷ 1 ∷ replicate 10 0 ++ (1 ∷ []))
    ∷ []

not-read : map (λ (s : List ℕ). read_at s 0) refused_runs
    ≡ map refused (refusal.cut_short ∷ refusal.unknown_kind ∷ refusal.bad_length ∷ refusal.bad_length ∷ refusal.cut_short ∷ refusal.spare_set
    ∷ refusal.bad_length ∷ refusal.cut_short ∷ [])
unfolding refused_runs read_at read_as refusal_as length_at kind_at kind_with run_at fields_at spare_set least_size most_size widths_with layout decode
    integer_at
not-read = refl

-- ---- the writer's answers: a weak request that names 1/1, without room and with it; a weak one with a byte too few and with room; a strong
-- one with a byte too few; a settlement

abbrev weak_naming : BusMessage
weak_naming =
    request (record {
      number = numbered 0 1;
      clock = record { 0 = 10 };
      asked = record { code = code_set; r = 4; q = 0; strong = false; amount = 6 };
      context = set_of (0 ∷ 1 ∷ replicate 6 0);
    })

answered : write_answer weak_naming 17 ∷ write_answer weak_naming 18 ∷ write_answer weak 17 ∷ write_answer weak 18 ∷ write_answer strong 81
    ∷ write_answer settled 6 ∷ []
    ≡ Err refusal.bad_context ∷ Err refusal.bad_context ∷ Err refusal.no_room ∷ Ok 18 ∷ Err refusal.no_room ∷ Ok 6 ∷ []
unfolding write_answer write_refusal weak_with_context all_zero is_empty kind_of run_of size_of widths_of widths_with layout
answered = refl
