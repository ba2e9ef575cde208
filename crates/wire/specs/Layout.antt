-- The layout of bus messages, document 01's table: for each kind its number and its fields in order. Sizes, reading and writing follow
-- from it. The widths, and what follows for any widths, are those of `fields`.
use Rattle.std.specs.Prelude.{ℕ, ◌+◌, List, [], ◌∷◌, ◌++◌, eqb, replicate, Option}
use Rattle.std.specs.List.{find}
use Rattle.fields.specs.Widths.{settlement_widths, strong_widths}
use Rattle.wire.specs.declared.Kind.{Kind}
use Rattle.wire.specs.declared.Kind.TheVariants.{Weak, Strong, Settlement}
use Rattle.fields.specs.Widths.{head_widths, number_widths, body_widths, byte_width, context_widths, size}
use Rattle.fields.specs.Widths.{spare_field}

-- ---- the table

-- all kinds
abbrev pub kinds : List Kind
kinds = Weak ∷ Strong ∷ Settlement ∷ []

-- document 01's number of each kind
abbrev pub kind_number : Kind → ℕ
kind_number Weak = 1
kind_number Strong = 2
kind_number Settlement = 3

-- the fields of a kind behind length and kind: at most one run of bytes stands among them
pub record Layout : Type 0 where
  -- the widths of the fields in front of the run
  pub front : List ℕ
  -- the most bytes of the run
  pub most_run : ℕ
  -- the widths of the fields behind it
  pub behind : List ℕ
  -- the spare bytes, by their places among all fields, in front of the run
  pub spares : List ℕ

unfoldable pub layout : Kind → Layout
layout Weak = record { front = number_widths ++ body_widths; most_run = 0; behind = []; spares = spare_field ∷ [] }
layout Strong = record { front = number_widths ++ body_widths; most_run = 0; behind = context_widths; spares = spare_field ∷ [] }
layout Settlement = record { front = number_widths; most_run = 0; behind = []; spares = [] }

-- ---- what follows for a kind

-- the kind of that number, where there is one
unfoldable pub kind_with : ℕ → Option Kind
kind_with n = find (λ k. eqb n (kind_number k)) kinds

-- the widths of all fields of a message of this kind whose run has n bytes
unfoldable pub widths_with : Kind → ℕ → List ℕ
widths_with k n = head_widths ++ ((layout k).front ++ (replicate n byte_width ++ (layout k).behind))

-- the bytes of a message of this kind without a run, and with the longest one
unfoldable pub least_size : Kind → ℕ
least_size k = size (widths_with k 0)

unfoldable pub most_size : Kind → ℕ
most_size k = least_size k + (layout k).most_run

-- ---- the shortest message and the longest one, over all kinds

-- the bytes of a settlement
abbrev pub least_message : ℕ
least_message = size settlement_widths

-- the bytes of a strong request
abbrev pub longest_message : ℕ
longest_message = size strong_widths
