-- The context of a request whose message stands at a place of a run of bytes.
use Rattle.std.specs.Prelude.{ℕ, ◌+◌, Bool, cond, List}
use Rattle.sets.specs.declared.Context.{Context}
use Rattle.sets.specs.Sets.{set_of, empty_set}
use Rattle.fields.specs.Widths.{weak_widths, context_widths, size, decode}

-- the context of a request of that strength whose message stands at a place, and its bytes
abbrev pub context_in : Bool → List ℕ → ℕ → Context
context_in strong s at = cond strong (set_of (decode context_widths s (at + size weak_widths))) empty_set

abbrev pub context_size : Bool → ℕ
context_size strong = cond strong (size context_widths) 0
