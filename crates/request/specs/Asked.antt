-- What a request asks for, as one thing: its operation, zeros, equality, and what makes it bad.
use Rattle.std.specs.Prelude.{Bool, false, ◌&&◌}
use Rattle.std.specs.Bool.{beq}
use Rattle.request.specs.declared.Asked.{Asked}
use Rattle.request.specs.declared.Operation.{Operation}
use Rattle.request.specs.Operations.{same_operation, bad_operation}

-- the operation that is asked for
abbrev pub operation_of : Asked → Operation
operation_of a = record { code = a.code; r = a.r; q = a.q; amount = a.amount }

-- zeros, where nothing is asked for
abbrev pub nothing_asked : Asked
nothing_asked = record { code = 0; r = 0; q = 0; strong = false; amount = 0 }

-- all fields are equal
unfoldable pub same_asked : Asked → Asked → Bool
same_asked a b = same_operation (operation_of a) (operation_of b) && beq a.strong b.strong

-- bad operation (refusal 3): the operation is bad, whatever the strength
unfoldable pub bad_asked : Asked → Bool
bad_asked a = bad_operation (operation_of a)
