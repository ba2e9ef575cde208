-- An execution as a stack of requests with a mark: what is below the mark is executed, what is above it is to be rolled back, last first.
use Rattle.std.specs.Prelude.{ℕ, List, reverse, take, drop}
use Rattle.request.specs.declared.Request.{Request}
use Rattle.creek.specs.Execution.{Execution}

-- the requests on the board with the mark at m, for that standing order
abbrev pub stacked : List Request → ℕ → List Request → Execution
stacked board m order = record { executed = take m board; rollback = reverse (drop m board); todo = drop m order }
