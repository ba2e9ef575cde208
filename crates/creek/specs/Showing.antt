-- The showing calls: what each returns, refused or not. They change nothing.
use Rattle.std.specs.Prelude.{ℕ, ◌-◌, Bool, ◌||◌, cond, length, get_or, ltb, eqb}
use Rattle.request.specs.declared.Request.{Request}
use Rattle.request.specs.Operations.{last_register}
use Rattle.request.specs.Refusal as refused
use Rattle.request.specs.Request.{no_request}
use Rattle.creek.specs.Plan.{order, last_event}
use Rattle.creek.specs.Execution.{registers, owed}
use Rattle.creek.specs.Calls.{Replica}

-- ---- a register

-- bad operation where the register is over 63
unfoldable pub register_refusal : ℕ → ℕ
register_refusal k = cond (ltb last_register k) refused.bad_operation refused.accepted

-- the value of register k, 0 where it is over 63
unfoldable pub register_shown : Replica → ℕ → ℕ
register_shown r k = cond (ltb last_register k) 0 (get_or (registers r.book.execution) k 0)

-- ---- the counts

-- the count of accepted requests: each is held once and for the shift
abbrev pub requests_shown : Replica → ℕ
requests_shown r = length (order r.book.plan)

abbrev pub commits_shown : Replica → ℕ
commits_shown r = r.commits

abbrev pub undos_shown : Replica → ℕ
undos_shown r = r.counters.undos

abbrev pub executions_shown : Replica → ℕ
executions_shown r = r.counters.executions

abbrev pub owed_shown : Replica → ℕ
owed_shown r = owed r.book.execution

-- ---- the shop

-- P
abbrev pub panels_shown : Replica → ℕ
panels_shown r = r.book.plan.panels

-- the own panel
abbrev pub own_shown : Replica → ℕ
own_shown r = r.book.plan.own

-- the own requests made, which is the event of the last one
abbrev pub made_shown : Replica → ℕ
made_shown r = last_event r.book.plan

-- ---- the request at a place of the standing order, places counted from 1

-- place 0 or past the end
abbrev pub no_place : Replica → ℕ → Bool
no_place r place = eqb place 0 || ltb (requests_shown r) place

-- not here
unfoldable pub place_refusal : Replica → ℕ → ℕ
place_refusal r place = cond (no_place r place) refused.not_here refused.accepted

-- the request at that place, zeros where there is none
unfoldable pub place_shown : Replica → ℕ → Request
place_shown r place = cond (no_place r place) no_request (get_or (order r.book.plan) (place - 1) no_request)
