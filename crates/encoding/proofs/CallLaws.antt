-- What a place of a list asks for, by its tag.
use Prim.Native.Nat.{ℕ, ◌+◌}
use native.Mathlib.Omega.{arith}
use Rattle.std.specs.Prelude.{Some, None, if◌then◌else◌}
use mathlib.Core.Path.{◌≡◌, refl, sym, subst}
use mathlib.Core.Bool.{Bool, true, false, cond}
use mathlib.Core.List.{List}
use lib.ListN.{get_or}
use lib.Dec.{eqb}
use borrow.Author.Tests.{eq-eqb, ne_eqb, eqb-true}
use Rattle.text.specs.Written.{Written}
use Rattle.creek.specs.declared.Answer.{Answer}
use Rattle.creek.specs.Book.{Call, invoke, deliver, commit, undo, execute}
use Rattle.replica.specs.State.{State, Called}
use Rattle.replica.specs.declared.Panel.{Panel}
use Rattle.replica.specs.Memory.{Done as CallDone}
use Rattle.replica.specs.Promises.{Kept}
use Rattle.replica.proofs.ChangesLaws.{changed_by}
use Rattle.due.specs.declared.DueSteps.{DueSteps}
use Rattle.due.specs.Due.{DueKept}
use Rattle.wire.specs.Message.{BusMessage}
use Rattle.intake.specs.Intake.{call_of}
use Rattle.encoding.specs.declared.calls.Step.{Step}
use Rattle.encoding.specs.declared.calls.Step.TheVariants.{Undo, Execute, AllDue}
use Rattle.encoding.specs.Encoding.{invoke_tag, undo_tag, execute_tag, all_due_tag, message_at, message_call, call_at}
use Rattle.encoding.specs.Encoding.{Entry, one, all_due, entry_at, after, answer_to, answer_bytes, invocation_of, request_in}
use Rattle.encoding.specs.internal.Running.{step_with, step_entry, Done, EntryPut, entry_changes}

-- one call is carried out as it is kept
pub done-one : (p : State) (c : Call) (r : Called) → Kept p c r → Done p (one c) r
unfolding after answer_to
done-one p c r k = record { answer = k.answer; state = k.state; invariant = k.invariant }

-- ---- an entry is a step or the call of a message

step_by : (undone carried due : Bool) (c : Call) (x : Step)
    → (if undone then Some Undo else (if carried then Some Execute else (if due then Some AllDue else None))) ≡ Some x
    → (undone ≡ true → due ≡ false) → (carried ≡ true → due ≡ false)
    → cond {A = Entry} due all_due (one (cond {A = Call} undone undo (cond {A = Call} carried execute c))) ≡ step_entry x
step_by true carried due c x e apart _ = let is : Undo ≡ x = cc in rw (apart refl, ← is) refl
step_by false true due c x e _ apart = let is : Execute ≡ x = cc in rw (apart refl, ← is) refl
step_by false false true c x e _ _ = let is : AllDue ≡ x = cc in rw (← is) refl
step_by false false false c x e _ _ = cc

message_by : (undone carried due : Bool) (c : Call)
    → (if undone then Some Undo else (if carried then Some Execute else (if due then Some AllDue else None))) ≡ None
    → cond {A = Entry} due all_due (one (cond {A = Call} undone undo (cond {A = Call} carried execute c))) ≡ one c
message_by false false false c e = refl
message_by false false true c e = cc
message_by false true due c e = cc
message_by true carried due c e = cc

module _ (s : List ℕ) (at : ℕ) where
  abbrev tag : ℕ
  tag = get_or s at 0

  abbrev call : Call
  call = message_call tag (message_at s (at + 1))

  pub entry-step : (x : Step) → step_with tag ≡ Some x → entry_at s at ≡ step_entry x
  unfolding entry_at call_at
  entry-step x e =
      step_by (eqb tag undo_tag) (eqb tag execute_tag) (eqb tag all_due_tag) call x e
      (λ undone. ne_eqb tag all_due_tag (λ due. omega (arith, eqb-true tag undo_tag undone, due)))
      (λ carried. ne_eqb tag all_due_tag (λ due. omega (arith, eqb-true tag execute_tag carried, due)))

  pub entry-message : step_with tag ≡ None → entry_at s at ≡ one call
  unfolding entry_at call_at
  entry-message e = message_by (eqb tag undo_tag) (eqb tag execute_tag) (eqb tag all_due_tag) call e

-- ---- the call of a message behind a tag

pub call-made : (tag : ℕ) (m : BusMessage) → tag ≡ invoke_tag → message_call tag m ≡ invoke (invocation_of (request_in m))
call-made tag m e = rw (eq-eqb tag invoke_tag e) refl

pub call_taken : (tag : ℕ) (m : BusMessage) → (tag ≡ invoke_tag → ⊥) → message_call tag m ≡ call_of m
call_taken tag m e = rw (ne_eqb tag invoke_tag e) refl

-- ---- an entry whose answer was put

pub put-done : {p q : State} {x : Entry} {a : Answer} {out out' : List ℕ} {n : ℕ} → Done p x (record { answer = a; state = q })
    → Written out (answer_bytes a) out' n → EntryPut p x out q out' n
put-done {out = out} {out' = out'} {n = n} d w = record {
  answer = subst (λ (a : Answer). Written out (answer_bytes a) out' n) d.answer w;
  state = d.state;
  invariant = d.invariant;
}

-- the same entry under another name
pub put_as : {p q : State} {x y : Entry} {out out' : List ℕ} {n : ℕ} → x ≡ y → EntryPut p y out q out' n → EntryPut p x out q out' n
put_as {p} {q} {out = out} {out' = out'} {n = n} e d = subst (λ (x : Entry). EntryPut p x out q out' n) (sym e) d

-- a call that was kept, whose answer was put
pub put-kept : {p q : State} {c : Call} {a : Answer} {out out' : List ℕ} {n : ℕ} → Kept p c (record { answer = a; state = q })
    → Written out (answer_bytes a) out' n → EntryPut p (one c) out q out' n
put-kept {p} {q} k w = put-done (done-one p _ _ k) w

-- what the same entry under another name changes
pub changed_as : {x y : Entry} → x ≡ y → (p q : Panel) → q ≡ entry_changes y p q → q ≡ entry_changes x p q
changed_as e p q others = subst (λ (x : Entry). q ≡ entry_changes x p q) (sym e) others

-- ---- what carrying out an entry changes

pub call_changed : (c : Call) {a : Answer} {p q : Panel} → CallDone p c a q → q ≡ entry_changes (one c) p q
call_changed (invoke i) d = d.others
call_changed (deliver x) d = d.others
call_changed (commit n) d = d.others
call_changed undo {p = p} d = changed_by (entry_changes (one undo) p) d.others refl
call_changed execute {p = p} d = changed_by (entry_changes (one execute) p) d.others refl

pub due_changed : {r : DueSteps} {p q : Panel} → DueKept p r q → q ≡ entry_changes all_due p q
due_changed {p = p} d = changed_by (entry_changes all_due p) d.others refl
