-- What a call does not change: that a panel which was put together from another one is that one but for some fields; and what a call that
-- was done on every panel with what it uses is on the panel itself.
use mathlib.Core.Path.{◌≡◌, sym, ap, subst, ◌∙◌}
use Rattle.creek.specs.declared.Answer.{Answer}
use Rattle.creek.specs.Book.{Call, invoke, deliver, commit, undo, execute}
use Rattle.replica.specs.declared.Panel.{Panel}
use Rattle.replica.specs.Promises.{Kept}
use Rattle.replica.specs.Changes.{call_changes}
use Rattle.replica.specs.Memory.{memory, Done}
use Rattle.replica.specs.internal.Model.{Inv}

-- q is what those changes make of it where it is a panel that they leave as it is
pub changed_by : (changes : Panel → Panel) {q x : Panel} → q ≡ x → changes x ≡ x → q ≡ changes q
changed_by changes is same = is ∙ sym same ∙ sym (ap changes is)

-- ---- the promise of a call, of the panel that it was done on

become : (c : Call) (a : Answer) (p q : Panel) → q ≡ call_changes c a p q
    → Kept (memory p) c (record { answer = a; state = memory (call_changes c a p q) }) → Kept (memory p) c (record { answer = a; state = memory q })
become c a p q others kept = subst (λ (z : Panel). Kept (memory p) c (record { answer = a; state = memory z })) (sym others) kept

pub kept_here : (c : Call) {a : Answer} {p q : Panel} → Done p c a q → Inv (memory p) → Kept (memory p) c (record { answer = a; state = memory q })
kept_here (invoke i) {a} {p} {q} d inv = become (invoke i) a p q d.others (d.kept p inv)
kept_here (deliver x) {a} {p} {q} d inv = become (deliver x) a p q d.others (d.kept p inv)
kept_here (commit n) {a} {p} {q} d inv = become (commit n) a p q d.others (d.kept p inv)
kept_here undo {a} {p} {q} d inv = become undo a p q d.others (d.kept p inv)
kept_here execute {a} {p} {q} d inv = become execute a p q d.others (d.kept p inv)
