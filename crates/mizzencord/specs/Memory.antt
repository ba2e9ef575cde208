-- A panel in place, as the state that the contracts of the calls speak of, that of the replica which it is; and its spare bytes.
use Rattle.std.specs.Prelude.{ℕ, List, ◌≡◌}
use Rattle.replica.specs.State.{State}
use Rattle.replica.specs.Memory as replica
use Rattle.mizzencord.specs.declared.Panel.{Panel}

abbrev pub memory : Panel → State
memory p = replica.memory p.replica

-- the bytes of p that no call looks at
abbrev pub spare : Panel → List ℕ
spare p = p.replica.spare

-- the spare bytes of q are those of p
abbrev pub SameSpare : Panel → Panel → Type 0
SameSpare p q = spare q ≡ spare p
