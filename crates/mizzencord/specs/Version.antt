-- The revision of the library, as MIZZENCORD_VERSION of its header has it; it changes with every layout of a struct or of a panel.
use Rattle.std.specs.Prelude.{ℕ}

abbrev pub version : ℕ
version = 1
