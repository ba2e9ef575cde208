-- A text at the front of a list of bytes.
use Rattle.std.specs.Prelude.{ℕ, ◌≤◌, ◌≡◌, List, ◌++◌, length, drop}

-- out has room for the text
pub record Room (out text : List ℕ) : Type 0 where
  pub fits : length text ≤ length out

-- out' is out with the text at its front and every byte behind it as it was, and n is the number of bytes of the text
pub record Written (out text out' : List ℕ) (n : ℕ) : Type 0 where
  pub bytes : out' ≡ text ++ drop (length text) out
  pub count : n ≡ length text
