-- What an operation does and responds, which registers it touches, and replays of operations; then what is claimed of moves and of claims
-- of registers together, and worked cases.
pub mod Effect
pub mod Touched
pub mod Replay
pub mod Moves
pub mod Claims
pub mod internal
pub mod examples
