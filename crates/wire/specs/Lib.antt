-- What the contracts cite: integers as bytes, the layout, messages, what the reader answers, by the head alone too, and what the writer
-- does; then that neither answers 5.
pub mod Integers
pub mod Layout
pub mod Message
pub mod Reader
pub mod Head
pub mod Writer
pub mod NeverClockBack
pub mod internal
