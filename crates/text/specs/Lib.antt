-- What the contracts cite: the texts, where they are put, and how long they get.
pub mod Text
pub mod Written
pub mod Sizes
