-- Two sets of numbers in words.
pub mod Lacked
pub mod Union
