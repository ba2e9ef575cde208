-- What the contracts cite: integers as bytes, the widths and places of fields, and what stands in them.
pub mod Integers
pub mod Widths
pub mod Contents
