-- What the contracts cite: the lines of the printout, and the most bytes of each.
pub mod Lines
pub mod Sizes
