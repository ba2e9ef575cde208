-- The worked example, laws of printing into lent bytes, and how long a printout is at most.
pub mod Worked
pub mod PrintedLaws
pub mod NarrowLaws
pub mod SizeLaws
