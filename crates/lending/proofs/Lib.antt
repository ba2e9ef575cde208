-- What the walks of calls on a struct behind a reference share, lowest first.
pub mod Within
pub mod Values
pub mod Locals
pub mod Reading
pub mod Passing
pub mod Ahead
pub mod Choosing
pub mod Dropped
