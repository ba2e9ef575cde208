-- A memory that holds a replica of `creek`, the right panel over it, and what is claimed of it.
pub mod Memory
pub mod RightPanel
pub mod Existence
