-- Laws of a panel's memory: what keeps a call's promise, how the map looks at the memory, the log, the states that the calls lead to, and
-- the laws of fresh and of the showing calls.
pub mod States
pub mod KeptLaws
pub mod ModelLaws
pub mod RequestLaws
pub mod LogLaws
pub mod FreshLaws
pub mod BoundLaws
pub mod ShowingLaws
pub mod ChangesLaws
pub mod UsesLaws
