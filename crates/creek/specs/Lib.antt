-- What is to be believed of the protocol, from lists to demand 3; what else is claimed of it; what only proofs cite; and examples.
pub mod Plan
pub mod Execution
pub mod Book
pub mod Replies
pub mod Calls
pub mod History
pub mod Showing
pub mod Status
pub mod Demand
pub mod StableReply
pub mod Waiting
pub mod Clocks
pub mod Moves
pub mod Agreement
pub mod internal
pub mod examples
