-- Laws of a request that enters.
pub mod EnteringStates
pub mod EnteringLaws
