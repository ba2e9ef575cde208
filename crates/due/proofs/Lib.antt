-- Laws of all due steps: of a state, then of a panel in place.
pub mod OwnLaws
pub mod DueLaws
pub mod LoopLaws
