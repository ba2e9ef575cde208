-- Laws of undo and of execute: of a state, then of a panel in place.
pub mod UndoLaws
pub mod ExecuteLaws
pub mod StepLaws
