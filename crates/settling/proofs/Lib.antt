-- Laws of a settlement: what is held, why it is refused, the plan and the execution after it, the whole outcome.
pub mod SettlingHeldLaws
pub mod SettlingRefusalLaws
pub mod SettlingPlanLaws
pub mod SettlingExecutionLaws
pub mod SettlingLaws
pub mod SettlingMovesLaws
