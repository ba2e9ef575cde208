-- The laws of the operations on one register.
pub mod OneRegisterLaws
