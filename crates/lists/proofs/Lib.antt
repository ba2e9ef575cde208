-- The laws of tests and lists, for the crates above.
pub mod BoolLaws
pub mod ListLaws
pub mod OrderedLaws
pub mod AllLaws
pub mod PlaceLaws
pub mod StartLaws
pub mod MapLaws
pub mod StepLaws
pub mod HalvesLaws
pub mod TallyLaws
