-- The laws of the reader's place.
pub mod PlaceLaws
