-- Laws of what is found in a run of bytes.
pub mod FoundLaws
