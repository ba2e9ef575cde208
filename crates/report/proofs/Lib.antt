-- The laws of the lines and of their sizes, and document 01's worked lines.
pub mod RegisterLaws
pub mod SizeLaws
pub mod WorkedLines
