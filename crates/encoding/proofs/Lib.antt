-- The laws of the encoding, for the crates above.
pub mod SizeLaws
pub mod MessageLaws
pub mod DueLaws
pub mod Expanded
pub mod CallLaws
pub mod Unread
pub mod Examples
