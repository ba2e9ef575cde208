-- Laws of the status of a request.
pub mod LeadingLaws
pub mod StatusLaws
