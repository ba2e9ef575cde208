-- What the contracts cite.
pub mod Place
