-- What the contracts cite.
pub mod LinesPut
