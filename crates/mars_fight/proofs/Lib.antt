pub mod Walking
pub mod Listed
pub mod Points
