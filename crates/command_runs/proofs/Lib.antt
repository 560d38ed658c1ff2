pub mod Endings
pub mod ReadLimits
pub mod Told
