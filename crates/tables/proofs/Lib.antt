pub mod Reading
pub mod Fields
