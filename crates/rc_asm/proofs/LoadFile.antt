-- A load file assembles to its warrior.
pub mod Printed
pub mod Instructions
pub mod Lines
pub mod Pieces
pub mod Rows
pub mod NoHeader
pub mod Tokens
pub mod Expansion
pub mod Length
pub mod Whole
