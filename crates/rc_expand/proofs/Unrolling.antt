-- The steps of the second pass: copies, and lines that are made of them.
pub mod Copies
pub mod UnrollSteps
pub mod Reaching
pub mod Short
pub mod CountSteps
