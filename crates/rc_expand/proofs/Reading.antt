-- The steps of the first pass: lines, blocks, EQU names and their table.
pub mod EquSteps
pub mod ReadSteps
pub mod LabelSteps
pub mod TableFound
pub mod TableIndices
pub mod TextFaults
pub mod NestingSteps
pub mod BlockSteps
pub mod SliceSteps
pub mod LabelLaws
