-- A template is a Redcode text that leaves up to `MOST_CONSTANTS` constants open, each with a span
-- of values. Its settings are all lists of one value for each constant, in lexicographic order with
-- the first constant slowest. An instance is the warrior to which the text assembles with a
-- setting's values.
pub mod Limits
pub mod Lines
pub mod Spans
pub mod Faults
pub mod Ranges
pub mod Vectors
pub mod Instances
pub mod Laws
pub mod Steps
