-- The assembler of Redcode: a text expands to lines, each line of code becomes an instruction whose
-- labels are distances, and the last ORG, or else END, gives the start. Every line is well formed,
-- every expression has a value, every assertion holds, and the warrior fits the rules.
pub mod Limits
pub mod Words
pub mod Form
pub mod Names
pub mod Instructions
pub mod Faults
pub mod Lines
pub mod Assembly
pub mod Seen
