-- The expansion of Redcode: the lines of a text are read up to END, FOR blocks give way to their
-- copies, outer blocks first, and EQU names give way to their tokens. Each pass gives its result or
-- the fault that it meets first, with its line.
pub mod Limits
pub mod Results
pub mod Names
pub mod Equs
pub mod Contexts
pub mod NameTables
pub mod Read
pub mod Unroll
pub mod Replace
pub mod Expansion
