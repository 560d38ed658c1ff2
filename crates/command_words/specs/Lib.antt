-- The words of a command line name a command, or ask for help. A hill stands for five rules, each
-- option for what its word says, and a request has what its options and the names of its files say.
pub mod CommandLine
pub mod Help
pub mod Hills
pub mod Options
pub mod Requests
