-- A schedule is a text of comma-separated records: a header, then 1 to `MOST_FIGHTS` fights.
-- A text that is not a schedule is refused for its first fault, at the record that has it.
-- A fight gives the candidate the points of the machine's outcome, and leaves a blank arena blank.
pub mod Limits
pub mod Listed
pub mod Faults
pub mod Schedule
pub mod Play
