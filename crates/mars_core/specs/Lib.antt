-- A core is a list of instructions. A step leads from a core and an address to a core and what it
-- queues. A fight alternates turns of two sides over one core and two queues, until a side has no
-- task. An arena is such a state, whatever keeps its cells.
pub mod Core
pub mod Operand
pub mod Pairs
pub mod Step
pub mod State
pub mod Fight
pub mod Codes
pub mod Classes
pub mod Packed
pub mod Store
pub mod Executed
pub mod Queue
pub mod Played
pub mod Arena
