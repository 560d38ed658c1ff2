-- A warrior is code and a start, and its load file is the one spelling of it: equal files, equal
-- warriors. Rules are five numbers within limits; code that breaks them is refused with its first
-- fault. An outlet is a writer that gives up for good at its first failure.
pub mod Results
pub mod Instruction
pub mod DefaultModifier
pub mod Words
pub mod Limits
pub mod Rules
pub mod Warrior
pub mod Checks
pub mod Digits
pub mod Decimal
pub mod LoadText
pub mod LoadReaders
pub mod LoadMeaning
pub mod Appending
pub mod Outlet
