-- Tokens and expressions of Redcode, the language of Core War warriors. A text is a list of tokens,
-- each the longest from its first byte, and what ends them. An expression is the list of its
-- symbols, and its value is the value of the one tree that spells them. A name is reserved,
-- predefined or free.
pub mod Bytes
pub mod Signs
pub mod Headers
pub mod Tokens
pub mod Symbols
pub mod Grammar
pub mod Values
pub mod Reading
pub mod NameClasses
pub mod TokenTexts
pub mod Gaps
