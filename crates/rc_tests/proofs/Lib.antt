-- Examples: the definitions of rc_text, rc_expand and rc_asm at concrete texts, computed.
pub mod TextExamples
pub mod ExpandExamples
pub mod AsmExamples
