-- A text is what an input held. CERT is not overwritten if another word names it. What a run writes
-- depends on its command and its status.
pub mod Input
pub mod CertFile
pub mod Commands
pub mod Program
