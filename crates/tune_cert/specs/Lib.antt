-- A certificate has one text, and a text spells at most one certificate. The verdict on bytes is
-- Accepted exactly if they spell a valid certificate, and then names the optimum. A rejection names
-- the first record at which a check fails, and why. A certificate is valid exactly if it is valid
-- in each share of its rows. A check with a demand also takes certificates that no setting reaches
-- a floor, and asks of rows that they show the first K of the ranking.
pub mod CertText
pub mod Spelling
pub mod Checks
pub mod Verdict
pub mod Judgement
pub mod Shares
pub mod Steps
