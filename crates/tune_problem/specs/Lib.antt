-- A tuning starts from a template, opponents, a schedule and rules, and searches a part of the
-- template's settings. The optimum is the first setting with the greatest total. A certificate
-- names a best setting, and shows for each setting why it is not better: it does not assemble, it
-- has the warrior of another setting, or its cap does not beat the best setting. A valid
-- certificate names the optimum. A certificate with a floor shows that no setting reaches the
-- floor. The ranking has the candidates by their totals, the greatest first. Exact rows show the
-- first of it.
pub mod Limits
pub mod Parts
pub mod Inputs
pub mod Problem
pub mod Optimum
pub mod Ranking
pub mod Valid
pub mod Below
pub mod Exact
pub mod BestPart
