-- A search visits the start setting first, then the others in order, and keeps the first of the
-- ranking of those visited. It plays the fights of a setting in an order, until its cap no longer
-- contends or none is left; a setting with the warrior of a recent one shares the fights of that
-- one. By the method `PlayingAll` it plays all fights of each setting, and finds the same optimum.
pub mod Limits
pub mod Method
pub mod Plays
pub mod Order
pub mod Visits
pub mod Ranking
pub mod Recent
pub mod Sharing
pub mod Found
pub mod Findings
pub mod Cache
pub mod State
