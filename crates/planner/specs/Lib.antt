-- The definitions that the contracts of `planner` cite.
pub mod Head
pub mod Whole
pub mod Call
