-- Laws of the check.
pub mod TableRows
pub mod Jobs
pub mod TestNumbers
pub mod Keys
pub mod Mapped
pub mod SoFar
pub mod Tallies
pub mod RowFaults
pub mod Started
pub mod Turns
pub mod Counting
pub mod Leaving
pub mod Asking
pub mod Heads
pub mod Finals
pub mod Flows
pub mod Judging
