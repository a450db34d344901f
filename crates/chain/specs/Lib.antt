-- The definitions that the contracts of `chain` cite.
pub mod Jobs
pub mod Runs
pub mod Alone
