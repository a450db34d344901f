-- The definitions that the contracts of `finish` cite.
pub mod Flows
pub mod Call
