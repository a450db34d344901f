-- Laws that the proofs of several functions cite, and that callers cite.
pub mod Windows
pub mod Flags
pub mod Verdicts
pub mod Read
pub mod Area
pub mod Limit
