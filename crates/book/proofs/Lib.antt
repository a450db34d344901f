-- Laws that the proofs of several functions cite.
pub mod Stores
pub mod Records
pub mod Verdicts
pub mod Stands
pub mod Filled
pub mod Starts
pub mod Served
pub mod LateFlows
