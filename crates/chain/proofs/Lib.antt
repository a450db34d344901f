-- Laws that the proofs of several functions cite.
pub mod Durations
pub mod Lowest
pub mod Starts
pub mod Leasts
pub mod Takes
pub mod Parts
pub mod Ended
pub mod Cuts
pub mod Alone
pub mod Walked
