-- Rules 1 to 3 and 5: durations and ends, pseudo-jobs, the units of a slot.
pub mod Ideal
pub mod PseudoJobs
pub mod Shares
