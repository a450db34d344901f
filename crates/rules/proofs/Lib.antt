-- What follows from the rules, a folder a topic. `Demands` first: the theorem of all demands, and one file for each below it.
pub mod Demands
-- the cases of a call, and what stands in the output of an accepted one
pub mod Calls
-- laws of numbers, walks, verdicts and fields, which the proofs here and in the crates above cite
pub mod Laws
-- the reading of books, their versions and caps, service order, books that are cut
pub mod Reading
-- rules 1 to 3 and 5
pub mod Chains
-- rows: their order, their sums, the schedule that they state, the work area
pub mod Rows
-- placing, what it guarantees, and what a refusal proves
pub mod Placing
-- tables and lists, and what the check accepts
pub mod Tables
