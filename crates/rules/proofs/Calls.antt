-- The cases of a call, and what stands in the output of an accepted one.
pub mod CallCases
pub mod WrittenPlans
