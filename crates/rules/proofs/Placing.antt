-- Placing, what it guarantees, and what a refusal proves.
pub mod OpenSlots
pub mod Usable
pub mod Greedy
pub mod Necessity
pub mod Refusal
pub mod PlacedFlow
pub mod PlannedRows
pub mod PlannedValid
pub mod PlannedTable
pub mod CutPlan
pub mod Infeasible
