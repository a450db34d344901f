-- Laws of placing that the proofs of the code cite.
pub mod OneSlot
pub mod Output
pub mod Packed
pub mod FullSlots
pub mod FlowLoop
pub mod Given
pub mod Runs
pub mod Serving
pub mod SlotRows
pub mod Steps
pub mod Underway
pub mod Finishes
-- the flows in service order beside the cluster's maintenance, for the crates above
pub mod Maintenance
pub mod FlowByFlow
pub mod TurnByTurn
