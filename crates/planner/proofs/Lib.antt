-- Laws of the planner that the proofs of the code cite: the table, put together; the flows in service order with their
-- rows; the outcome of a call.
pub mod Assembly
pub mod FirstFlows
pub mod Outcome
