-- Laws of placing up to one flow that the proofs of the code cite.
-- a state in a local that is lent by `&mut`
pub mod Local
-- what walks of `step` and `place_next` by hand share; the check finds the proof of `step` by itself
pub mod Walks
pub mod Flows
pub mod Call
