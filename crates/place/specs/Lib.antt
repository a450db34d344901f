-- The definitions that the contracts of `place`, and of the crates that place flow after flow by it, cite.
pub mod Output
pub mod Service
pub mod Units
pub mod Flows
pub mod Order
pub mod Turns
