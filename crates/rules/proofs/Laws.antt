-- Laws that the proofs here and in the crates above cite.
pub mod Division
pub mod Bits
pub mod Sums
pub mod Walks
pub mod Lexical
pub mod Faults
pub mod Fields
