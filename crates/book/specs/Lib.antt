-- The reader's promise, and what its records and arrays read as.
pub mod Promise
pub mod Records
pub mod Arrays
pub mod Late
pub mod Rows
pub mod Starts
