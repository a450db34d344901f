-- Laws of the merge.
pub mod Runs
pub mod Keeping
pub mod Cursors
pub mod Tables
pub mod Listing
pub mod Search
pub mod Steps
pub mod Calls
