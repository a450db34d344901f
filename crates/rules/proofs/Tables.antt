-- Tables and lists, and what the check accepts.
pub mod TableBytes
pub mod ListBytes
pub mod TablePasses
pub mod AcceptedRows
