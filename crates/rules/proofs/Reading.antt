-- The reading of books, their versions and caps, service order, books that are cut.
pub mod Caps
pub mod Passing
pub mod RoundTrip
pub mod Encodings
pub mod Versions
pub mod ServiceOrder
pub mod CutBook
pub mod Position
pub mod SameUse
pub mod Lowered
