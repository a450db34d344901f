-- The marked plans: their bytes, and what is shown of them.
pub mod Listings
pub mod Plans
