-- What the reader hands back of a calendar, and what its shut slots leave in a work area and in flags.
pub mod Windows
pub mod Layout
pub mod Held
pub mod Area
