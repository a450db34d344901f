-- What the walk over a table's rows asks and hands back, in the words of the rules.
pub mod Tests
pub mod Tally
pub mod Walk
