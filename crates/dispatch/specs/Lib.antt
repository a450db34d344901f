-- What the merge of a table's runs asks and hands back, in the words of the rules.
pub mod Accepted
pub mod Runs
pub mod Merge
pub mod Call
