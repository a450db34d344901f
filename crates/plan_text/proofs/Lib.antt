-- What the proofs of the lines cite, and what the lines of the planner's answers are.
pub mod Pieces
pub mod LineCases
pub mod LentText
pub mod TableText
pub mod PrintedAnswers
pub mod Decimal
