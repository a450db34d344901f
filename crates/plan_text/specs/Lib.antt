-- The pieces of a line, the lines of an answer, and what the program prints.
pub mod Put
pub mod Lines
pub mod Printed
