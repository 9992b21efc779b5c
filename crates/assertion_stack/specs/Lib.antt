-- The definitions that contracts cite: what a stack of the code holds, the stack of the definitions that it represents
-- in a table, what commands make of it, and what literals are read as.
pub mod Views
pub mod Assertions
pub mod Printing
pub mod Rows
pub mod Levels
pub mod Stacks
pub mod LiteralSymbols
pub mod Literals
