-- The definitions that contracts cite: the shapes of commands, what is known of a proof, what reading a command and its
-- parts comes to, how the number of an argument is read, and which commands are to come.
pub mod Shapes
pub mod Naming
pub mod Holding
pub mod Reads
pub mod Parts
pub mod Coefficients
pub mod Endings
pub mod Remaining
