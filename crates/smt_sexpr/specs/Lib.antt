-- What an s-expression means, and what reading gives.
pub mod Means
pub mod Items
pub mod Open
pub mod Reads
pub mod Views
pub mod Printing
pub mod Limited
