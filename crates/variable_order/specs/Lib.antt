-- What an order of variables holds, and how its fields fit together.
pub mod Orders
pub mod Rows
pub mod Kept
