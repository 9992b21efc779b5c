pub mod Lists
pub mod Circles
pub mod States
pub mod Kept
pub mod Listed
pub mod Growth
pub mod Marks
pub mod Joined
