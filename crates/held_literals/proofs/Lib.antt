pub mod Rooms
pub mod Marks
