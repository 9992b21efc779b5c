-- Why bounds of a tableau cannot all be kept, as literals with weights; the step that says that not all of them hold;
-- and literals that are held, as bounds.
pub mod Reasons
pub mod Steps
pub mod Stops
pub mod BoundReasons
pub mod Held
pub mod Stated
pub mod Keeping
