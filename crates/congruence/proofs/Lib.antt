-- What calls of a closure are as calls of a theory.
pub mod Views
pub mod Terms
pub mod Conflicts
pub mod Checking
pub mod Taking
pub mod Shown
pub mod Implied
