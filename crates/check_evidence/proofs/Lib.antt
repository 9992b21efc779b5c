-- Lemmas on what a check finds.
pub mod Causes
pub mod Printed
pub mod Asking
pub mod Assuming
pub mod Showing
