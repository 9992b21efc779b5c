-- Classes of terms, the rings that their members are in, and what there was at marks.
pub mod Classes
pub mod Rings
pub mod Kept
