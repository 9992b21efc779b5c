-- Numbers in the place of the infinitesimal.
pub mod Values
