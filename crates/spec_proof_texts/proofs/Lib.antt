-- The lemmas of this crate.
pub mod Numbers
mod Placed
mod Told
pub mod Planned
pub mod Assumed
pub mod Names
mod MovedArguments
pub mod Written
pub mod Lexed
pub mod Lookups
pub mod Room
pub mod Known
mod ShortNumbers
pub mod Arguments
pub mod Heads
pub mod CommandShapes
pub mod MadeKnown
pub mod EachLine
pub mod Sizes
pub mod AllLines
pub mod Weights
pub mod Made
pub mod ScriptNames
pub mod Sorted
pub mod Given
pub mod Refutation
pub mod ReadNumbers
pub mod ReadableHeads
pub mod Filled
pub mod Readings
pub mod Stacks
pub mod Search
pub mod WholeTexts
