-- The texts of values and models, what they mean, and the lines of other responses.
pub mod Values
pub mod Models
pub mod Meaning
pub mod Examples
pub mod Replies
pub mod ReplyExamples
