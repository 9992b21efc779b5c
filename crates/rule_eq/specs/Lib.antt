-- What a rule of equality says of terms of the table.
pub mod Reasoning
pub mod Judging
