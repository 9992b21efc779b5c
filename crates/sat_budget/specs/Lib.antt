-- What a budget holds, and what is spent of it.
pub mod Budgets
