-- Reasons of two literals.
mod Reasons
