-- Values of listed terms, the interpretation that they give, values from classes, and where a search is saturated.
pub mod Tables
pub mod Classes
pub mod Saturation
pub mod Propositional
