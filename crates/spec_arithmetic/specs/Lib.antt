-- Ordered linear forms of terms, sums of them that cannot hold, and the rules of arithmetic.
pub mod Signs
pub mod Forms
pub mod Numbers
pub mod Contradictions
pub mod Coefficients
pub mod ArithmeticRules
pub mod Examples
