-- What std has no lemma for: what an answer and an option have.
use Rattle.std.proofs.Common.{◌≡◌, Result, Ok}
pub use Rattle.std.proofs.lemmas.Option.{same_Some as same_some}

pub same_ok : {A E : Type 0} (a b : A) → (let r : Result A E = Ok a in r) ≡ Ok b → a ≡ b
same_ok a b e = cc
