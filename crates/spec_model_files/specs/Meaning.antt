-- When a body means by SMT-LIB what is read of it: each sort and each parameter has a name of its own.
use Rattle.std.specs.Prelude.{◌≡◌, ℕ, false, List, [], ◌∷◌, map, Ok}
use Rattle.spec_text.specs.Bytes.{Name, among}
use Rattle.spec_sorts.specs.Terms.{Sort, Declared}
use Rattle.spec_sorts.specs.Theory.{is_of_theory}
use Rattle.spec_sorts.specs.Signatures.{Signature}
use Rattle.spec_reading.specs.Sorts.{sort_named}
use Rattle.spec_model_files.specs.Bodies.{Parameters}

-- no declared sort has another name than its own
abbrev pub HasOwnSortNames : Signature → Type 0
HasOwnSortNames g = (at : ℕ) (n m : Name) → sort_named g at n ≡ Ok (Declared m) → n ≡ m

-- the names of parameters
abbrev pub parameter_names : Parameters → List Name
parameter_names ps = map (λ (p : Name × Sort). p.0) ps

-- the parameters have names of their own, and none has that of a theory
abbrev pub HaveOwnNames : Parameters → Type 0
HaveOwnNames [] = Unit {0}
HaveOwnNames (p ∷ ps) =
    (is_of_theory p.0 ≡ false) × (among (parameter_names ps) p.0 ≡ false) × HaveOwnNames ps
