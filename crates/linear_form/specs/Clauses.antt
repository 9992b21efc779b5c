-- What the pairs of negations and arguments mean that the code makes of a clause.
use Rattle.std.specs.Prelude.{◌≡◌, List, [], ◌∷◌, ◌++◌, map, All, Vec, Option, Some, None, Result, Ok, Err}
use Rattle.std.specs.declared.alloc.Global.{Global}
use Rattle.spec_text.specs.Answers.{◌>>=◌}
use Rattle.spec_numbers.specs.Fractions.{Fraction}
use Rattle.spec_arithmetic.specs.Contradictions as sums
use Rattle.spec_arithmetic.specs.Contradictions.{given, too_wide, as_failure, parts_of, judged_parts}
use Rattle.ratio128.specs.declared.ratio.Ratio.{Ratio}
use Rattle.ratio128.specs.Meant.{fraction}
use Rattle.term_core.specs.Tables.{TableView}
use Rattle.linear_form.specs.declared.coeff.Coeff.{Coeff}
use Rattle.linear_form.specs.declared.coeff.Coeff.TheVariants as coeffs
use Rattle.linear_form.specs.declared.literals.Negation.{Negation}
use Rattle.linear_form.specs.declared.stop.FormStop.{FormStop}
use Rattle.linear_form.specs.declared.stop.FormStop.TheVariants as stops
use Rattle.linear_form.specs.Coefficients.{coefficient_meant}
use Rattle.linear_form.specs.Literals.{one_meant, AreSidesIn}

-- what a negation says, with its argument
abbrev pub pair_meant : TableView → Negation × Coeff → sums.Negation × sums.Coefficient
pair_meant t p = (one_meant t p.0, coefficient_meant p.1)

-- the same of each, in their order
abbrev pub pairs_meant : TableView → List (Negation × Coeff) → List (sums.Negation × sums.Coefficient)
pairs_meant t ps = map (pair_meant t) ps

-- the same, where there are pairs
abbrev pub pairs_option : TableView → Option (Vec (Negation × Coeff) Global)
    → Option (List (sums.Negation × sums.Coefficient))
pairs_option t None = None
pairs_option t (Some v) = Some (pairs_meant t v.items)

-- both numbers of a negation are of the table
abbrev pub HasPairIn : TableView → Negation × Coeff → Type 0
HasPairIn t p = AreSidesIn t p.0

-- and so are those of each
abbrev pub HavePairsIn : TableView → List (Negation × Coeff) → Type 0
HavePairsIn t ps = All (HasPairIn t) ps

-- what a negation says, with the number that its argument is
abbrev pub number_meant : TableView → Negation × Ratio → sums.Negation × Fraction
number_meant t p = (one_meant t p.0, fraction p.1)

-- the same of each, in their order
abbrev pub numbered_meant : TableView → List (Negation × Ratio) → List (sums.Negation × Fraction)
numbered_meant t ps = map (number_meant t) ps

-- both numbers of a negation are of the table
abbrev pub HasNumberIn : TableView → Negation × Ratio → Type 0
HasNumberIn t p = AreSidesIn t p.0

-- and so are those of each
abbrev pub HaveNumbersIn : TableView → List (Negation × Ratio) → Type 0
HaveNumbersIn t ps = All (HasNumberIn t) ps

-- a negation with its argument, where this is one
abbrev pub with_coefficient : Negation → Coeff → Option (Negation × Coeff)
with_coefficient n (coeffs.Number k) = Some (n, coeffs.Number k)
with_coefficient n (coeffs.Wide w) = Some (n, coeffs.Wide w)
with_coefficient n coeffs.Shape = None

-- what a negation says with its argument, where there is one
abbrev pub pair_option : TableView → Option (Negation × Coeff) → Option (sums.Negation × sums.Coefficient)
pair_option t None = None
pair_option t (Some p) = Some (pair_meant t p)

-- a negation with its argument, where both are well formed
abbrev pub paired_one : Option sums.Negation → sums.Coefficient → Option (sums.Negation × sums.Coefficient)
paired_one (Some n) (given k) = Some (n, given k)
paired_one (Some n) (too_wide w) = Some (n, too_wide w)
paired_one n c = None

-- what is there, before the rest
abbrev pub option_front : {A : Type 0} → List A → Option (List A) → Option (List A)
option_front xs None = None
option_front xs (Some ys) = Some (xs ++ ys)

-- a number is put after those that are there, or the result is its overflow; out of memory says nothing
abbrev pub PushesBy : Negation → Coeff → Result (Unit {0}) FormStop → List (Negation × Ratio) → List (Negation × Ratio)
    → Type 0
PushesBy n (coeffs.Number k) (Ok u) old new = new ≡ old ++ (n, k) ∷ []
PushesBy n (coeffs.Wide w) (Err (stops.Wide v)) old new = w ≡ v
PushesBy n coeffs.Shape (Ok u) old new = new ≡ old
PushesBy n c (Err stops.Memory) old new = Unit {0}
PushesBy n c r old new = ⊥

-- the same of a pair
abbrev pub Pushes : Negation × Coeff → Result (Unit {0}) FormStop → List (Negation × Ratio) → List (Negation × Ratio)
    → Type 0
Pushes p r old new = PushesBy p.0 p.1 r old new

-- the clause by its negations with their numbers
unfoldable pub judged_numbers : List (sums.Negation × Fraction) → Result (Unit {0}) sums.Failure
judged_numbers ns = as_failure (parts_of ns) >>= λ qs. judged_parts qs
