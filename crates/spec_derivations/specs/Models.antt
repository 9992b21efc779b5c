-- Truths that meet clauses, and what they say of terms. Source: Tseitin 1968.
use Rattle.std.specs.Prelude.{◌≡◌, Bool, true, ◌&&◌, List, [], map, All}
use Rattle.std.specs.List.{list_any}
use Rattle.spec_sorts.specs.Terms.{Apply, Truth, Term, app, list_of, sort_of, same_sort, all_same, head_takes}
use Rattle.spec_sorts.specs.Values.{Value, truth, Interpretation}
use Rattle.spec_sorts.specs.TermValues.{head_value}
use Rattle.spec_sorts.specs.Literals.{Clause}
use Rattle.spec_rules.specs.Truths.{Truths, term_true_by}

-- one term of each clause is true
abbrev pub SatisfiesClauses : Truths → List Clause → Type 0
SatisfiesClauses v cs = All (λ c. list_any (term_true_by v) c ≡ true) cs

-- the head takes the arguments, and these and the term are of sort Bool
abbrev pub joins_formulas : Term → Bool
joins_formulas (app h ts) = head_takes [] h (map sort_of (list_of ts)) && all_same Truth (map sort_of (list_of ts))
    && same_sort Truth (sort_of (app h ts))

-- the value that the truths give a term of sort Bool
abbrev pub value_by : Truths → Term → Value
value_by v t = truth (term_true_by v t)

-- the term has the value that its head gives at its arguments' values; of a declared symbol nothing is asked
abbrev pub Obeys : Truths → Term → Type 0
Obeys v (app (Apply s) ts) = Unit {0}
Obeys v (app h ts) = (i : Interpretation) → value_by v (app h ts) ≡ head_value i h (map (value_by v) (list_of ts))
