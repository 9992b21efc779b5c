-- Pivots of rows in solved form.
use Rattle.std.proofs.Common.{◌≡◌, ℕ, ◌==◌, false, List, [], ◌∷◌, sym, subst}
use Rattle.spec_tableaux.specs.Spaces.{IsSpace, as_space}
use Rattle.spec_tableaux.specs.Rows.{Row, Pivot, coefficient_of, row_of, without}
use Rattle.spec_tableaux.specs.SolvedForms.{AllRowVariables, IsNonbasic, IsSolved, IsPivot}
use Rattle.spec_tableaux.specs.CheckOverflows.{pivot_in}
use Rattle.spec_tableaux.specs.Numbers.{Number, numbers}
use Rattle.spec_tableaux.proofs.Numbers.{numbers_are_ordered_field}
use Rattle.spec_tableaux.proofs.OrderedSpaces.{field_is_space}
use Rattle.spec_tableaux.proofs.SolvedForms.{apart, tidy_quotients, tidy_without, tidy_row, over_quotients, over_without, over_row, over_more}
use Rattle.tableau.specs.Pivots.{IsTidyPivot, AreReady}

pub number_space : IsSpace (as_space numbers)
number_space = field_is_space numbers numbers_are_ordered_field

-- what rows are over, for another reason
pub are_over_more : (p q : ℕ → Type 0) (rs : List (Row Number)) → ((y : ℕ) → p y → q y) → AllRowVariables p rs → AllRowVariables q rs
are_over_more p q [] w o = tt
are_over_more p q (r ∷ rs) w o = (over_more p q r.entries w o.0, are_over_more p q rs w o.1)

pivot_ready : (rs : List (Row Number)) (b x : ℕ) → IsSolved numbers rs → IsPivot numbers rs b x → IsTidyPivot (pivot_in rs b x)
pivot_ready rs b x i h =
    let es = (row_of b rs).entries in
    let n : ℕ → Type 0 = λ y. (y == b) ≡ false in
    record {
      tidy = tidy_quotients (as_space numbers) number_space 0 (coefficient_of numbers x es) (without x es) h.entry (tidy_without (as_space numbers) 0 x es (tidy_row (as_space numbers) b rs i.tidy));
      new = over_quotients (as_space numbers) n (coefficient_of numbers x es) (without x es)
          (over_more (λ y. IsNonbasic rs y × ((y == x) ≡ false)) n (without x es) (λ y o. apart b y rs h.basic o.0)
          (over_without (as_space numbers) (IsNonbasic rs) 0 x es (tidy_row (as_space numbers) b rs i.tidy) (over_row (IsNonbasic rs) b rs i.nonbasic)));
    }

pub rows_ready : (rs : List (Row Number)) (b x : ℕ) (p : Pivot Number) → IsSolved numbers rs → IsPivot numbers rs b x → p ≡ pivot_in rs b x → AreReady p rs
rows_ready rs b x p i h e = subst (λ z. AreReady z rs) (sym e) (record {
  pivot = pivot_ready rs b x i h;
  tidy = i.tidy;
  new = are_over_more (IsNonbasic rs) (λ y. (y == b) ≡ false) rs (λ y o. apart b y rs h.basic o) i.nonbasic;
})
