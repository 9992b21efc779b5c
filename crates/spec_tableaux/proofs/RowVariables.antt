-- Exchanges are of the rows' variables.
use Rattle.std.proofs.Common.{◌≡◌, ℕ, suc, ◌^◌, ◌<◌, ◌≤◌, Bool, true, false, List, [], ◌∷◌, length, refl, sym, arith, ◌==◌, subst}
use Rattle.std.proofs.lemmas.Bool.Decides.{nat_tests}
use Rattle.spec_tableaux.specs.Spaces.{Space, IsSpace, IsOrdered}
use Rattle.spec_tableaux.specs.Rows.{Row, pivot_of, row_of, is_basic, exchanged, coefficient_of, without, negated}
use Rattle.spec_tableaux.specs.SolvedForms.{AllVariables, IsSolved, IsPivot}
use Rattle.spec_tableaux.specs.Ranges.{Range}
use Rattle.spec_tableaux.specs.LeastVariable.{State, MakesPivots, AreUnder, IsNonbasicFeasible}
use Rattle.spec_tableaux.proofs.SolvedForms.{nonbasic_after, over_after, over_put, over_negated, over_quotients, over_more, over_without, over_row, tidy_row}
use Rattle.spec_tableaux.proofs.Returns.{over_entry, says_pivot, one_step}
use Rattle.spec_tableaux.proofs.Ends.{rule_ends, triple_is}
use Rattle.spec_tableaux.specs.States.{AreBelow}

entering_below : {A V : Type 0} (s : Space A V) → IsSpace s → (n b x : ℕ) (rs : List (Row A)) → AreBelow n rs → IsPivot s.numbers rs b x → x < n
entering_below s l n b x rs h f = over_entry s l (λ y. y < n) x (row_of b rs).entries (over_row (λ y. y < n) b rs h.entries) f.entry

exchange_below : {A V : Type 0} (s : Space A V) → IsSpace s → (n b x : ℕ) (rs : List (Row A)) → IsSolved s.numbers rs → AreBelow n rs → IsPivot s.numbers rs b x → AreBelow n (exchanged s.numbers b x rs)
exchange_below s l n b x rs i h f = record {
  basics = λ y e. by y e (is_basic y rs) refl (x == y) refl;
  entries = over_after s l (λ y. y < n) (λ y. y < n) (pivot_of s.numbers b x (row_of b rs).entries) rs (record { stay = λ y k d. k; leave = left; others = others }) i.tidy h.entries
      (over_put s (λ y. y < n) b _ (negated s.numbers _) left (over_negated s (λ y. y < n) _ others));
}
  where
    low : x < n
    low = entering_below s l n b x rs h f

    left : b < n
    left = h.basics b f.basic

    others : AllVariables (λ y. y < n) (pivot_of s.numbers b x (row_of b rs).entries).others
    others = over_quotients s (λ y. y < n) (coefficient_of s.numbers x (row_of b rs).entries) (without x (row_of b rs).entries)
        (over_more (λ y. (y < n) × ((y == x) ≡ false)) (λ y. y < n) (without x (row_of b rs).entries) (λ y k. k.0) (over_without s (λ y. y < n) 0 x (row_of b rs).entries (tidy_row s b rs i.tidy) (over_row (λ y. y < n) b rs h.entries)))

    by : (y : ℕ) → is_basic y (exchanged s.numbers b x rs) ≡ true → (p : Bool) → is_basic y rs ≡ p → (q : Bool) → (x == y) ≡ q → y < n
    by y e true g q k = h.basics y g
    by y e false g true k = let w : x ≡ y = grind (arith, nat_tests) in subst (λ z. z < n) w low
    by y e false g false k = absurd (let z : is_basic y (exchanged s.numbers b x rs) ≡ false = nonbasic_after s (pivot_of s.numbers b x (row_of b rs).entries) y rs g k in cc)

under : {A V : Type 0} (s : Space A V) → IsSpace s → IsOrdered s → (ranges : ℕ → Range V) (n : ℕ) (t u : State A V) (es : List (ℕ × ℕ)) → IsSolved s.numbers t.rows → IsNonbasicFeasible s ranges t → AreBelow n t.rows → MakesPivots s ranges t es u → AreUnder n es
under s l o ranges n t u [] i k h m = tt
under s l o ranges n t u (e ∷ es) i k h m =
    let f = says_pivot s l ranges t e.0 e.1 i m.0 in
    let next = one_step s l o ranges t m.1.0 e.0 e.1 i k m.0 m.1.1 in
    let low : AreBelow n m.1.0.rows = subst (AreBelow n) (sym m.1.1.rows) (exchange_below s l n e.0 e.1 t.rows i h f) in
    (h.basics e.0 f.basic, entering_below s l n e.0 e.1 t.rows h f, under s l o ranges n m.1.0 u es next.solved next.nonbasic_updated low m.1.2)

pub ends_below : {A V : Type 0} (s : Space A V) → IsSpace s → IsOrdered s → (ranges : ℕ → Range V) (n : ℕ) (t u : State A V) (es : List (ℕ × ℕ)) → IsSolved s.numbers t.rows → IsNonbasicFeasible s ranges t → AreBelow n t.rows → MakesPivots s ranges t es u
    → suc (length es) ≤ 3 ^ n
ends_below s l o ranges n t u es i k h m = subst (λ x. suc (length es) ≤ x) (triple_is n) ((rule_ends s l o ranges n).is t u es i k m (under s l o ranges n t u es i k h m))
