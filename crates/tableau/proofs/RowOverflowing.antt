-- The overflows of parts of an exchange are those of the whole.
use Rattle.std.proofs.Common.{◌≡◌, ℕ, ◌==◌, Bool, true, false, cond, List, [], ◌∷◌, Contains, inl, inr, subst}
use Rattle.std.proofs.lemmas.List.Elements.{Contains-append_left, Contains-append_right, Contains-append_cases}
use Rattle.spec_numbers.specs.Bounds.{Overflow, divided}
use Rattle.spec_tableaux.specs.Rows.{Entry, Row, Pivot, coefficient_of, row_of, without}
use Rattle.spec_tableaux.specs.CheckOverflows.{Overflows, IsOther, pivot_in, OverflowsExchange, factor, quotient, leaving_product, product, difference}
use Rattle.spec_tableaux.specs.Numbers.{Number, numbers}
use Rattle.tableau.specs.Sums.{OverflowsCombined, in_product, in_sum}
use Rattle.tableau.specs.Pivots.{OverflowsQuotients, OverflowsPivot, in_factor, in_quotient, OverflowsRow, in_leaving, in_others, OverflowsOther}

pub of_quotients : (x : ℕ) (es rest : List (Entry Number)) (d : Number) → rest ≡ without x es → d ≡ coefficient_of numbers x es → (o : Overflow) → OverflowsQuotients rest d o → OverflowsPivot x es o
of_quotients x es rest d e g o s =
    in_quotient s.entry (subst (λ (z : List (Entry Number)). Contains z s.entry) e s.there) (subst (λ z. Overflows divided s.entry.coefficient z o) g s.wide)

pub of_combined : (p : Pivot Number) (c : Number) (es rest others : List (Entry Number)) → rest ≡ without p.entering es → others ≡ p.others → (o : Overflow) → OverflowsCombined true rest c others o → OverflowsRow p c es o
of_combined p c es rest others e g o s = in_others (subst (λ z. OverflowsCombined true (without p.entering es) c z o) g (subst (λ z. OverflowsCombined true z c others o) e s))

contains_without : (x : ℕ) (es : List (Entry Number)) (e : Entry Number) → Contains (without x es) e → Contains es e
contains_without x [] e c = c
contains_without x (d ∷ es) e c = by (contains_without x es e) (d.variable == x) c
  where
    by : (Contains (without x es) e → Contains es e) → (b : Bool) → Contains (cond b es (d ∷ without x es)) e → Contains (d ∷ es) e
    by go true c = Contains-append_right (d ∷ []) es e c
    by go false c = elim (Contains-append_cases (d ∷ []) (without x es) e c) [ inl f ↦ Contains-append_left (d ∷ []) es e f | inr l ↦ Contains-append_right (d ∷ []) es e (go l) ]

pub pivot_overflows : (rs : List (Row Number)) (b x : ℕ) (es : List (Entry Number)) → es ≡ (row_of b rs).entries → (o : Overflow) → OverflowsPivot x es o → OverflowsExchange rs b x o
pivot_overflows rs b x es e o s = by (subst (λ z. OverflowsPivot x z o) e s)
  where
    by : OverflowsPivot x (row_of b rs).entries o → OverflowsExchange rs b x o
    by (in_factor w) = factor w
    by (in_quotient d c w) = quotient d c w

other_row : (rs : List (Row Number)) (b x : ℕ) (r : Row Number) (o : Overflow) → IsOther rs b r → OverflowsRow (pivot_in rs b x) (coefficient_of numbers x r.entries) r.entries o → OverflowsExchange rs b x o
other_row rs b x r o h (in_leaving w) = leaving_product r h w
other_row rs b x r o h (in_others (in_product g c w)) = product r h g c w
other_row rs b x r o h (in_others (in_sum g c e there same w)) = difference r h g c e (contains_without x r.entries e there) same w

pub others_strain : (rs : List (Row Number)) (b x : ℕ) (p : Pivot Number) → p ≡ pivot_in rs b x → (o : Overflow) → OverflowsOther p rs o → OverflowsExchange rs b x o
others_strain rs b x p e o s = let t : OverflowsOther (pivot_in rs b x) rs o = subst (λ z. OverflowsOther z rs o) e s in other_row rs b x t.row o t.other t.wide
