-- Terms have entries in the state of simplex, and so values: one alone where no two variables stand for one term.
use Rattle.std.proofs.Common.{◌≡◌, ◌⊎◌, ℕ, zero, suc, Bool, true, false, inl, inr, List, [], ◌∷◌, Option, Some, None, Ok, refl, sym, ◌∙◌, ap, subst, true≢false}
use Rattle.spec_numbers.specs.Fractions.{Fraction, zero_fraction}
use Rattle.spec_numbers.proofs.Field.{zero-reduced}
use Rattle.spec_sorts.specs.Terms.{Symbol, Term, sort_of, same_term}
use Rattle.spec_sorts.specs.Terms.{Number as Real}
use Rattle.spec_sorts.specs.WellSorted.{IsWellSorted}
use Rattle.spec_sorts.proofs.SameTerms.{one_term, term_itself}
use Rattle.spec_arithmetic.specs.Forms.{Form, form}
use Rattle.spec_arithmetic.specs.Numbers.{number_at}
use Rattle.spec_arithmetic.proofs.General.{same_ok}
use Rattle.spec_arithmetic.proofs.FormValues.{AreProper}
use Rattle.spec_arithmetic.proofs.FormNumbers.{form_number}
use Rattle.spec_tableaux.specs.Spaces.{Pair}
use Rattle.spec_tableaux.specs.Rows.{Entry, sum_of}
use Rattle.spec_tableaux.specs.Numbers.{Number, numbers}
use Rattle.spec_tableaux.proofs.Numbers.{number_is}
use Rattle.spec_tableaux.specs.Points.{deltas, point_in}
use Rattle.spec_causes.specs.TermTableau.{TermTableau, owner_in, IsEntryOf}
use Rattle.spec_causes.specs.Shared.{AreOwnedEntries, ends, owned, left_out, IsValueOf}

-- a variable means a term, or none does
owner_or_none : (owners : List (Option Term)) (u : Term) → ((y : ℕ) × (owner_in owners y ≡ Some u)) ⊎ ((y : ℕ) → owner_in owners y ≡ Some u → ⊥)
owner_or_none [] u = inr nobody
  where
    none_some : (let o : Option Term = None in o) ≡ Some u → ⊥
    none_some e = cc

    nobody : (y : ℕ) → owner_in [] y ≡ Some u → ⊥
    nobody zero e = none_some e
    nobody (suc y) e = none_some e
owner_or_none (o ∷ os) u = by (first o) (owner_or_none os u)
  where
    none_some : (let p : Option Term = None in p) ≡ Some u → ⊥
    none_some e = cc

    some_term : (w : Term) → (let p : Option Term = Some w in p) ≡ Some u → w ≡ u
    some_term w e = cc

    same : (w : Term) (q : Bool) → same_term w u ≡ q → ((let p : Option Term = Some w in p) ≡ Some u) ⊎ ((let p : Option Term = Some w in p) ≡ Some u → ⊥)
    same w true g = inl (ap Some (one_term w u g))
    same w false g = inr (λ e. true≢false (sym (ap (λ x. same_term x u) (some_term w e) ∙ term_itself u) ∙ g))

    first : (p : Option Term) → (p ≡ Some u) ⊎ (p ≡ Some u → ⊥)
    first None = inr none_some
    first (Some w) = same w (same_term w u) refl

    by : (o ≡ Some u) ⊎ (o ≡ Some u → ⊥) → ((y : ℕ) × (owner_in os y ≡ Some u)) ⊎ ((y : ℕ) → owner_in os y ≡ Some u → ⊥)
        → ((y : ℕ) × (owner_in (o ∷ os) y ≡ Some u)) ⊎ ((y : ℕ) → owner_in (o ∷ os) y ≡ Some u → ⊥)
    by (inl is) rest = inl (zero, is)
    by (inr not) (inl y) = inl (suc y.0, y.1)
    by (inr not) (inr none) = inr all
      where
        all : (y : ℕ) → owner_in (o ∷ os) y ≡ Some u → ⊥
        all zero e = not e
        all (suc y) e = none y e

-- so terms have entries
pub owned_entries : (owners : List (Option Term)) (n : Term → Fraction) (xs : List (Term × Fraction)) → AreProper n xs → (es : List (Entry Number)) × AreOwnedEntries owners es xs
owned_entries owners n [] proper = ([], ends)
owned_entries owners n (x ∷ xs) proper = by (owner_or_none owners x.0) (owned_entries owners n xs proper.1)
  where
    by : ((y : ℕ) × (owner_in owners y ≡ Some x.0)) ⊎ ((y : ℕ) → owner_in owners y ≡ Some x.0 → ⊥)
        → (es : List (Entry Number)) × AreOwnedEntries owners es xs → (es : List (Entry Number)) × AreOwnedEntries owners es (x ∷ xs)
    by (inl y) rest =
        let e : Entry Number = record { variable = y.0; coefficient = record { fraction = x.1; reduced = proper.0.coefficient } } in
        (e ∷ rest.0, owned e x rest.0 xs (record { owner = y.1; coefficient = refl }) rest.1)
    by (inr none) rest = (rest.0, left_out x rest.0 xs none rest.1)

-- where one variable stands for the first term, the first entry is its own
pub first_owned : (owners : List (Option Term)) (x : Term × Fraction) (e : Entry Number) → IsEntryOf owners e x → ((y : ℕ) → owner_in owners y ≡ Some x.0 → y ≡ e.variable)
    → (es : List (Entry Number)) (xs : List (Term × Fraction)) → AreOwnedEntries owners es (x ∷ xs) → (rest : List (Entry Number)) × (es ≡ e ∷ rest) × AreOwnedEntries owners rest xs
first_owned owners _ e is one _ _ (owned f x es xs has more) =
    (es, (λ i. record { variable = one f.variable has.owner i; coefficient = number_is f.coefficient e.coefficient (has.coefficient ∙ sym is.coefficient) i } ∷ es), more)
first_owned owners _ e is one _ _ (left_out x es xs none more) = absurd (none e.variable is.owner)

-- where none does, there is no entry for it
pub first_left_out : (owners : List (Option Term)) (x : Term × Fraction) → ((y : ℕ) → owner_in owners y ≡ Some x.0 → ⊥)
    → (es : List (Entry Number)) (xs : List (Term × Fraction)) → AreOwnedEntries owners es (x ∷ xs) → AreOwnedEntries owners es xs
first_left_out owners _ none _ _ (owned f x es xs has more) = absurd (none f.variable has.owner)
first_left_out owners _ none _ _ (left_out x es xs out more) = more

pub no_entries : (owners : List (Option Term)) (es : List (Entry Number)) → AreOwnedEntries owners es [] → es ≡ []
no_entries owners _ ends = refl

-- the terms of a form have one row of entries where no two variables stand for one term
module _ (owners : List (Option Term)) (once : (y z : ℕ) (w : Term) → owner_in owners y ≡ Some w → owner_in owners z ≡ Some w → y ≡ z) where
  entries_once : (es fs : List (Entry Number)) (xs : List (Term × Fraction)) → AreOwnedEntries owners es xs → AreOwnedEntries owners fs xs → es ≡ fs
  entries_once _ fs _ ends h = sym (no_entries owners fs h)
  entries_once _ fs _ (owned e x es xs is more) h =
      let rest = first_owned owners x e is (λ y k. once y e.variable x.0 k is.owner) fs xs h in
      ap (λ zs. e ∷ zs) (entries_once es rest.0 xs more rest.2) ∙ sym rest.1
  entries_once _ fs _ (left_out x es xs none more) h = entries_once es fs xs more (first_left_out owners x none fs xs h)

-- a term of sort Real has a value
pub has_value : (symbols : List Symbol) (s : TermTableau) (u : Term) (f : Form) → IsWellSorted symbols [] u → sort_of u ≡ Real → form u ≡ Ok f → (p : Pair Number) × IsValueOf s u p
has_value symbols s u f sorted real has =
    let proper = (form_number symbols (λ w. zero_fraction) (λ w. zero-reduced) u f has (record { term = sorted; sort = real })).proper in
    let gs = owned_entries s.owners (number_at (λ w. zero_fraction)) f.variables proper.variables in
    let sum : Pair Number = sum_of deltas (point_in s.values) gs.0 in
    let constant : Number = record { fraction = f.constant; reduced = proper.constant } in (
      deltas.plus sum (record { base = constant; tilt = numbers.zero }),
      record {
        form_of = f;
        has = has;
        sum = sum;
        sum_is = record { entries = gs.0; are = gs.1; is = refl };
        constant = constant;
        constant_is = refl;
        is = refl;
      },
    )

-- and no other
pub one_value : (s : TermTableau) (u : Term) (p q : Pair Number) → ((y z : ℕ) (w : Term) → owner_in s.owners y ≡ Some w → owner_in s.owners z ≡ Some w → y ≡ z)
    → IsValueOf s u p → IsValueOf s u q → p ≡ q
one_value s u p q once a b =
    let one : a.form_of ≡ b.form_of = same_ok a.form_of b.form_of (sym a.has ∙ b.has) in
    let entries = entries_once s.owners once a.sum_is.entries b.sum_is.entries b.form_of.variables
    (subst (λ (f : Form). AreOwnedEntries s.owners a.sum_is.entries f.variables) one a.sum_is.are) b.sum_is.are in
    let sum : a.sum ≡ b.sum = a.sum_is.is ∙ ap (sum_of deltas (point_in s.values)) entries ∙ sym b.sum_is.is in
    let constant : a.constant ≡ b.constant = number_is a.constant b.constant (a.constant_is ∙ ap (λ (f : Form). f.constant) one ∙ sym b.constant_is) in
    a.is ∙ (λ i. deltas.plus (sum i) (record { base = constant i; tilt = numbers.zero })) ∙ sym b.is
