-- Well-sorted terms of sort Real, their arguments, and that their values are numbers in lowest terms.
use Rattle.std.proofs.Common.{◌≡◌, true, List, [], ◌∷◌, refl, sym, subst}
use Rattle.std.proofs.lemmas.Bool.{false≢true, and_parts}
use Rattle.spec_numbers.specs.Fractions.{Fraction, IsReduced}
use Rattle.spec_sorts.specs.Terms.{Sort, Number, Symbol, Head, Plus, Times, Minus, Divide, Term, Terms, app, cons, all_same, sort_of, head_takes, sorts_of, is_sorted, are_sorted}
use Rattle.spec_sorts.specs.WellSorted.{AllHeads, AllHeadsIn, IsHeadOver, IsWellSorted}
use Rattle.spec_sorts.specs.Values.{Value, truth, number, element, HasSort, Interpretation, Interprets, number_in}
use Rattle.spec_sorts.specs.TermValues.{value_at}
use Rattle.spec_sorts.proofs.WellSorted.{same_sort_is}
use Rattle.spec_sorts.proofs.SortsOfValues.{value_has_sort}

-- A value that is a number in lowest terms.
pub record IsNumber (v : Value) : Type 0 where
  pub fraction : Fraction
  pub same : v ≡ number fraction
  pub reduced : IsReduced fraction

number_of_sort : (v : Value) → HasSort Number v → IsNumber v
number_of_sort (number q) h = record { fraction = q; same = refl; reduced = h }
number_of_sort (truth b) h = absurd h
number_of_sort (element n k) h = absurd h

-- the numbers of terms that have these values
abbrev pub numbers_by : (Term → Value) → Term → Fraction
numbers_by v t = number_in (v t)

-- the number of a term under an interpretation
abbrev pub number_under : Interpretation → Term → Fraction
number_under i t = numbers_by (value_at i []) t

module _ (symbols : List Symbol) where
  -- A well-sorted term of sort Real.
  pub record IsReal (t : Term) : Type 0 where
    pub term : IsWellSorted symbols [] t
    pub sort : sort_of t ≡ Number

  -- Well-sorted terms of sort Real.
  pub record AreReal (ts : Terms) : Type 0 where
    pub sorted : are_sorted [] ts ≡ true
    pub heads : AllHeadsIn (IsHeadOver symbols) ts
    pub sorts : all_same Number (sorts_of ts) ≡ true

  pub first_argument : (h : Head) (t : Term) (ts : Terms) → IsWellSorted symbols [] (app h (cons t ts)) → IsWellSorted symbols [] t
  unfolding is_sorted are_sorted AllHeads AllHeadsIn
  first_argument h t ts w = record { sorted = (and_parts _ _ (and_parts _ _ w.sorted).1).0; heads = w.heads.1.0 }

  pub second_argument : (h : Head) (t u : Term) (ts : Terms) → IsWellSorted symbols [] (app h (cons t (cons u ts))) → IsWellSorted symbols [] u
  unfolding is_sorted are_sorted AllHeads AllHeadsIn
  second_argument h t u ts w = record { sorted = (and_parts _ _ (and_parts _ _ (and_parts _ _ w.sorted).1).1).0; heads = w.heads.1.1.0 }

  -- the arguments of a head that takes numbers alone
  pub arguments_real : (h : Head) (ts : Terms) → ((ss : List Sort) → head_takes [] h ss ≡ true → all_same Number ss ≡ true) → IsWellSorted symbols [] (app h ts) → AreReal ts
  unfolding is_sorted AllHeads
  arguments_real h ts takes w =
      let parts = and_parts (head_takes [] h (sorts_of ts)) (are_sorted [] ts) w.sorted in
      record { sorted = parts.1; heads = w.heads.1; sorts = takes (sorts_of ts) parts.0 }

  -- each of such terms
  pub reals_parts : (t : Term) (ts : Terms) → AreReal (cons t ts) → IsReal t × AreReal ts
  unfolding are_sorted AllHeadsIn
  reals_parts t ts w =
      let sorted = and_parts (is_sorted [] t) (are_sorted [] ts) w.sorted in
      let sorts = and_parts _ (all_same Number (sorts_of ts)) w.sorts in (
        record { term = record { sorted = sorted.0; heads = w.heads.0 }; sort = sym (same_sort_is Number (sort_of t) sorts.0) },
        record { sorted = sorted.1; heads = w.heads.1; sorts = sorts.1 },
      )

  -- the value of such a term
  pub real_number : (i : Interpretation) → Interprets i symbols → (t : Term) → IsReal t → IsNumber (value_at i [] t)
  real_number i interprets t w =
      number_of_sort (value_at i [] t) (subst (λ s. HasSort s (value_at i [] t)) w.sort (value_has_sort i symbols interprets [] [] t w.term tt))

-- heads that take numbers alone
pub plus_takes : (ss : List Sort) → head_takes [] Plus ss ≡ true → all_same Number ss ≡ true
plus_takes [] e = refl
plus_takes (s ∷ ss) e = e

pub times_takes : (ss : List Sort) → head_takes [] Times ss ≡ true → all_same Number ss ≡ true
times_takes [] e = refl
times_takes (s ∷ ss) e = e

pub minus_takes : (ss : List Sort) → head_takes [] Minus ss ≡ true → all_same Number ss ≡ true
minus_takes (Number ∷ []) e = refl
minus_takes (Number ∷ Number ∷ []) e = refl
minus_takes _ e = absurd (false≢true e)

pub divide_takes : (ss : List Sort) → head_takes [] Divide ss ≡ true → all_same Number ss ≡ true
divide_takes (Number ∷ Number ∷ []) e = refl
divide_takes _ e = absurd (false≢true e)
