-- Arguments of the sorts of a definition's parameters fill them.
use Rattle.std.proofs.Common.{◌≡◌, ℕ, zero, suc, ◌<◌, true, List, [], ◌∷◌, length, map, get_or, refl, sym, ap, ◌∙◌, arith}
use Rattle.std.proofs.lemmas.Bool.{false≢true, and_parts}
use Rattle.spec_sorts.specs.Terms.{Sort, Head, True, False, Not, And, Or, Xor, Implies, Equal, Ite, Minus, Plus, Times, Divide, Less, AtMost, Literal, Apply, Parameter, Term, Terms, app, nil, cons, no_term, sort_of, sorts_of, same_sort, same_sorts, has_parameter, head_takes, is_sorted, are_sorted, filled, filled_all}
use Rattle.spec_sorts.specs.WellSorted.{AllHeads, AllHeadsIn}
use Rattle.spec_sorts.proofs.WellSorted.{same_sort_is}
use Rattle.term_walks.specs.Filling.{Fills, FillsAll}

parameter_there : (ps : List Sort) (ts : List Term) (k : ℕ) (s : Sort) → same_sorts ps (map sort_of ts) ≡ true → has_parameter ps k s ≡ true → (k < length ts) × (sort_of (get_or ts k no_term) ≡ s)
parameter_there [] ts k s same has = absurd (false≢true has)
parameter_there (p ∷ ps) [] k s same has = absurd (false≢true same)
parameter_there (p ∷ ps) (t ∷ ts) zero s same has =
    (omega arith, sym (same_sort_is p (sort_of t) (and_parts (same_sort p (sort_of t)) (same_sorts ps (map sort_of ts)) same).0) ∙ same_sort_is p s has)
parameter_there (p ∷ ps) (t ∷ ts) (suc k) s same has =
    let rest = parameter_there ps ts k s (and_parts (same_sort p (sort_of t)) (same_sorts ps (map sort_of ts)) same).1 has in
    (omega (arith, rest.0), rest.1)

module _ (ps : List Sort) (ts : List Term) (same : same_sorts ps (map sort_of ts) ≡ true) where
  parameter_fills : (k : ℕ) (s : Sort) (ss : List Sort) → head_takes ps (Parameter k s) ss ≡ true → Fills ts (Parameter k s)
  parameter_fills k s [] e = parameter_there ps ts k s same e
  parameter_fills k s (r ∷ ss) e = absurd (false≢true e)

  head_fills : (h : Head) (ss : List Sort) → head_takes ps h ss ≡ true → Fills ts h
  head_fills True ss e = tt
  head_fills False ss e = tt
  head_fills Not ss e = tt
  head_fills And ss e = tt
  head_fills Or ss e = tt
  head_fills Xor ss e = tt
  head_fills Implies ss e = tt
  head_fills Equal ss e = tt
  head_fills Ite ss e = tt
  head_fills Minus ss e = tt
  head_fills Plus ss e = tt
  head_fills Times ss e = tt
  head_fills Divide ss e = tt
  head_fills Less ss e = tt
  head_fills AtMost ss e = tt
  head_fills (Literal q) ss e = tt
  head_fills (Apply f) ss e = tt
  head_fills (Parameter k s) ss e = parameter_fills k s ss e

  mutual
    unfolding is_sorted are_sorted AllHeads AllHeadsIn

    -- they fill those of a term
    pub fills_all : (u : Term) → is_sorted ps u ≡ true → FillsAll ts u
    fills_all (app h us) e =
        let both = and_parts (head_takes ps h (sorts_of us)) (are_sorted ps us) e in
        (head_fills h (sorts_of us) both.0, fills_each us both.1)

    -- and of terms
    fills_each : (us : Terms) → are_sorted ps us ≡ true → AllHeadsIn (Fills ts) us
    fills_each nil e = tt
    fills_each (cons u us) e =
        let both = and_parts (is_sorted ps u) (are_sorted ps us) e in
        (fills_all u both.0, fills_each us both.1)

mutual
  unfolding is_sorted are_sorted filled filled_all

  -- a term without parameters stays as it is
  pub filled_without : (ts : List Term) (u : Term) → is_sorted [] u ≡ true → filled ts u ≡ u
  filled_without ts (app (Parameter k s) nil) e = absurd (false≢true e)
  filled_without ts (app (Parameter k s) (cons u us)) e = absurd (false≢true e)
  filled_without ts (app h us) e = ap (app h) (all_filled_without ts us (and_parts (head_takes [] h (sorts_of us)) (are_sorted [] us) e).1)

  -- and so do terms
  all_filled_without : (ts : List Term) (us : Terms) → are_sorted [] us ≡ true → filled_all ts us ≡ us
  all_filled_without ts nil e = refl
  all_filled_without ts (cons u us) e =
      let both = and_parts (is_sorted [] u) (are_sorted [] us) e in
      λ k. cons (filled_without ts u both.0 k) (all_filled_without ts us both.1 k)
