-- The interpretation that values of listed terms give has a table of each symbol's sorts.
use Rattle.std.proofs.Common.{◌≡◌, Bool, true, false, List, [], ◌∷◌, Contains, refl, sym, ◌∙◌, subst, cond, get_or, arith}
use Rattle.std.proofs.lemmas.Bool.{false≢true, and_parts}
use Rattle.std.proofs.lemmas.List.Elements.{Contains-get_or}
use Rattle.spec_text.proofs.Members.{first, later}
use Rattle.spec_numbers.proofs.Field.{zero-reduced}
use Rattle.spec_sorts.specs.Terms.{Sort, Truth, Number, Declared, same_sort, same_sorts, Symbol, Apply, Term, Terms, app, nil, cons, list_of, sort_of, sorts_of}
use Rattle.spec_sorts.specs.Values.{Value, TableRow, first_fit, same_values, Interpretation, Interprets, IsRowOf, IsTableOf, HasSort, HaveSorts}
use Rattle.spec_sorts.proofs.WellSorted.{same_sort_is}
use Rattle.spec_valuations.specs.Tables.{Valuation, values_by, default_value, rows_of, table_by, IsModelBy, AreListed, IsValuation}
use Rattle.spec_valuations.proofs.Meeting.{row_from}

-- a value of a sort is one
default_sort : (s : Sort) → HasSort s (default_value s)
default_sort Truth = tt
default_sort Number = zero-reduced
default_sort (Declared n) = refl

-- where each row's value has the sort, what is looked up has it
first_sort : (s : Sort) (rows : List TableRow) (d : Value) (vs : List Value) → ((r : TableRow) → Contains rows r → HasSort s r.value) → HasSort s d → HasSort s (first_fit rows d vs)
first_sort s [] d vs all e = e
first_sort s (r ∷ rs) d vs all e = go (same_values r.arguments vs) (first_sort s rs d vs (λ q c. all q (later r rs q c)) e)
  where
    go : (b : Bool) → HasSort s (first_fit rs d vs) → HasSort s (cond b r.value (first_fit rs d vs))
    go true h = all r (first r rs)
    go false h = h

module _ (v : Valuation) (symbols : List Symbol) (terms : List Term) (listed : AreListed symbols terms) (good : IsValuation v terms) where
  -- values of listed arguments have their sorts
  values_fit : (ps : List Sort) (ts : Terms) → ((u : Term) → Contains (list_of ts) u → Contains terms u) → same_sorts ps (sorts_of ts) ≡ true → HaveSorts ps (values_by v ts)
  values_fit [] nil f e = tt
  values_fit [] (cons t ts) f e = absurd (false≢true e)
  values_fit (p ∷ ps) nil f e = absurd (false≢true e)
  values_fit (p ∷ ps) (cons t ts) f e =
      let h = and_parts (same_sort p (sort_of t)) (same_sorts ps (sorts_of ts)) e in (
        subst (λ s. HasSort s (v t)) (sym (same_sort_is p (sort_of t) h.0)) (good.sorts t (f t (first t (list_of ts)))),
        values_fit ps ts (λ u c. f u (later t (list_of ts) u c)) h.1,
      )

  -- a row has the symbol's sorts
  row_fits : (s : Symbol) (r : TableRow) → Contains (rows_of v s terms) r → IsRowOf s r
  unfolding sort_of
  row_fits s r c =
      let h = row_from v s terms r c in
      let us = h.0 in
      subst (IsRowOf s) (sym h.2) (record {
        arguments = values_fit s.parameters us (listed.arguments (Apply s) us h.1) (listed.takes (Apply s) us h.1);
        value = good.sorts (app (Apply s) us) h.1;
      })

  table_fits : (s : Symbol) (ps : List Sort) → s.parameters ≡ ps → IsTableOf s (table_by v s ps terms)
  table_fits s [] e = record {
    default = first_sort s.result (rows_of v s terms) (default_value s.result) [] (λ r c. (row_fits s r c).value) (default_sort s.result);
    rows = λ k d lt. absurd (omega (arith, lt));
    bare = λ f. refl;
  }
  table_fits s (p ∷ ps) e = record {
    default = default_sort s.result;
    rows = λ k d lt. row_fits s _ (Contains-get_or (rows_of v s terms) k d lt);
    bare = λ f. absurd (some_are (sym f ∙ e));
  }
    where
      some_are : [] ≡ p ∷ ps → ⊥
      some_are e = cc

-- each symbol has its table
pub interprets : (i : Interpretation) (v : Valuation) (symbols : List Symbol) (terms : List Term) → AreListed symbols terms → IsValuation v terms → IsModelBy i v symbols terms → Interprets i symbols
interprets i v symbols terms listed good model k d lt =
    let s = get_or symbols k d in
    subst (IsTableOf s) (sym (model s (Contains-get_or symbols k d lt))) (table_fits v symbols terms listed good s s.parameters refl)
