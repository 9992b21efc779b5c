-- Under the interpretation that values of listed terms give, each of these terms has its value.
use Rattle.std.proofs.Common.{◌≡◌, Bool, true, false, List, [], ◌∷◌, ◌++◌, Contains, refl, sym, ap, ◌∙◌, subst, cond, ◌⊎◌, inl, inr}
use Rattle.std.specs.Prelude.{Some, None}
use Rattle.std.proofs.lemmas.Bool.{false≢true}
use Rattle.std.proofs.lemmas.List.Elements.{Contains-append_left, Contains-append_right, Contains-append_cases}
use Rattle.spec_text.proofs.Members.{first, later, cases, none, only}
use Rattle.spec_sorts.specs.Terms.{Sort, Symbol, same_symbol, same_sorts, Head, Apply, Parameter, Term, Terms, app, nil, cons, list_of, sorts_of, head_takes}
use Rattle.spec_sorts.specs.Values.{Value, TableRow, Table, first_fit, same_values, Interpretation, table_value}
use Rattle.spec_sorts.specs.TermValues.{head_value, value_at, values_at}
use Rattle.spec_sorts.proofs.SameTerms.{one_symbol, symbol_itself}
use Rattle.spec_valuations.specs.Tables.{Valuation, values_by, default_value, arguments_at, rows_at, rows_of, table_by, IsModelBy, IsFunctional, AreListed, IsValuation}
use Rattle.spec_valuations.proofs.SameValues.{one_values, values_itself}

-- each row of a list has this value at these arguments, if it is for them
abbrev Fitting : List TableRow → List Value → Value → Type 0
Fitting rows vs x = (r : TableRow) → Contains rows r → r.arguments ≡ vs → r.value ≡ x

-- one of the rows is for them
abbrev HasRow : List TableRow → List Value → Type 0
HasRow rows vs = (r : TableRow) × Contains rows r × (r.arguments ≡ vs)

-- the first row for arguments has the value that each row for them has
fits_first : (rows : List TableRow) (d : Value) (vs : List Value) (x : Value) → Fitting rows vs x → HasRow rows vs → first_fit rows d vs ≡ x
fits_first [] d vs x all has = absurd (none has.0 has.1)
fits_first (r ∷ rs) d vs x all has = go (same_values r.arguments vs) refl (fits_first rs d vs x (λ q c. all q (later r rs q c)))
  where
    go : (b : Bool) → same_values r.arguments vs ≡ b → (HasRow rs vs → first_fit rs d vs ≡ x) → cond b r.value (first_fit rs d vs) ≡ x
    go true e more = all r (first r rs) (one_values r.arguments vs e)
    go false e more = more (elim (cases r rs has.0 has.1) [
      | inl is ↦ absurd (false≢true (sym e ∙ ap (λ ws. same_values ws vs) (ap (λ (q : TableRow). q.arguments) is ∙ has.2) ∙ values_itself vs))
      | inr c ↦ (has.0, c, has.2)
    ])

-- the row of a term with the symbol as head
abbrev pub row : Valuation → Symbol → Terms → TableRow
row v s us = record { arguments = values_by v us; value = v (app (Apply s) us) }

module _ (v : Valuation) (s : Symbol) where
  -- the row that a term gives is of the term's arguments and its value
  row_at : (t : Term) (r : TableRow) → Contains (rows_at v (arguments_at s t) (v t)) r → (us : Terms) × (t ≡ app (Apply s) us) × (r ≡ row v s us)
  row_at (app (Apply f) ts) r c = go (same_symbol f s) refl c
    where
      row_with : Symbol → TableRow
      row_with g = record { arguments = values_by v ts; value = v (app (Apply g) ts) }

      go : (b : Bool) → same_symbol f s ≡ b → Contains (rows_at v (cond b (Some ts) None) (v (app (Apply f) ts))) r → (us : Terms) × (app (Apply f) ts ≡ app (Apply s) us) × (r ≡ row v s us)
      go true e c =
          let same : f ≡ s = one_symbol f s e in
          (ts, ap (λ g. app (Apply g) ts) same, sym (only (row_with f) r c) ∙ ap (λ g. row_with g) same)
      go false e c = absurd (none r c)
  row_at (app h ts) r c = absurd (none r c)

  -- each row is that of a listed term
  pub row_from : (terms : List Term) (r : TableRow) → Contains (rows_of v s terms) r → (us : Terms) × Contains terms (app (Apply s) us) × (r ≡ row v s us)
  row_from [] r c = absurd (none r c)
  row_from (t ∷ ts) r c = go (Contains-append_cases (rows_at v (arguments_at s t) (v t)) (rows_of v s ts) r c) (row_from ts r)
    where
      go : Contains (rows_at v (arguments_at s t) (v t)) r ⊎ Contains (rows_of v s ts) r → (Contains (rows_of v s ts) r → (us : Terms) × Contains ts (app (Apply s) us) × (r ≡ row v s us))
          → (us : Terms) × Contains (t ∷ ts) (app (Apply s) us) × (r ≡ row v s us)
      go (inl a) more = let h = row_at t r a in (h.0, subst (Contains (t ∷ ts)) h.1 (first t ts), h.2)
      go (inr b) more = let h = more b in (h.0, later t ts (app (Apply s) h.0) h.1, h.2)

  -- and each listed term has its row
  has_row : (terms : List Term) (us : Terms) → Contains terms (app (Apply s) us) → Contains (rows_of v s terms) (row v s us)
  has_row [] us c = absurd (none (app (Apply s) us) c)
  has_row (t ∷ ts) us c = go (cases t ts (app (Apply s) us) c) (has_row ts us)
    where
      here : Contains (rows_at v (arguments_at s (app (Apply s) us)) (v (app (Apply s) us))) (row v s us)
      here = subst (λ b. Contains (rows_at v (cond b (Some us) None) (v (app (Apply s) us))) (row v s us)) (sym (symbol_itself s)) (first (row v s us) [])

      go : (t ≡ app (Apply s) us) ⊎ Contains ts (app (Apply s) us) → (Contains ts (app (Apply s) us) → Contains (rows_of v s ts) (row v s us))
          → Contains (rows_at v (arguments_at s t) (v t) ++ rows_of v s ts) (row v s us)
      go (inl is) more = Contains-append_left (rows_at v (arguments_at s t) (v t)) (rows_of v s ts) (row v s us)
          (subst (λ u. Contains (rows_at v (arguments_at s u) (v u)) (row v s us)) (sym is) here)
      go (inr b) more = Contains-append_right (rows_at v (arguments_at s t) (v t)) (rows_of v s ts) (row v s us) (more b)

  -- the first row that fits a listed term's arguments has its value
  pub looked_up : (terms : List Term) (d : Value) (us : Terms) → IsFunctional v terms → Contains terms (app (Apply s) us) → first_fit (rows_of v s terms) d (values_by v us) ≡ v (app (Apply s) us)
  looked_up terms d us functional c = fits_first (rows_of v s terms) d (values_by v us) (v (app (Apply s) us))
      (λ r i e. let h = row_from terms r i in ap (λ (q : TableRow). q.value) h.2 ∙ functional s h.0 us h.1 c (sym (ap (λ (q : TableRow). q.arguments) h.2) ∙ e))
      (row v s us, has_row terms us c, refl)

-- arguments that a symbol without parameters takes
no_arguments : (ts : Terms) → same_sorts [] (sorts_of ts) ≡ true → ts ≡ nil
no_arguments nil e = refl
no_arguments (cons t ts) e = absurd (false≢true e)

-- the table has a listed term's value at its arguments' values
table_has : (v : Valuation) (s : Symbol) (ps : List Sort) (terms : List Term) (us : Terms) → IsFunctional v terms → Contains terms (app (Apply s) us) → same_sorts ps (sorts_of us) ≡ true
    → first_fit (table_by v s ps terms).rows (table_by v s ps terms).default (values_by v us) ≡ v (app (Apply s) us)
table_has v s [] terms us functional c e =
    subst (λ ts. first_fit (rows_of v s terms) (default_value s.result) (values_by v ts) ≡ v (app (Apply s) us)) (no_arguments us e)
    (looked_up v s terms (default_value s.result) us functional c)
table_has v s (p ∷ ps) terms us functional c e = looked_up v s terms (default_value s.result) us functional c

-- no listed term is a parameter
pub no_parameter : (k : _) (s : Sort) (ss : List Sort) → head_takes [] (Parameter k s) ss ≡ true → ⊥
no_parameter k s [] e = false≢true e
no_parameter k s (_ ∷ _) e = false≢true e

module _ (i : Interpretation) (v : Valuation) (symbols : List Symbol) (terms : List Term) (listed : AreListed symbols terms) (good : IsValuation v terms) (model : IsModelBy i v symbols terms) where
  by_head : (h : Head) (ts : Terms) → Contains terms (app h ts) → values_at i [] ts ≡ values_by v ts → value_at i [] (app h ts) ≡ v (app h ts)
  unfolding value_at
  by_head (Apply s) ts c e =
      ap (table_value i s.name) e ∙ ap (λ (x : Table). first_fit x.rows x.default (values_by v ts)) (model s (listed.declared s ts c))
      ∙ table_has v s s.parameters terms ts good.functional c (listed.takes (Apply s) ts c)
  by_head (Parameter k s) ts c e = absurd (no_parameter k s (sorts_of ts) (listed.takes (Parameter k s) ts c))
  by_head h ts c e = ap (head_value i h) e ∙ sym (good.obeys (app h ts) c i)

  mutual
    unfolding value_at values_at

    pub value_is : (t : Term) → Contains terms t → value_at i [] t ≡ v t
    value_is (app h ts) c = by_head h ts c (values_are ts (listed.arguments h ts c))

    values_are : (ts : Terms) → ((u : Term) → Contains (list_of ts) u → Contains terms u) → values_at i [] ts ≡ values_by v ts
    values_are nil f = refl
    values_are (cons t ts) f = λ j. value_is t (f t (first t (list_of ts))) j ∷ values_are ts (λ u d. f u (later t (list_of ts) u d)) j
