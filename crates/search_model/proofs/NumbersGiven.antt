-- A model made with the numbers of a function of terms, where arguments have the numbers of their heads.
use Rattle.std.proofs.Common.{◌≡◌, ℕ, Bool, true, false, cond, List, [], ◌∷◌, ◌++◌, inl, inr, map, Contains, refl, sym, ap, ◌∙◌, subst}
use Rattle.std.specs.Prelude.{Option, Some, None}
use Rattle.std.proofs.lemmas.Bool.{false≢true}
use Rattle.spec_text.proofs.Members.{first, later, none, cases}
use Rattle.spec_numbers.specs.Fractions.{Fraction}
use Rattle.spec_sorts.specs.Terms.{Sort, Truth, Number, Declared, Symbol, Apply, Term, Terms, app, list_of, sort_of, same_term}
use Rattle.spec_sorts.specs.Values.{TableRow, Table, first_fit, Interpretation}
use Rattle.spec_sorts.proofs.SameTerms.{terms_decide}
use Rattle.spec_arithmetic.specs.Numbers.{number_at}
use Rattle.spec_rules.specs.Truths.{term_true_by}
use Rattle.spec_valuations.specs.Tables.{Valuation, default_value, arguments_at, rows_at, rows_of, table_by, table_of, IsModelBy}
use Rattle.spec_valuations.specs.Classes.{value_in, value_by, class_in}
use Rattle.term_core.specs.declared.ids.TermId.{TermId}
use Rattle.term_core.specs.declared.ids.Lit.{Lit}
use Rattle.term_core.specs.Tables.{TableView, clause_at}
use Rattle.term_walks.specs.declared.values.Interp.{Interp}
use Rattle.term_walks.specs.Valuations.{HasSymbolTables}
use Rattle.search_model.specs.Models.{truths_of, number_in, TakeNumbersOf, IsModelOf}
use Rattle.search_model.proofs.SymbolRows.{arguments_back}
use Rattle.search_model.proofs.Interpreting.{models_by}

-- Two valuations agree on a symbol's terms.
record Agree (v w : Valuation) (s : Symbol) (terms : List Term) : Type 0 where
  -- on listed terms with it as head
  values : (ts : Terms) → Contains terms (app (Apply s) ts) → v (app (Apply s) ts) ≡ w (app (Apply s) ts)
  -- and on the arguments of these
  arguments : (ts : Terms) → Contains terms (app (Apply s) ts) → (u : Term) → Contains (list_of ts) u → v u ≡ w u

module _ (v w : Valuation) where
  -- then arguments have the same values
  values_agree : (us : List Term) → ((u : Term) → Contains us u → v u ≡ w u) → map v us ≡ map w us
  values_agree [] each = refl
  values_agree (u ∷ us) each = λ i. each u (first u us) i ∷ values_agree us (λ x c. each x (later u us x c)) i

  module _ (s : Symbol) where
    -- its terms give the same rows
    rows_agree : (terms : List Term) → Agree v w s terms → rows_of v s terms ≡ rows_of w s terms
    rows_agree [] h = refl
    rows_agree (t ∷ ts) h = go (arguments_at s t) refl (rows_agree ts (record {
      values = λ us c. h.values us (later t ts (app (Apply s) us) c);
      arguments = λ us c. h.arguments us (later t ts (app (Apply s) us) c);
    }))
      where
        go : (o : Option Terms) → arguments_at s t ≡ o → rows_of v s ts ≡ rows_of w s ts → rows_at v o (v t) ++ rows_of v s ts ≡ rows_at w o (w t) ++ rows_of w s ts
        go None e rest = rest
        go (Some us) e rest =
            let is = arguments_back s t us e in
            let there : Contains (t ∷ ts) (app (Apply s) us) = subst (Contains (t ∷ ts)) is (first t ts) in
            let value = ap v is ∙ h.values us there ∙ sym (ap w is) in
            let arguments = values_agree (list_of us) (h.arguments us there) in
            λ i. record { arguments = arguments i; value = value i } ∷ rest i

    -- so it has the same table by both
    tables_agree : (terms : List Term) → Agree v w s terms → table_of v s terms ≡ table_of w s terms
    tables_agree terms h = go s.parameters (rows_agree terms h)
      where
        go : (ps : List Sort) → rows_of v s terms ≡ rows_of w s terms → table_by v s ps terms ≡ table_by w s ps terms
        go [] e = ap (λ (rs : List TableRow). let x : Table = record { rows = []; default = first_fit rs (default_value s.result) [] } in x) e
        go (p ∷ ps) e = ap (λ (rs : List TableRow). let x : Table = record { rows = rs; default = default_value s.result } in x) e

-- a listed term has the number that its function gives it
number_listed : (number : Term → Fraction) (ts : List Term) (u : Term) → Contains ts u → number_in ts (map number ts) u ≡ number u
number_listed number [] u c = absurd (none u c)
number_listed number (t ∷ ts) u c = go (same_term t u) refl (number_listed number ts u)
  where
    go : (b : Bool) → same_term t u ≡ b → (Contains ts u → number_in ts (map number ts) u ≡ number u) → cond b (number t) (number_in ts (map number ts) u) ≡ number u
    go true e rest = ap number ((terms_decide t u).0 e)
    go false e rest = elim (cases t ts u c) [ inl is ↦ absurd (false≢true (sym e ∙ (terms_decide t u).1 is)) | inr there ↦ rest there ]

-- values of one truth and class are one where, of sort Real, they have one number
one_number : (s : Sort) (b : Bool) (p q : Fraction) (k : ℕ) → (s ≡ Number → p ≡ q) → value_in s b p k ≡ value_in s b q k
one_number Truth b p q k same = refl
one_number Number b p q k same = ap (λ x. value_in Number b x k) (same refl)
one_number (Declared n) b p q k same = refl

module _ (terms : List Term) (truths : Term → Bool) (class : Term → ℕ) (number : Term → Fraction) (taken : TakeNumbersOf number terms) where
  -- the numbers given and those of the function give a symbol's terms the same values
  numbers_agree : (s : Symbol) → Agree (value_by truths (number_in terms (map number terms)) class) (value_by truths (number_at number) class) s terms
  unfolding number_at
  numbers_agree s = record {
    values = λ ts c. let u = app (Apply s) ts in ap (λ q. value_in (sort_of u) (truths u) q (class u)) (number_listed number terms u c);
    arguments = λ ts c u i. one_number (sort_of u) (truths u) (number_in terms (map number terms) u) (number_at number u) (class u)
        (λ e. let x = taken s ts u c i e in number_listed number terms u x.0 ∙ x.1);
  }

-- so a model with the first has the tables of the second
pub models_by_numbers : (t : TableView) (held : List Lit) (terms : List TermId) (classes : List ℕ) (number : Term → Fraction) (interp : Interp) → TakeNumbersOf number (clause_at t terms)
    → IsModelOf t held terms classes (map number (clause_at t terms)) interp → (i : Interpretation) → HasSymbolTables t interp i
    → IsModelBy i (value_by (term_true_by (truths_of t held)) (number_at number) (class_in (clause_at t terms) classes)) t.symbols (clause_at t terms)
models_by_numbers t held terms classes number interp taken model i represents s c =
    let listed = clause_at t terms in
    let truths = term_true_by (truths_of t held) in
    let class = class_in listed classes in
    models_by t held terms classes (map number listed) interp model i represents s c
    ∙ tables_agree (value_by truths (number_in listed (map number listed)) class) (value_by truths (number_at number) class) s listed (numbers_agree listed truths class number taken s)
