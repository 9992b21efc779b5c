-- Formulas among the parts of terms, and tables that get wider.
use Rattle.std.proofs.Common.{◌≡◌, Bool, true, false, List, [], ◌∷◌, length, map, get_or, All, refl, sym, ap, subst, arith}
use Rattle.std.proofs.lemmas.Bool.{false≢true}
use Rattle.std.proofs.lemmas.List.Elements.{All-nil, All-cons, All-map, All-contains, Contains-get_or}
use Rattle.spec_text.proofs.Members.{first, to_image}
use Rattle.spec_sorts.specs.Terms.{Sort, Truth, Symbol, Head, Not, Term, app, nil, cons, negated, no_term, sort_of, all_same, head_takes}
use Rattle.spec_sorts.specs.WellSorted.{IsWellSorted, IsFormulaOver}
use Rattle.spec_sorts.specs.Subsets.{arguments_of}
use Rattle.spec_sorts.proofs.WellSorted.{before}
use Rattle.spec_proofs.specs.declared.Rest.{Rest}
use Rattle.spec_proofs.specs.declared.Rest.TheVariants.{Nothing, One, Two, AnyOne, Each, Innermost}
use Rattle.spec_rules.specs.Schemes.{signed_term, side_of, innermost}
use Rattle.spec_derivations.proofs.Below.{argument_sorted, head_fits}
use Rattle.spec_derivations.proofs.Formulas.{each_truth, is_core, core_truth}
use Rattle.term_core.specs.declared.ids.TermId.{TermId}
use Rattle.term_core.specs.declared.nodes.Head.{Head as NodeHead}
use Rattle.term_core.specs.declared.nodes.Head.TheVariants as heads
use Rattle.term_core.specs.Symbols.{SymbolsView}
use Rattle.term_core.specs.Tables.{TableView, term_at, IsIn, AreIn, clause_at, head_meant}
use Rattle.term_core.proofs.TermsExtend.{IsIn-kept, term_at-kept}
use Rattle.rule_bool.specs.Schemes.{HasPlaces, IsStating}
use Rattle.proof_log.specs.Logs.{IsFormulaIn, AreFormulasIn}
use Rattle.term_clauses.specs.Stating.{Widens, JoinsFormulas, ComesBefore, head_of, single}

module _ (symbols : List Symbol) where
  -- the negation of a formula is one
  pub formula_negated : (t : Term) → IsFormulaOver symbols t → IsFormulaOver symbols (negated t)
  unfolding sort_of
  formula_negated t f =
      let takes : head_takes [] Not (sort_of t ∷ []) ≡ true = ap (λ (s : Sort). head_takes [] Not (s ∷ [])) f.sort in
      record { term = before symbols [] Not (t ∷ []) takes tt (f.term, tt); sort = refl }

  -- and so it is with either sign
  pub formula_signed : (p : Bool) (t : Term) → IsFormulaOver symbols t → IsFormulaOver symbols (signed_term p t)
  formula_signed true t f = f
  formula_signed false t f = formula_negated t f

  -- the arguments of a term without parameters, where all are of sort Bool
  pub arguments_formulas : (t : Term) → IsWellSorted symbols [] t → all_same Truth (map sort_of (arguments_of t)) ≡ true → All (IsFormulaOver symbols) (arguments_of t)
  arguments_formulas t sorted all k d lt =
      let u = get_or (arguments_of t) k d in
      let u_in = Contains-get_or (arguments_of t) k d lt in
      record { term = argument_sorted symbols [] t sorted u u_in; sort = each_truth (arguments_of t) all u u_in }

  -- what comes after a term in the one clause of a scheme
  pub single_formulas : (r : Rest) (ts : List Term) → All (IsFormulaOver symbols) ts → HasPlaces (length ts) r → All (IsFormulaOver symbols) (single r ts)
  single_formulas Nothing ts each places = All-nil (IsFormulaOver symbols)
  single_formulas (One x) ts each places = All-cons (IsFormulaOver symbols) (side_of ts x) [] (formula_signed x.positive _ (each x.place no_term places)) (All-nil (IsFormulaOver symbols))
  single_formulas (Two x y) ts each places =
      All-cons (IsFormulaOver symbols) (side_of ts x) (side_of ts y ∷ []) (formula_signed x.positive _ (each x.place no_term places.0))
      (All-cons (IsFormulaOver symbols) (side_of ts y) [] (formula_signed y.positive _ (each y.place no_term places.1)) (All-nil (IsFormulaOver symbols)))
  single_formulas (Each p) ts each places = All-map (IsFormulaOver symbols) (signed_term p) ts (λ k d lt. formula_signed p (get_or ts k d) (each k d lt))
  single_formulas (AnyOne p) ts each places = All-nil (IsFormulaOver symbols)
  single_formulas Innermost ts each places = All-nil (IsFormulaOver symbols)

  bare : (s : Sort) → head_takes [] Not (s ∷ []) ≡ true → s ≡ Truth
  bare Truth e = refl
  bare _ e = absurd (false≢true e)

  -- what a formula negates is one
  pub formula_inside : (t : Term) → IsFormulaOver symbols (negated t) → IsFormulaOver symbols t
  formula_inside t f = record {
    term = argument_sorted symbols [] (negated t) f.term t (first t []);
    sort = bare (sort_of t) (head_fits symbols [] Not (cons t nil) f.term);
  }

  -- and so is what the one argument of a term negates
  pub innermost_formula : (ts : List Term) → All (IsFormulaOver symbols) ts → (x : Term) → innermost ts ≡ (x ∷ []) ∷ [] → IsFormulaOver symbols x
  innermost_formula (app Not (cons y nil) ∷ []) each x e = let same : y ≡ x = cc in subst (IsFormulaOver symbols) same (formula_inside y (each 0 y (omega arith)))
  innermost_formula _ each x e = cc

-- the symbols of a wider table
pub symbols_same : (t u : TableView) → Widens t u → u.symbols ≡ t.symbols
symbols_same t u wider = ap (λ (d : SymbolsView). d.symbols) wider.declared

module _ (t u : TableView) (wider : Widens t u) where
  -- a formula is one in a wider table
  pub formula_kept : (id : TermId) → IsFormulaIn t id → IsFormulaIn u id
  formula_kept id f = (
    IsIn-kept t u wider.terms id f.0,
    subst (λ (fs : List Symbol). IsFormulaOver fs (term_at u id)) (sym (symbols_same t u wider))
        (subst (IsFormulaOver t.symbols) (sym (term_at-kept t u wider.terms id f.0)) f.1),
  )

  -- a term without parameters is one in a wider table
  pub sorted_kept : (id : TermId) → IsIn t id → IsWellSorted t.symbols [] (term_at t id) → IsWellSorted u.symbols [] (term_at u id)
  sorted_kept id there sorted =
      subst (λ (fs : List Symbol). IsWellSorted fs [] (term_at u id)) (sym (symbols_same t u wider))
      (subst (IsWellSorted t.symbols []) (sym (term_at-kept t u wider.terms id there)) sorted)

  -- and joins the same formulas
  pub JoinsFormulas-kept : (id : TermId) → JoinsFormulas t id → JoinsFormulas u id
  JoinsFormulas-kept id j = record {
    there = IsIn-kept t u wider.terms id j.there;
    sorted = sorted_kept id j.there j.sorted;
    arguments = subst (λ (x : Term). all_same Truth (map sort_of (arguments_of x)) ≡ true) (sym (term_at-kept t u wider.terms id j.there)) j.arguments;
  }

  -- a formula comes before the same arguments
  pub ComesBefore-kept : (id front : TermId) → ComesBefore t id front → ComesBefore u id front
  ComesBefore-kept id front c = record {
    there = IsIn-kept t u wider.terms id c.there;
    arguments =
        subst (λ (fs : List Symbol). All (IsFormulaOver fs) (arguments_of (term_at u id))) (sym (symbols_same t u wider))
        (subst (λ (x : Term). All (IsFormulaOver t.symbols) (arguments_of x)) (sym (term_at-kept t u wider.terms id c.there)) c.arguments);
    first = formula_kept front c.first;
  }

  -- what represents it with a sign there
  pub signed_in : (p : Bool) (id front : TermId) → IsFormulaIn t id → IsIn u front → term_at u front ≡ signed_term p (term_at t id) → IsFormulaIn u front
  signed_in p id front f there is = (
    there,
    subst (λ (fs : List Symbol). IsFormulaOver fs (term_at u front)) (sym (symbols_same t u wider))
        (subst (IsFormulaOver t.symbols) (sym is) (formula_signed t.symbols p (term_at t id) f.1)),
  )

-- the head of a scheme is one of theory Core
core_head : (t : TableView) (h : NodeHead) (r : Rest) → IsStating h r → is_core (head_meant t h) ≡ true
core_head t heads.True r form = refl
core_head t heads.False r form = refl
core_head t heads.Not r form = refl
core_head t heads.And r form = refl
core_head t heads.Or r form = refl
core_head t heads.Xor r form = refl
core_head t heads.Implies r form = refl
core_head t heads.Equal r form = refl
core_head t heads.Ite r form = refl
core_head t _ r form = absurd form

core_formula : (symbols : List Symbol) (term : Term) → is_core (head_of term) ≡ true → IsWellSorted symbols [] term → all_same Truth (map sort_of (arguments_of term)) ≡ true → IsFormulaOver symbols term
core_formula symbols (app h ts) core sorted all = record { term = sorted; sort = core_truth h ts core all }

-- a term that joins formulas, with the head of a scheme, is one
pub joined_formula : (t : TableView) (id : TermId) (h : NodeHead) (r : Rest) → IsStating h r → head_meant t h ≡ head_of (term_at t id) → JoinsFormulas t id → IsFormulaIn t id
joined_formula t id h r form is j = (j.there, core_formula t.symbols (term_at t id) (subst (λ (g : Head). is_core g ≡ true) is (core_head t h r form)) j.sorted j.arguments)

-- a formula before arguments of sort Bool of a term of a table
pub comes_before : (t : TableView) (id front : TermId) → JoinsFormulas t id → IsFormulaIn t front → ComesBefore t id front
comes_before t id front j f = record { there = j.there; arguments = arguments_formulas t.symbols (term_at t id) j.sorted j.arguments; first = f }

-- numbers of a table that mean formulas
pub formulas_in : (t : TableView) (ids : List TermId) → AreIn t ids → All (IsFormulaOver t.symbols) (clause_at t ids) → AreFormulasIn t ids
formulas_in t ids there each k d lt =
    let n = get_or ids k d in
    (there k d lt, All-contains (IsFormulaOver t.symbols) (clause_at t ids) (term_at t n) each (to_image (term_at t) ids n (Contains-get_or ids k d lt)))
