-- What literals of the table mean, and literals of clauses.
use Rattle.std.proofs.Common.{◌≡◌, ℕ, ◌+◌, ◌<◌, true, List, [], ◌∷◌, ◌++◌, length, take, get_or, Contains, refl, ap, ◌∙◌, subst, arith}
use Rattle.std.proofs.lemmas.List.{map-append, map_more, get_or_default}
use Rattle.std.proofs.lemmas.List.Elements.{All-map, All-contains, Contains-get_or}
use Rattle.spec_text.proofs.Members.{to_image, from_image}
use Rattle.spec_sorts.specs.Terms.{Symbol, Not, Term, app, nil, cons, no_term}
use Rattle.spec_sorts.specs.Subsets.{IsClosed}
use Rattle.spec_sorts.specs.WellSorted.{IsFormulaOver}
use Rattle.spec_sorts.specs.Literals.{Literal, literal_of, literals_of, complement}
use Rattle.term_core.specs.declared.ids.TermId.{TermId}
use Rattle.term_core.specs.declared.ids.Lit.{Lit}
use Rattle.term_core.specs.Tables.{TableView, IsIn, term_at, literal_at, clause_at, positive_literal}
use Rattle.clause_literals.specs.Literals.{lit_complement}
use Rattle.proof_log.specs.declared.premises.StepId.{StepId}
use Rattle.proof_log.specs.Logs.{Logged, named, no_logged, logged_at, IsLogOf, IsFormulaIn, AreFormulasIn}
use Rattle.term_clauses.proofs.Parts.{formula_inside}
use Rattle.proof_log.specs.Clashes.{literals_in}
use Rattle.conflict_learn.specs.Analyses.{IsBare}

-- the literals of one term more
pub literals_more : (t : TableView) (ids : List TermId) (i : ℕ) (d : TermId) → i < length ids
    → literals_of (clause_at t (take (i + 1) ids)) ≡ literals_of (clause_at t (take i ids)) ++ literal_of (term_at t (get_or ids i d)) ∷ []
literals_more t ids i d lt = ap literals_of (map_more (term_at t) ids i d lt) ∙ map-append literal_of (clause_at t (take i ids)) (term_at t (get_or ids i d) ∷ [])

-- a term without its nots is no negation
bare_atom : (u : Term) → literal_of (literal_of u).atom ≡ positive_literal (literal_of u).atom
unfolding literal_of
bare_atom (app Not (cons t nil)) = bare_atom t
bare_atom (app Not nil) = refl
bare_atom (app Not (cons t (cons u us))) = refl
bare_atom (app h ts) = refl

-- a formula without its nots is one
atom_formula : (symbols : List Symbol) (u : Term) → IsFormulaOver symbols u → IsFormulaOver symbols (literal_of u).atom
unfolding literal_of
atom_formula symbols (app Not (cons t nil)) f = atom_formula symbols t (formula_inside symbols t f)
atom_formula symbols (app Not nil) f = f
atom_formula symbols (app Not (cons t (cons u us))) f = f
atom_formula symbols (app h ts) f = f

-- a term of the table is that of a number
own_lit : (t : TableView) (u : Term) → Contains t.terms u → (m : Lit) × IsIn t m.term × (literal_at t m ≡ positive_literal u)
own_lit t u i = (
  record { term = record { 0 = i.0 }; positive = true },
  i.1,
  ap positive_literal (get_or_default t.terms i.0 no_term u i.1 ∙ i.2),
)

-- a literal of the table that is one of a clause of formulas has a formula that is no negation
pub bare_in : (t : TableView) (ids : List TermId) → AreFormulasIn t ids → (m : Lit) → IsIn t m.term → Contains (literals_of (clause_at t ids)) (literal_at t m) → IsBare t m
bare_in t ids formulas m there i =
    let u = from_image literal_of (clause_at t ids) (literal_at t m) i in
    let same : (literal_of u.0).atom ≡ term_at t m.term = ap (λ (x : Literal). x.atom) u.2 in
    let each = All-map (IsFormulaOver t.symbols) (term_at t) ids (λ k d lt. (formulas k d lt).1) in
    record {
      there = there;
      formula = subst (IsFormulaOver t.symbols) same (atom_formula t.symbols u.0 (All-contains (IsFormulaOver t.symbols) (clause_at t ids) u.0 each u.1));
      bare = subst (λ (x : Term). literal_of x ≡ positive_literal x) same (bare_atom u.0);
    }

-- a term of the table has a literal there
term_lit : (t : TableView) → IsClosed t.terms → (u : Term) → Contains t.terms u → (m : Lit) × IsIn t m.term × (literal_at t m ≡ literal_of u)
unfolding literal_of
term_lit t closed (app Not (cons u nil)) i =
    let m = term_lit t closed u (closed (app Not (cons u nil)) i u (0, omega arith, refl)) in
    (lit_complement m.0, m.1, ap complement m.2)
term_lit t closed (app Not nil) i = own_lit t (app Not nil) i
term_lit t closed (app Not (cons u (cons v vs))) i = own_lit t (app Not (cons u (cons v vs))) i
term_lit t closed (app h us) i = own_lit t (app h us) i

-- each literal of a clause of a log is one of the table
pub logged_lit : (t : TableView) → IsClosed t.terms → (log : List Logged) → IsLogOf t log → (s : StepId) → s.0 < length log → (x : Literal) → Contains (literals_in t log s) x → (m : Lit) × IsIn t m.term × (literal_at t m ≡ x)
logged_lit t closed log right s lt x i =
    let ids = named (logged_at log s) in
    let u = from_image literal_of (clause_at t ids) x i in
    let id = from_image (term_at t) ids u.0 u.1 in
    let there = All-contains (IsFormulaIn t) ids id.0 (right.formulas s.0 no_logged lt) id.1 in
    let m = term_lit t closed u.0 (subst (Contains t.terms) id.2 (Contains-get_or t.terms id.0.0 no_term there.0)) in
    (m.0, m.1, m.2 ∙ u.2)

-- the literal of each term is one of the clause's
pub literal_in : (t : TableView) (ids : List TermId) (i : ℕ) (d : TermId) → i < length ids → Contains (literals_of (clause_at t ids)) (literal_of (term_at t (get_or ids i d)))
literal_in t ids i d lt = to_image literal_of (clause_at t ids) (term_at t (get_or ids i d)) (to_image (term_at t) ids (get_or ids i d) (Contains-get_or ids i d lt))
