-- That a step states a clause, and follows.
use Rattle.std.proofs.Common.{◌≡◌, ℕ, ◌+◌, ◌<◌, Bool, true, false, List, [], ◌∷◌, ◌++◌, length, map, take, get_or, Contains, sym, ap, ◌∙◌, subst}
use Rattle.std.proofs.lemmas.List.{map-append, map_more}
use Rattle.std.proofs.lemmas.List.Elements.{All-push}
use Rattle.std.specs.Prelude.{Result, Ok, Err, IfOk}
use Rattle.std.proofs.Math.Seq.{take-append_seam}
use Rattle.spec_text.proofs.Members.{to_image}
use Rattle.spec_text.specs.Trees.{none}
use Rattle.spec_sorts.specs.Terms.{Term, negated}
use Rattle.spec_sorts.specs.Literals.{Clause, Literal, literal_of, literals_of, complement}
use Rattle.spec_rules.specs.Clauses.{IsResolvent}
use Rattle.spec_proofs.specs.declared.Rule.TheVariants.{Resolution}
use Rattle.spec_derivations.specs.Derivations.{by_rule, FollowsFrom}
use Rattle.spec_derivations.specs.ExactChains.{IsExactResolvent, IsExactFrom}
use Rattle.no_memory.specs.declared.NoMemory.{NoMemory}
use Rattle.term_core.specs.declared.ids.TermId.{TermId}
use Rattle.term_core.specs.declared.ids.Lit.{Lit}
use Rattle.term_core.specs.Symbols.{SymbolsView}
use Rattle.term_core.specs.Tables.{TableView, IsIn, declared_in, term_at, literal_at, clause_at, positive_literal, Extends}
use Rattle.term_core.proofs.TermsLiteral.{literal_of-negated}
use Rattle.term_core.proofs.TermsExtend.{Extends-self, term_at-kept, literal_at-kept, clause_at-kept}
use Rattle.proof_log.specs.declared.premises.StepId.{StepId}
use Rattle.proof_log.specs.Logs.{IsFormulaIn, Logged, named, logged_at, AreStepsOf, clauses_in, numbers_of, derivation_in}
use Rattle.proof_log.proofs.Logged.{numbers_there, premises_there}
use Rattle.term_clauses.specs.Stating.{Widens}
use Rattle.term_clauses.proofs.Parts.{formula_kept, signed_in}
use Rattle.proof_log.specs.Clashes.{literals_in}
use Rattle.conflict_learn.specs.Analyses.{IsBare, StatesLiteral, StateAll}

-- a term that is no negation states its literal
pub states_own : (t : TableView) (l : Lit) → IsBare t l → l.positive ≡ true → StatesLiteral t (literal_at t l) l.term
states_own t l b e = ((b.there, b.formula), b.bare ∙ ap (λ (p : Bool). let x : Literal = record { atom = term_at t l.term; positive = p } in x) (sym e))

-- and its negation the complement
pub states_negation : (t u : TableView) → Widens t u → (l : Lit) (id : TermId) → IsBare t l → l.positive ≡ false → IsIn u id → term_at u id ≡ negated (term_at t l.term) → StatesLiteral u (literal_at t l) id
states_negation t u wider l id b e there is = (
  signed_in t u wider false l.term id (b.there, b.formula) there is,
  ap literal_of is ∙ literal_of-negated (term_at t l.term) ∙ ap complement b.bare ∙ ap (λ (p : Bool). let x : Literal = record { atom = term_at t l.term; positive = p } in x) (sym e),
)

-- as a call puts it, where it does
pub states_put : (t u : TableView) → Widens t u → (l : Lit) → IsBare t l → l.positive ≡ false → (r : Result TermId NoMemory) → IfOk r (λ id. IsIn u id × (term_at u id ≡ negated (term_at t l.term))) → IfOk r (StatesLiteral u (literal_at t l))
states_put t u wider l b e (Ok id) h = states_negation t u wider l id b e h.0 h.1
states_put t u wider l b e (Err x) h = tt

-- in a table that has grown too
pub bare_kept : (t u : TableView) → Widens t u → (l : Lit) → IsBare t l → IsBare u l
bare_kept t u wider l b =
    let same = term_at-kept t u wider.terms l.term b.there in
    let f = formula_kept t u wider l.term (b.there, b.formula) in
    record { there = f.0; formula = f.1; bare = subst (λ (x : Term). literal_of x ≡ positive_literal x) (sym same) b.bare }

-- one literal more
pub states_more : (t u w : TableView) (clause : List Lit) (i : ℕ) (d : Lit) (ids : List TermId) (id : TermId) → i < length clause → Extends t u → Widens u w → IsIn t (get_or clause i d).term
    → StateAll u (map (literal_at t) (take i clause)) ids → StatesLiteral w (literal_at u (get_or clause i d)) id → StateAll w (map (literal_at t) (take (i + 1) clause)) (ids ++ id ∷ [])
states_more t u w clause i d ids id lt more later there h one = (
  All-push (IsFormulaIn w) ids id (λ k e small. formula_kept u w later (get_or ids k e) (h.0 k e small)) one.0,
  ap literals_of (map-append (term_at w) ids (id ∷ [])) ∙ map-append literal_of (clause_at w ids) (term_at w id ∷ [])
      ∙ (λ j. before j ++ last j ∷ []) ∙ sym (map_more (literal_at t) clause i d lt),
)
  where
    before : literals_of (clause_at w ids) ≡ map (literal_at t) (take i clause)
    before = ap literals_of (clause_at-kept u w later.terms ids (λ k e small. (h.0 k e small).0)) ∙ h.1

    last : literal_of (term_at w id) ≡ literal_at t (get_or clause i d)
    last = one.1 ∙ literal_at-kept t u more (get_or clause i d) there

module _ (t : TableView) (log : List Logged) (premises : List StepId) (there : AreStepsOf log premises) where
  -- the premises' literals
  abbrev pub stated_by : List (List Literal)
  stated_by = map literals_of (map (clause_at t) (clauses_in log premises))

  pub is_stated : (s : StepId) → Contains premises s → Contains stated_by (literals_in t log s)
  is_stated s i = to_image literals_of (map (clause_at t) (clauses_in log premises)) (clause_at t (named (logged_at log s)))
      (to_image (clause_at t) (clauses_in log premises) (named (logged_at log s)) (to_image (λ (x : StepId). named (logged_at log x)) premises s i))

  -- what is resolved from them follows
  pub step_follows : (clause : Clause) → IsResolvent (map (clause_at t) (clauses_in log premises)) clause → FollowsFrom (derivation_in t log) (by_rule Resolution (numbers_of premises) none clause)
  step_follows clause right = (numbers_there t log premises there, subst (λ (cs : List Clause). IsResolvent cs clause) (sym (premises_there t log premises there)) right)

  -- and what a chain over them gives
  pub step_exact : (clause : Clause) → IsExactResolvent complement (Contains stated_by) (literals_of clause) → IsExactFrom (derivation_in t log) (by_rule Resolution (numbers_of premises) none clause)
  step_exact clause exact = subst (λ (cs : List Clause). IsExactResolvent complement (Contains (map literals_of cs)) (literals_of clause)) (sym (premises_there t log premises there)) exact

-- a table that is cut back is as it was
pub cut_back : (t u v : TableView) (n : ℕ) → n ≡ length t.terms → Extends t u → declared_in u ≡ declared_in t → v.terms ≡ take n u.terms → declared_in v ≡ declared_in u → v ≡ t
cut_back t u v n len more declared cut kept = λ i. record {
  sorts = ap (λ (d : SymbolsView). d.sorts) (kept ∙ declared) i;
  symbols = ap (λ (d : SymbolsView). d.symbols) (kept ∙ declared) i;
  terms = (cut ∙ ap (λ (k : ℕ). take k u.terms) len ∙ ap (take (length t.terms)) more.terms ∙ take-append_seam t.terms more.more_terms) i;
}

-- and so has all that it had
pub extends_back : (t v : TableView) → v ≡ t → Extends t v
extends_back t v e = subst (Extends t) (sym e) (Extends-self t)
