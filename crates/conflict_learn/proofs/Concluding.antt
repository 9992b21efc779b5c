-- That what is found in a conflict is stated by a step that follows, and is what is to be learned.
use Rattle.std.proofs.Common.{◌≡◌, ℕ, suc, ◌<◌, ◌≤◌, List, [], ◌∷◌, map, get_or, All, Contains, None, inl, refl, sym, ap, ◌∙◌, subst, arith}
use Rattle.std.proofs.lemmas.List.Elements.{All-nil, Contains-get_or}
use Rattle.std.specs.Prelude.{Result, Ok, Err, MatchResult}
use Rattle.spec_text.specs.Trees.{none as no_texts}
use Rattle.spec_sorts.specs.WellSorted.{IsFormulaOver}
use Rattle.spec_sorts.specs.Subsets.{IsClosed}
use Rattle.spec_sorts.specs.Literals.{Literal, literal_of, complement}
use Rattle.spec_proofs.specs.Resolution.{Resolves}
use Rattle.spec_proofs.specs.declared.Rule.TheVariants.{Resolution}
use Rattle.spec_derivations.specs.Derivations.{Derivation, by_rule, FollowsFrom}
use Rattle.spec_derivations.specs.ExactChains.{IsExactResolvent, IsExactFrom}
use Rattle.no_memory.specs.declared.NoMemory.{NoMemory}
use Rattle.term_core.specs.declared.ids.TermId.{TermId}
use Rattle.term_core.specs.declared.ids.Lit.{Lit}
use Rattle.term_core.specs.Tables.{TableView, IsIn, AreDifferent, term_at, literal_at, clause_at, positive_literal, Extends}
use Rattle.term_core.proofs.TermsExtend.{IsIn-kept, literal_at-kept}
use Rattle.clause_literals.specs.Literals.{lit_complement, LiteralsMean}
use Rattle.proof_log.specs.declared.premises.StepId.{StepId}
use Rattle.proof_log.specs.Logs.{AreStepsOf, IsLogOf, IsFormulaIn, Logged, stepped, numbers_of, inference_of, derivation_in}
use Rattle.proof_log.specs.Adding.{IsAdded}
use Rattle.sat_trail.specs.Trails.{VariablesAreApart, IsLeveled}
use Rattle.proof_log.specs.Clashes.{IsClash}
use Rattle.conflict_learn.specs.Conflicts.{Conflict, AreTrailReasons, IsConflictLevel, IsAboveZero, IsOfZero}
use Rattle.conflict_learn.specs.Points.{held_at, level_at, IsMet, IsUsed, IsUip}
use Rattle.conflict_learn.specs.Learned.{Refutes}
use Rattle.conflict_learn.specs.Analyses.{IsBare, StateAll}
use Rattle.conflict_learn.proofs.Uip.{met_level, met_bare, used_in_log, used_premise, replaced_has_reason, clause_follows}
use Rattle.conflict_learn.proofs.Stating.{stated_by, is_stated, step_follows, step_exact}
use Rattle.conflict_learn.proofs.Chaining.{left_comes}

-- a literal of the same variable is bare too
bare_term : (t : TableView) (l m : Lit) → l.term ≡ m.term → IsBare t l → IsBare t m
bare_term t l m e b = record { there = subst (IsIn t) e b.there; formula = subst (λ (id : TermId). IsFormulaOver t.symbols (term_at t id)) e b.formula; bare = subst (λ (id : TermId). literal_of (term_at t id) ≡ positive_literal (term_at t id)) e b.bare }

-- in a table that has grown, terms state a clause that they stated
pub means_kept : (t u : TableView) → Extends t u → (clause : List Lit) → All (IsBare t) clause → (ids : List TermId) → StateAll u (map (literal_at t) clause) ids → LiteralsMean u clause (clause_at u ids)
means_kept t u more clause bare ids h = record {
  same = kept clause bare ∙ sym h.1;
  there = λ k d lt. IsIn-kept t u more (get_or clause k d).term (bare k d lt).there;
}
  where
    kept : (c : List Lit) → All (IsBare t) c → map (literal_at u) c ≡ map (literal_at t) c
    kept [] b = refl
    kept (l ∷ ls) b = λ i. literal_at-kept t u more l (b 0 l (omega arith)).there i ∷ kept ls (λ k d lt. b (suc k) d (omega (arith, lt))) i

-- a conflict with a literal above level 0 is of such a level
pub above_zero : (c : Conflict) (n : ℕ) → IsConflictLevel c n → IsAboveZero c → 0 < n
above_zero c n top above = let le = top.greatest above.0 above.1 above.2 above.3 in omega (arith, le, above.4)

-- one with none there is of level 0
of_zero : (c : Conflict) → IsOfZero c → IsConflictLevel c 0
of_zero c zero = record { greatest = λ n k has f. let e = zero n k has f in omega (arith, e); reached = inl refl }

-- the clause without literals is stated by no terms
pub states_none : (t : TableView) (ids : List TermId) → ids ≡ [] → StateAll t [] ids
states_none t ids e = subst (StateAll t []) (sym e) (All-nil (IsFormulaIn t), refl)

means_none : (t : TableView) (ids : List TermId) → ids ≡ [] → LiteralsMean t [] (clause_at t ids)
means_none t ids e = subst (λ (xs : List TermId). LiteralsMean t [] (clause_at t xs)) (sym e) (record { same = refl; there = All-nil (λ (l : Lit). IsIn t l.term) })

module _ (c : Conflict) (once : VariablesAreApart c.trail.literals) (leveled : IsLeveled c.trail) (clash : IsClash c.table c.log c.trail.literals c.clash) (reasons : AreTrailReasons c.table c.log c.trail) where
  -- premises that are used are of the log
  pub premises_there : (from : ℕ) (premises : List StepId) → ((s : StepId) → Contains premises s → IsUsed c from s) → AreStepsOf c.log premises
  premises_there from premises others k d lt = used_in_log c once leveled clash reasons from (get_or premises k d) (others (get_or premises k d) (Contains-get_or premises k d lt))

  -- terms that state a clause which has what is left follow from the premises
  pub states_follow : (right : IsLogOf c.table c.log) → IsClosed c.table.terms → (from : ℕ) (premises : List StepId) (others : (s : StepId) → Contains premises s → IsUsed c from s) → ((s : StepId) → IsUsed c from s → Contains premises s)
      → (clause : List Lit) → ((p : ℕ) → p < from → IsMet c from p → 0 < level_at c p → Contains clause (lit_complement (held_at c p)))
      → ((p : ℕ) → from ≤ p → IsMet c from p → get_or c.trail.reasons p None ≡ None → ⊥)
      → (u : TableView) (ids : List TermId) → StateAll u (map (literal_at c.table) clause) ids → derivation_in u c.log ≡ derivation_in c.table c.log
      → FollowsFrom (derivation_in u c.log) (inference_of u (stepped Resolution premises [] ids))
  states_follow right closed from premises others used clause left replaced u ids h same =
      let there = premises_there from premises others in
      let follows = clause_follows c once leveled clash reasons right closed from premises used clause left replaced (stated_by c.table c.log premises there) (is_stated c.table c.log premises there) in
      subst (λ (d : Derivation). FollowsFrom d (by_rule Resolution (numbers_of premises) no_texts (clause_at u ids))) (sym same)
      (step_follows c.table c.log premises there (clause_at u ids) (subst (λ (ls : List Literal). Resolves complement (stated_by c.table c.log premises there) ls) (sym h.1) follows))

  -- so does the clause of a point
  pub uip_follows : IsLogOf c.table c.log → IsClosed c.table.terms → (n : ℕ) → IsConflictLevel c n → (clause : List Lit) (premises : List StepId) → IsUip c n clause premises
      → (u : TableView) (ids : List TermId) → StateAll u (map (literal_at c.table) clause) ids → derivation_in u c.log ≡ derivation_in c.table c.log
      → FollowsFrom (derivation_in u c.log) (inference_of u (stepped Resolution premises [] ids))
  uip_follows right closed n top clause premises uip =
      states_follow right closed uip.from premises (λ s. (uip.used s).0) (λ s. (uip.used s).1) clause uip.left.all (replaced_has_reason c once leveled clash reasons n top uip.from uip.point)

  -- by a chain that gives no more
  pub uip_exact : AreDifferent c.table.terms → IsLogOf c.table c.log → IsClosed c.table.terms → (n : ℕ) → IsConflictLevel c n → (clause : List Lit) (premises : List StepId) → IsUip c n clause premises
      → (u : TableView) (ids : List TermId) → StateAll u (map (literal_at c.table) clause) ids → derivation_in u c.log ≡ derivation_in c.table c.log
      → IsExactFrom (derivation_in u c.log) (inference_of u (stepped Resolution premises [] ids))
  uip_exact differ right closed n top clause premises uip u ids h same =
      let there = premises_there uip.from premises (λ s. (uip.used s).0) in
      let Given : List Literal → Type 0 = Contains (stated_by c.table c.log premises there) in
      let comes = left_comes c once leveled clash reasons differ closed right uip.from n top uip.point Given (λ s used. is_stated c.table c.log premises there s ((uip.used s).1 used)) clause uip.left in
      subst (λ (d : Derivation). IsExactFrom d (by_rule Resolution (numbers_of premises) no_texts (clause_at u ids))) (sym same)
      (step_exact c.table c.log premises there (clause_at u ids) (subst (λ (ls : List Literal). IsExactResolvent complement Given ls) (sym h.1) comes))

  -- its terms are no negations
  pub uip_bare : IsLogOf c.table c.log → (n : ℕ) (clause : List Lit) (premises : List StepId) → IsUip c n clause premises → All (IsBare c.table) clause
  uip_bare right n clause premises uip k e lt =
      let h = uip.left.only (get_or clause k e) (Contains-get_or clause k e lt) in
      bare_term c.table (held_at c h.0) (get_or clause k e) (ap (λ (x : Lit). x.term) h.4) (met_bare c once leveled clash reasons right uip.from h.0 h.2)

  -- what is logged without terms refutes
  pub refutes : (from : ℕ) (premises : List StepId) → ((s : StepId) → Contains premises s → IsUsed c from s) → (ids : List TermId) → ids ≡ [] → (r : Result StepId NoMemory) (new : List Logged)
      → MatchResult r (λ id. IsAdded c.table c.log (stepped Resolution premises [] ids) id new) (λ _. new ≡ c.log) → Refutes c r new
  refutes from premises others ids e (Ok id) new added = record {
    number = added.number;
    premises = premises;
    terms = ids;
    last = added.last;
    right = added.right;
    means = means_none c.table ids e;
    no_others = λ s i. used_premise c once leveled clash reasons from s (others s i);
  }
  refutes from premises others ids e (Err x) new same = same

  -- where the conflict is of level 0, so is what was met
  pub zero_left : IsOfZero c → (from p : ℕ) → IsMet c from p → 0 < level_at c p → Contains [] (lit_complement (held_at c p))
  zero_left zero from p m up = absurd (omega (arith, up, met_level c once leveled clash reasons 0 (of_zero c zero) from p m))
