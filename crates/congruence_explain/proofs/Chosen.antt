-- The claims that are kept are those that a chain needs, and the step that states them follows.
use Rattle.std.proofs.Common.{◌≡◌, ℕ, ◌+◌, ◌<◌, ◌≤◌, inl, inr, List, [], ◌∷◌, ◌++◌, length, map, drop, get_or, All, Contains, refl, sym, ap, ◌∙◌, subst, arith}
use Rattle.std.specs.Prelude.{Result, Ok, Err, IfOk}
use Rattle.std.proofs.lemmas.Bool.{cases_lt}
use Rattle.std.proofs.lemmas.List.{length-map, get_or-map, get_or_default}
use Rattle.std.proofs.lemmas.List.Elements.{All-map, All-contains, Contains-push, Contains-push_cases, Contains-append_left, Contains-get_or}
use Rattle.spec_text.specs.Trees.{none}
use Rattle.spec_text.proofs.Members.{to_image, from_image, none as none_in}
use Rattle.spec_sorts.specs.Literals.{Clause, Literal, literals_of, complement}
use Rattle.spec_proofs.specs.declared.Rule.TheVariants.{Resolution}
use Rattle.spec_proofs.specs.Resolution.{IsWithin}
use Rattle.spec_rules.specs.Clauses.{IsResolvent}
use Rattle.spec_derivations.specs.Derivations.{by_rule, FollowsFrom}
use Rattle.spec_derivations.specs.ExactChains.{HasSame, IsExactResolvent}
use Rattle.spec_derivations.specs.Lemmas.{TakesNoMore}
use Rattle.spec_derivations.proofs.Exact.{same_chain, exact_resolves}
use Rattle.no_memory.specs.declared.NoMemory.{NoMemory}
use Rattle.term_core.specs.declared.ids.TermId.{TermId}
use Rattle.term_core.specs.declared.ids.Lit.{Lit}
use Rattle.term_core.specs.Tables.{TableView, IsIn, AreDifferent, literal_at, clause_at}
use Rattle.clause_literals.specs.Literals.{lit_complement, LiteralsMean}
use Rattle.clause_literals.proofs.LiteralLists.{negation_twice}
use Rattle.rule_bool.specs.Resolvents.{MeansEach}
use Rattle.proof_log.specs.declared.premises.StepId.{StepId}
use Rattle.proof_log.specs.Logs.{Logged, clauses_in, numbers_of, derivation_in}
use Rattle.proof_log.specs.Theories.{Derived, derived}
use Rattle.proof_log.proofs.Logged.{numbers_there, premises_there}
use Rattle.term_clauses.specs.Stating.{Widens}
use Rattle.congruence_explain.specs.declared.claims.SignedClaim.{SignedClaim}
use Rattle.congruence_explain.specs.Claims.{no_term_id, claim_as_term, claim_as_literal, IsClaimOf, equality_claim}
use Rattle.congruence_explain.specs.Steps.{Start, spoken, Explains, steps_since, all_denied, AreNumbersFrom, HasPut}
use Rattle.congruence_explain.specs.Needing.{HasFalsePremise, IsRefuted, standing}
use Rattle.congruence_explain.specs.Choosing.{AreKept, IsChosen, HasPutSome}
use Rattle.congruence_explain.proofs.Terms.{claims_in, literals_put}
use Rattle.congruence_explain.proofs.Logging.{logged_same}
use Rattle.congruence_explain.proofs.Concluding.{premises_are}
use Rattle.congruence_explain.proofs.Backward.{in_standing, from_standing}
use Rattle.congruence_explain.proofs.Imaged.{resolvent_image}

-- Of the first claims those are kept whose literals are needed.
pub record KeepsSome (needed literals : List Lit) (clause : List SignedClaim) (n : ℕ) (kept : List SignedClaim) : Type 0 where
  pub only : (s : SignedClaim) (d : Lit) → Contains kept s → (k : ℕ) × (k < length clause) × (get_or clause k s ≡ s) × Contains needed (get_or literals k d)
  pub all : (k : ℕ) (s : SignedClaim) (d : Lit) → k < n → k < length clause → Contains needed (get_or literals k d) → Contains kept (get_or clause k s)

module _ (needed literals : List Lit) (clause : List SignedClaim) where
  pub keeps_none : (kept : List SignedClaim) → kept ≡ [] → KeepsSome needed literals clause 0 kept
  keeps_none kept empty = record {
    only = λ s d i. absurd (none_in s (subst (λ (xs : List SignedClaim). Contains xs s) empty i));
    all = λ k s d lt _ i. absurd (omega (arith, lt));
  }

  module _ (same : length literals ≡ length clause) (n : ℕ) (l : Lit) (s : SignedClaim) (lt : n < length clause) (kept : List SignedClaim) (h : KeepsSome needed literals clause n kept) where
    short : n < length literals
    short = omega (arith, lt, same)

    -- one more that is not needed
    pub keeps_same : l ≡ get_or literals n l → (Contains needed l → ⊥) → KeepsSome needed literals clause (n + 1) kept
    keeps_same l_is free = record {
      only = h.only;
      all = λ k x d low here i. elim (cases_lt k n) [
        | inl early ↦ h.all k x d early here i
        | inr late ↦
            let is : k ≡ n = omega (arith, low, late) in
            absurd (free (subst (Contains needed) (ap (λ j. get_or literals j d) is ∙ get_or_default literals n d l short ∙ sym l_is) i))
      ];
    }

    -- one that is
    pub keeps_more : l ≡ get_or literals n l → s ≡ get_or clause n s → Contains needed l → (new : List SignedClaim) → new ≡ kept ++ s ∷ [] → KeepsSome needed literals clause (n + 1) new
    keeps_more l_is s_is i new is = subst (λ (xs : List SignedClaim). KeepsSome needed literals clause (n + 1) xs) (sym is) (record {
      only = λ x d j. elim (Contains-push_cases kept s x j) [
        | inl was ↦ h.only x d was
        | inr e ↦ (n, lt, get_or_default clause n x s lt ∙ sym s_is ∙ e, subst (Contains needed) (l_is ∙ get_or_default literals n l d short) i)
      ];
      all = λ k x d low here j. elim (cases_lt k n) [
        | inl early ↦ Contains-append_left kept (s ∷ []) (get_or clause k x) (h.all k x d early here j)
        | inr late ↦
            let at : k ≡ n = omega (arith, low, late) in
            subst (Contains (kept ++ s ∷ [])) (s_is ∙ get_or_default clause n s x lt ∙ ap (λ m. get_or clause m x) (sym at)) (Contains-push kept s)
      ];
    })

  -- all of them
  pub kept_all : (n : ℕ) → length clause ≤ n → (kept : List SignedClaim) → KeepsSome needed literals clause n kept → AreKept needed literals clause kept
  kept_all n end kept h = record { only = h.only; all = λ k s d lt i. h.all k s d (omega (arith, lt, end)) lt i }

-- what is kept is of the clause
pub kept_within : (needed literals : List Lit) (clause kept : List SignedClaim) → AreKept needed literals clause kept → IsWithin kept clause
kept_within needed literals clause kept h s i =
    let l : Lit = record { term = no_term_id; positive = Rattle.std.proofs.Common.true } in
    let w = h.only s l i in (w.0, w.1, w.2)

module _ (u t : TableView) (needed literals : List Lit) (clause kept : List SignedClaim) (same : map (literal_at u) literals ≡ map (claim_as_literal t) clause) (h : AreKept needed literals clause kept) where
  abbrev no_lit : Lit
  no_lit = record { term = no_term_id; positive = Rattle.std.proofs.Common.true }

  abbrev no_claim : SignedClaim
  no_claim = equality_claim no_term_id no_term_id

  lengths : length literals ≡ length clause
  lengths = sym (length-map literals (literal_at u)) ∙ ap length same ∙ length-map clause (claim_as_literal t)

  -- a claim says its literal
  says : (k : ℕ) (s : SignedClaim) (l : Lit) → k < length clause → claim_as_literal t (get_or clause k s) ≡ literal_at u (get_or literals k l)
  says k s l lt =
      let short : k < length literals = omega (arith, lt, lengths) in
      sym (get_or-map (claim_as_literal t) clause k s (literal_at u l) lt) ∙ (λ i. get_or (sym same i) k (literal_at u l)) ∙ get_or-map (literal_at u) literals k l (literal_at u l) short

  -- a literal whose complement is assumed is one of the clause
  assumed_back : (l : Lit) → Contains (map lit_complement literals) (lit_complement l) → Contains literals l
  assumed_back l i =
      let w = from_image lit_complement literals (lit_complement l) i in
      subst (Contains literals) (sym (negation_twice w.0) ∙ ap lit_complement w.2 ∙ negation_twice l) w.1

  -- the claims that are kept are the literals that stand
  pub kept_stand : HasSame (map (literal_at u) (standing (map lit_complement literals) needed)) (map (claim_as_literal t) kept)
  kept_stand m = (
    λ i.
        let w = from_image (literal_at u) (standing (map lit_complement literals) needed) m i in
        let s = from_standing (map lit_complement literals) needed w.0 w.1 in
        let p = assumed_back w.0 s.1 in
        let lt : p.0 < length clause = omega (arith, p.1, lengths) in
        let there = h.all p.0 no_claim w.0 lt (subst (Contains needed) (sym p.2) s.0) in
        subst (Contains (map (claim_as_literal t) kept)) (says p.0 no_claim w.0 lt ∙ ap (literal_at u) p.2 ∙ w.2) (to_image (claim_as_literal t) kept (get_or clause p.0 no_claim) there),
    λ i.
        let w = from_image (claim_as_literal t) kept m i in
        let p = h.only w.0 no_lit w.1 in
        let l = get_or literals p.0 no_lit in
        let short : p.0 < length literals = omega (arith, p.1, lengths) in
        let stands = in_standing (map lit_complement literals) needed l p.3 (to_image lit_complement literals l (Contains-get_or literals p.0 no_lit short)) in
        subst (Contains (map (literal_at u) (standing (map lit_complement literals) needed))) (sym (says p.0 w.0 no_lit p.1) ∙ ap (claim_as_literal t) p.2 ∙ w.2) (to_image (literal_at u) (standing (map lit_complement literals) needed) l stands),
  )

-- the complements of literals mean the complements of what they mean
pub complements_mean : (u : TableView) (ls : List Lit) → map (literal_at u) (map lit_complement ls) ≡ map complement (map (literal_at u) ls)
complements_mean u [] = refl
complements_mean u (l ∷ ls) = ap (λ xs. complement (literal_at u l) ∷ xs) (complements_mean u ls)

module _ (start : Start) (u : TableView) (log : List Logged) (from : ℕ) (from_is : from ≡ length start.log) (clause : List SignedClaim) (claims : All (λ s. IsClaimOf (spoken start) start.table s.claim) clause)
    (literals : List Lit) (terms : List TermId) (means : clause_at u terms ≡ map (claim_as_term start.table) clause) (one : LiteralsMean u literals (clause_at u terms))
    (steps : List StepId) (numbers : AreNumbersFrom log from steps) (premises : List (List Lit)) (each : MeansEach u premises (map (clause_at u) (clauses_in log steps))) where
  -- the literals are those of the claims
  pub literals_are : map (literal_at u) literals ≡ map (claim_as_literal start.table) clause
  literals_are = one.same ∙ ap literals_of means ∙ literals_put start.table clause (claims_in (spoken start) start.table clause claims)

  pub numbers_since : AreNumbersFrom log (length start.log) steps
  numbers_since = subst (λ n. AreNumbersFrom log n steps) from_is numbers

  premises_mean : map (map (literal_at u)) premises ≡ steps_since start (derived u log)
  premises_mean = each.same ∙ premises_are start u log steps numbers_since

  assumed_mean : map (literal_at u) (map lit_complement literals) ≡ all_denied start.table clause
  assumed_mean = complements_mean u literals ∙ ap (map complement) literals_are

  -- so the premises refute the complements
  pub chosen_refuted : HasFalsePremise (steps_since start (derived u log)) (all_denied start.table clause) → IsRefuted u premises (map lit_complement literals)
  chosen_refuted refuted = record {
    premises_in = each.there;
    start_in = All-map (λ (m : Lit). IsIn u m.term) lit_complement literals one.there;
    refuted = subst (λ (ps : List (List Literal)). HasFalsePremise ps (map (literal_at u) (map lit_complement literals))) (sym premises_mean)
        (subst (λ (ls : List Literal). HasFalsePremise (steps_since start (derived u log)) ls) (sym assumed_mean) refuted);
  }

  pub same_length : length literals ≡ length clause
  same_length = sym (length-map literals (literal_at u)) ∙ ap length literals_are ∙ length-map clause (claim_as_literal start.table)

  -- and a chain gives what is kept
  pub chosen : AreDifferent u.terms → (needed : List Lit) → IsExactResolvent lit_complement (Contains premises) (standing (map lit_complement literals) needed) → (kept : List SignedClaim) → AreKept needed literals clause kept → IsChosen start (derived u log) clause steps kept
  chosen differ needed comes kept h =
      let image = resolvent_image u differ premises each.there (standing (map lit_complement literals) needed) comes in
      let given : IsExactResolvent complement (Contains (steps_since start (derived u log))) (map (literal_at u) (standing (map lit_complement literals) needed)) =
      subst (λ (ps : List (List Literal)). IsExactResolvent complement (Contains ps) (map (literal_at u) (standing (map lit_complement literals) needed))) premises_mean image in
      record {
        numbers = numbers_since;
        within = kept_within needed literals clause kept h;
        comes = (
          given.0,
          same_chain complement (Contains (steps_since start (derived u log))) given.0 (map (literal_at u) (standing (map lit_complement literals) needed)) (map (claim_as_literal start.table) kept) given.1
              (kept_stand u start.table needed literals clause kept literals_are h),
        );
      }

-- where the table grew, the steps since the start mean the same
pub refuted_wider : (start : Start) (t u : TableView) (log : List Logged) → Explains start (derived t log) → Widens t u → (assumed : List Literal) → HasFalsePremise (steps_since start (derived t log)) assumed → HasFalsePremise (steps_since start (derived u log)) assumed
refuted_wider start t u log derives wider assumed h = subst (λ (ps : List (List Literal)). HasFalsePremise ps assumed) (ap (drop (length start.log)) (sym (logged_same t u wider log derives.right.formulas))) h

module _ (start : Start) (u : TableView) (log : List Logged) (clause : List SignedClaim) (claims : All (λ s. IsClaimOf (spoken start) start.table s.claim) clause) (steps : List StepId) (kept : List SignedClaim) (h : IsChosen start (derived u log) clause steps kept) where
  pub kept_claims : All (λ s. IsClaimOf (spoken start) start.table s.claim) kept
  kept_claims k d lt = All-contains (λ (s : SignedClaim). IsClaimOf (spoken start) start.table s.claim) clause (get_or kept k d) claims (h.within (get_or kept k d) (Contains-get_or kept k d lt))

  stated_as : literals_of (map (claim_as_term start.table) kept) ≡ map (claim_as_literal start.table) kept
  stated_as = literals_put start.table kept (claims_in (spoken start) start.table kept kept_claims)

  -- what is kept comes by a chain over the premises
  comes : IsExactResolvent complement (Contains (map literals_of (map (clause_at u) (clauses_in log steps)))) (literals_of (map (claim_as_term start.table) kept))
  comes = subst (λ (ps : List (List Literal)). IsExactResolvent complement (Contains ps) (literals_of (map (claim_as_term start.table) kept))) (sym (premises_are start u log steps h.numbers))
      (subst (λ (ls : List Literal). IsExactResolvent complement (Contains (steps_since start (derived u log))) ls) (sym stated_as) h.comes)

  -- so its step follows
  pub chosen_follows : FollowsFrom (derivation_in u log) (by_rule Resolution (numbers_of steps) none (map (claim_as_term start.table) kept))
  chosen_follows = (
    numbers_there u log steps h.numbers.there,
    subst (λ (cs : List Clause). IsResolvent cs (map (claim_as_term start.table) kept)) (sym (premises_there u log steps h.numbers.there))
        (exact_resolves (map literals_of (map (clause_at u) (clauses_in log steps))) (literals_of (map (claim_as_term start.table) kept)) comes),
  )

  -- and takes no more
  pub chosen_exact : TakesNoMore (derivation_in u log) (by_rule Resolution (numbers_of steps) none (map (claim_as_term start.table) kept))
  chosen_exact = inr (subst (λ (cs : List Clause). IsExactResolvent complement (Contains (map literals_of cs)) (literals_of (map (claim_as_term start.table) kept))) (sym (premises_there u log steps h.numbers.there)) comes)

  -- its step, as it is put
  pub some_put : (old now : Derived) (list : List SignedClaim) → list ≡ kept → (r : Result StepId NoMemory) → IfOk r (HasPut start old now (map (claim_as_literal start.table) list)) → IfOk r (HasPutSome start now clause)
  some_put old now list is (Ok id) put = record { kept = kept; within = h.within; there = put.there; literals = put.clause_is ∙ ap (map (claim_as_literal start.table)) is }
  some_put old now list is (Err e) put = tt
