-- Steps that are logged, and the clauses that came since the start.
use Rattle.proof_log.specs.Theories.{derived}
use Rattle.std.proofs.Common.{◌≡◌, ℕ, ◌+◌, ◌<◌, ◌≤◌, List, [], ◌∷◌, ◌++◌, length, map, take, drop, get_or, refl, sym, ap, ◌∙◌, subst, arith, append_assoc, length-append}
use Rattle.std.specs.Prelude.{All, Result, Ok, Err, IfOk, MatchResult}
use Rattle.std.proofs.lemmas.List.{map-append, map_more, drop-append-le, length-map}
use Rattle.std.proofs.Math.Seq.{get_or-append_seam}
use Rattle.std.proofs.lemmas.List.Elements.{All-head, All-tail, All-map, All-push}
use Rattle.spec_text.specs.Trees.{none}
use Rattle.spec_sorts.specs.Terms.{Term}
use Rattle.spec_sorts.specs.Literals.{literals_of}
use Rattle.spec_proofs.specs.declared.Rule.{Rule}
use Rattle.spec_derivations.specs.Derivations.{Inference, by_rule, Derivation, FollowsFrom}
use Rattle.spec_derivations.specs.Lemmas.{IsMadeOf, TakesNoMore, IsLemma}
use Rattle.spec_derivations.proofs.Onward.{lemma_onward}
use Rattle.no_memory.specs.declared.NoMemory.{NoMemory}
use Rattle.term_core.specs.declared.ids.TermId.{TermId}
use Rattle.term_core.specs.Tables.{TableView, term_at, clause_at}
use Rattle.term_core.proofs.TermsExtend.{clause_at-kept, Extends-trans}
use Rattle.proof_log.specs.declared.premises.StepId.{StepId}
use Rattle.proof_log.specs.Logs.{Logged, stepped, named, logged_at, no_logged, numbers_of, derivation_in, inference_of, IsFormulaIn, AreFormulasIn, IsLogOf}
use Rattle.proof_log.specs.Adding.{IsAdded}
use Rattle.proof_log.proofs.Tables.{grown_right, grown_same, grown_lemmas}
use Rattle.term_clauses.specs.Stating.{Widens}
use Rattle.term_clauses.proofs.Parts.{formula_kept}
use Rattle.congruence_explain.specs.declared.claims.SignedClaim.{SignedClaim}
use Rattle.congruence_explain.specs.Claims.{claim_as_term, claim_as_literal, IsClaimIn, IsClaimOf}
use Rattle.congruence_explain.specs.Steps.{Start, spoken, Explains, literals_logged, HasPut}
use Rattle.congruence_explain.proofs.Terms.{claims_in, claimed_made, claim_kept, claimed_same, clause_same, literals_put}

-- a literal more is put
pub terms_more : (t u w : TableView) → Widens t u → Widens u w → (clause : List SignedClaim) (i : ℕ) (d : SignedClaim) → i < length clause → All (λ s. IsClaimIn t s.claim) clause → (ids all : List TermId) (id : TermId) → all ≡ ids ++ id ∷ []
    → AreFormulasIn u ids → clause_at u ids ≡ map (claim_as_term t) (take i clause) → IsFormulaIn w id → clause_at w (id ∷ []) ≡ claim_as_term u (get_or clause i d) ∷ []
    → AreFormulasIn w all × (clause_at w all ≡ map (claim_as_term t) (take (i + 1) clause))
terms_more t u w wide wider clause i d lt claims ids all id is formulas same formula one = (
  subst (AreFormulasIn w) (sym is) (All-push (IsFormulaIn w) ids id (λ k e small. formula_kept u w wider (get_or ids k e) (formulas k e small)) formula),
  ap (clause_at w) is ∙ map-append (term_at w) ids (id ∷ []) ∙ (λ j. before j ++ last j) ∙ sym (map_more (claim_as_term t) clause i d lt),
)
  where
    before : clause_at w ids ≡ map (claim_as_term t) (take i clause)
    before = clause_at-kept u w wider.terms ids (λ k e small. (formulas k e small).0) ∙ same

    last : clause_at w (id ∷ []) ≡ claim_as_term t (get_or clause i d) ∷ []
    last = one ∙ ap (λ x. x ∷ []) (claimed_same t u wide (get_or clause i d) (claims i d lt))

-- the table of a start, and one that has more
pub start_wide : (start : Start) (t : TableView) (log : List Logged) → Explains start (derived t log) → Widens start.table t
start_wide start t log d = record { terms = d.table; declared = d.declared }

-- the clauses mean the same over a wider table
pub logged_same : (t u : TableView) → Widens t u → (log : List Logged) → All (λ l. AreFormulasIn t (named l)) log → map (literals_logged u) log ≡ map (literals_logged t) log
logged_same t u wider [] h = refl
logged_same t u wider (l ∷ log) h =
    let here = All-head (λ l. AreFormulasIn t (named l)) l log h in
    λ i. literals_of (clause_at-kept t u wider.terms (named l) (λ k d lt. (here k d lt).0) i) ∷ logged_same t u wider log (All-tail (λ l. AreFormulasIn t (named l)) l log h) i

module _ (start : Start) (t u : TableView) (log : List Logged) (derives : Explains start (derived t log)) (wider : Widens t u) where
  -- the log is right over the wider table
  pub wider_right : IsLogOf u log
  wider_right = grown_right t u log derives.right wider.terms

  -- what came are still lemmas
  lemmas_wider : All (λ l. IsLemma (spoken start) (derivation_in u log) (length start.log) (inference_of u l)) derives.more
  lemmas_wider =
      let Lemmas : TableView → List Logged → Type 0 = λ (v : TableView) (xs : List Logged). All (λ l. IsLemma (spoken start) (derivation_in v xs) (length start.log) (inference_of v l)) derives.more in
      subst (Lemmas u) (sym derives.log)
      (grown_lemmas t u (spoken start) (length start.log) start.log derives.more (subst (IsLogOf t) derives.log derives.right) wider.terms (subst (Lemmas t) derives.log derives.lemmas))

  -- and still derived
  pub derives_wider : Explains start (derived u log)
  derives_wider = record {
    table = Extends-trans start.table t u derives.table wider.terms;
    declared = wider.declared ∙ derives.declared;
    more = derives.more;
    log = derives.log;
    right = wider_right;
    lemmas = lemmas_wider;
  }

  module _ (clause : List SignedClaim) (claims : All (λ s. IsClaimOf (spoken start) start.table s.claim) clause) where
    -- the literals can be put into the table
    pub claims_wide : All (λ s. IsClaimIn t s.claim) clause
    claims_wide = λ k d lt. claim_kept start.table t (start_wide start t log derives) (get_or clause k d).claim (claims k d lt).0

    module _ (ids : List TermId) (means : clause_at u ids ≡ map (claim_as_term t) clause) where
      -- the terms that are put are those of the clause
      pub terms_are : clause_at u ids ≡ map (claim_as_term start.table) clause
      terms_are = means ∙ clause_same start.table t (start_wide start t log derives) clause (claims_in (spoken start) start.table clause claims)

      -- so the step follows
      pub step_follows : (rule : Rule) (ps : List StepId) → FollowsFrom (derivation_in t log) (by_rule rule (numbers_of ps) none (map (claim_as_term start.table) clause))
          → FollowsFrom (derivation_in u log) (inference_of u (stepped rule ps [] ids))
      step_follows rule ps follows =
          subst (λ (d : Derivation). FollowsFrom d (by_rule rule (numbers_of ps) none (clause_at u ids))) (sym (grown_same t u log derives.right wider.terms))
          (subst (λ c. FollowsFrom (derivation_in t log) (by_rule rule (numbers_of ps) none c)) (sym terms_are) follows)

      -- and is made of the listed terms
      terms_made : All (IsMadeOf (spoken start)) (clause_at u ids)
      terms_made = subst (λ (c : List Term). All (IsMadeOf (spoken start)) c) (sym terms_are)
          (All-map (IsMadeOf (spoken start)) (claim_as_term start.table) clause (λ k d lt. claimed_made (spoken start) start.table (get_or clause k d) (claims k d lt)))

      module _ (rule : Rule) (ps : List StepId) (since : All (λ (p : StepId). length start.log ≤ p.0) ps) (follows : FollowsFrom (derivation_in t log) (by_rule rule (numbers_of ps) none (map (claim_as_term start.table) clause)))
          (exact : TakesNoMore (derivation_in t log) (by_rule rule (numbers_of ps) none (map (claim_as_term start.table) clause))) (id : StepId) (new : List Logged) (added : IsAdded u log (stepped rule ps [] ids) id new) where
        -- the log says one inference more
        longer : derivation_in u new ≡ derivation_in u log ++ inference_of u (stepped rule ps [] ids) ∷ []
        longer = ap (derivation_in u) added.last ∙ map-append (inference_of u) log (stepped rule ps [] ids ∷ [])

        -- so each lemma is one still
        lemma_longer : (x : Inference) → IsLemma (spoken start) (derivation_in u log) (length start.log) x → IsLemma (spoken start) (derivation_in u new) (length start.log) x
        lemma_longer x h = subst (λ (d : Derivation). IsLemma (spoken start) d (length start.log) x) (sym longer)
            (lemma_onward (derivation_in u log) (inference_of u (stepped rule ps [] ids) ∷ []) (spoken start) (length start.log) x h)

        -- and so is the step
        lemma_here : IsLemma (spoken start) (derivation_in u log) (length start.log) (inference_of u (stepped rule ps [] ids))
        lemma_here =
            let same : derivation_in u log ≡ derivation_in t log = grown_same t u log derives.right wider.terms in
            let low = All-map (λ m. length start.log ≤ m) (λ (p : StepId). p.0) ps since in (
              λ k d lt. (low k d lt, subst (λ (e : Derivation). get_or (numbers_of ps) k d < length e) (sym same) (follows.0 k d lt)),
              terms_made,
              subst (λ (e : Derivation). TakesNoMore e (by_rule rule (numbers_of ps) none (clause_at u ids))) (sym same)
                  (subst (λ (c : List Term). TakesNoMore (derivation_in t log) (by_rule rule (numbers_of ps) none c)) (sym terms_are) exact),
            )

        -- it is derived
        pub derives_step : Explains start (derived u new)
        derives_step = record {
          table = derives_wider.table;
          declared = derives_wider.declared;
          more = derives.more ++ stepped rule ps [] ids ∷ [];
          log = added.last ∙ ap (λ l. l ++ stepped rule ps [] ids ∷ []) derives.log ∙ append_assoc start.log derives.more (stepped rule ps [] ids ∷ []);
          right = added.right;
          lemmas = All-push (λ l. IsLemma (spoken start) (derivation_in u new) (length start.log) (inference_of u l)) derives.more (stepped rule ps [] ids)
              (λ k d lt. lemma_longer (inference_of u (get_or derives.more k d)) (lemmas_wider k d lt)) (lemma_longer (inference_of u (stepped rule ps [] ids)) lemma_here);
        }

        literals_are : literals_of (clause_at u ids) ≡ map (claim_as_literal start.table) clause
        literals_are = ap literals_of terms_are ∙ literals_put start.table clause (claims_in (spoken start) start.table clause claims)

        here : id.0 < length new
        here = omega (arith, added.number, ap length added.last, length-append log (stepped rule ps [] ids ∷ []))

        at_end : logged_at new id ≡ stepped rule ps [] ids
        at_end = (λ i. get_or (added.last i) (added.number i) no_logged) ∙ get_or-append_seam log (stepped rule ps [] ids) [] no_logged

        -- and is last
        pub put_last : HasPut start (derived t log) (derived u new) (map (claim_as_literal start.table) clause) id
        put_last = record {
          there = here;
          clause_is = ap (literals_logged u) at_end ∙ literals_are;
          last = ap (drop (length start.log)) (ap (map (literals_logged u)) added.last ∙ map-append (literals_logged u) log (stepped rule ps [] ids ∷ [])
              ∙ (λ i. logged_same t u wider log derives.right.formulas i ++ literals_are i ∷ []))
              ∙ drop-append-le (length start.log) (map (literals_logged t) log) (map (claim_as_literal start.table) clause ∷ []) low;
        }
          where
            low : length start.log ≤ length (map (literals_logged t) log)
            low = omega (arith, length-map log (literals_logged t), ap length derives.log, length-append start.log derives.more)

      -- whatever comes of adding it
      pub put_result : (rule : Rule) (ps : List StepId) → All (λ (p : StepId). length start.log ≤ p.0) ps → FollowsFrom (derivation_in t log) (by_rule rule (numbers_of ps) none (map (claim_as_term start.table) clause))
          → TakesNoMore (derivation_in t log) (by_rule rule (numbers_of ps) none (map (claim_as_term start.table) clause)) → (new : List Logged) (r : Result StepId NoMemory) → MatchResult r (λ id. IsAdded u log (stepped rule ps [] ids) id new) (λ _. new ≡ log)
          → Explains start (derived u new) × IfOk r (HasPut start (derived t log) (derived u new) (map (claim_as_literal start.table) clause))
      put_result rule ps since follows exact new (Ok id) added = (derives_step rule ps since follows exact id new added, put_last rule ps since follows exact id new added)
      put_result rule ps since follows exact new (Err e) same = (subst (λ l. Explains start (derived u l)) (sym same) derives_wider, tt)
