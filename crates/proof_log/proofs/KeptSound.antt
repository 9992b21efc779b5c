-- What stays of a log says what it said.
use Rattle.std.proofs.Common.{inl, inr, ◌≡◌, ◌<◌, ◌≤◌, ℕ, zero, suc, List, [], ◌∷◌, ◌++◌, length, map, take, get_or, All, Contains, refl, sym, ap, ◌∙◌, subst, arith, length-take}
use Rattle.std.proofs.lemmas.Bool.{cases_lt}
use Rattle.std.proofs.lemmas.List.{length-map, get_or-map, get_or_default, get_or-take}
use Rattle.std.proofs.lemmas.List.Elements.{All-map, All-from_get_or, Contains-get_or}
use Rattle.std.proofs.Math.ListN.{get_or-map as get_or-map_same}
use Rattle.std.proofs.Math.Seq.{take-suc}
use Rattle.spec_sorts.specs.Terms.{Term}
use Rattle.spec_derivations.specs.Derivations.{by_rule, no_inference, inference_at, premises_of, IsDerivedFrom}
use Rattle.spec_derivations.specs.Keeping.{was as was_number, back as back_inference, IsKeptOf}
use Rattle.spec_derivations.proofs.Kept.{right as right_kept, derived as derived_kept}
use Rattle.term_core.specs.declared.ids.TermId.{TermId}
use Rattle.term_core.specs.Tables.{TableView, clause_at}
use Rattle.rule_bool.specs.Arguments.{texts_of}
use Rattle.proof_log.specs.declared.premises.StepId.{StepId}
use Rattle.proof_log.specs.Logs.{Logged, assumed, stepped, named, no_logged, premises_in, logged_at, AreStepsOf, AreEarlier, AreBelow, numbers_of, inference_of, derivation_in, AreFormulasIn, IsLogOf}
use Rattle.proof_log.specs.Reaches.{RestsOn, itself, by_premise, reach_at}
use Rattle.proof_log.specs.Keeping.{step_of, was, back, Stays, IsKeeping}
use Rattle.proof_log.proofs.Scopes.{terms_within}

named_back : (kept : List StepId) (l : Logged) → named (back kept l) ≡ named l
named_back kept (assumed id) = refl
named_back kept (stepped r ps qs c) = refl

premises_back : (kept : List StepId) (l : Logged) → premises_in (back kept l) ≡ map (was kept) (premises_in l)
premises_back kept (assumed id) = refl
premises_back kept (stepped r ps qs c) = refl

-- the premises that an inference has are those of its clause
pub premises_same : (t : TableView) (l : Logged) → premises_of (inference_of t l) ≡ numbers_of (premises_in l)
premises_same t (assumed id) = refl
premises_same t (stepped r ps qs c) = refl

-- the number that a clause had
was_same : (kept : List StepId) (n : ℕ) → was_number (numbers_of kept) n ≡ (was kept (step_of n)).0
was_same kept n = get_or-map_same (λ (s : StepId). s.0) kept n (step_of 0)

numbers_back : (kept ps : List StepId) → map (was_number (numbers_of kept)) (numbers_of ps) ≡ numbers_of (map (was kept) ps)
numbers_back kept [] = refl
numbers_back kept (p ∷ ps) = λ i. was_same kept p.0 i ∷ numbers_back kept ps i

back_said : (t : TableView) (kept : List StepId) (l : Logged) → back_inference (numbers_of kept) (inference_of t l) ≡ inference_of t (back kept l)
back_said t kept (assumed id) = refl
back_said t kept (stepped r ps qs c) = ap (λ ns. by_rule r ns (texts_of qs) (clause_at t c)) (numbers_back kept ps)

-- the inferences of a log by numbers
said_at : (t : TableView) (log : List Logged) (s : StepId) → s.0 < length log → inference_at (derivation_in t log) s.0 ≡ inference_of t (logged_at log s)
said_at t log s lt = get_or-map (inference_of t) log s.0 no_logged no_inference lt

said_all : (t : TableView) (log : List Logged) (kept : List StepId) → All (λ (s : StepId). s.0 < length log) kept → map (inference_of t) (map (logged_at log) kept) ≡ map (inference_at (derivation_in t log)) (numbers_of kept)
said_all t log [] there = refl
said_all t log (s ∷ kept) there = λ i. sym (said_at t log s (there 0 s (omega arith))) i ∷ said_all t log kept (λ k d lt. there (suc k) d (omega (arith, lt))) i

back_all : (t : TableView) (kept : List StepId) (log : List Logged) → map (back_inference (numbers_of kept)) (derivation_in t log) ≡ map (inference_of t) (map (back kept) log)
back_all t kept [] = refl
back_all t kept (l ∷ log) = λ i. back_said t kept l i ∷ back_all t kept log i

own_numbers : (f : StepId → StepId) (ps : List StepId) → All (λ p. f p ≡ p) ps → map f ps ≡ ps
own_numbers f [] own = refl
own_numbers f (p ∷ ps) own = λ i. own 0 p (omega arith) i ∷ own_numbers f ps (λ k d lt. own (suc k) d (omega (arith, lt))) i

-- where premises have their own numbers, nothing is changed
back_own : (kept : List StepId) (l : Logged) → All (λ p. was kept p ≡ p) (premises_in l) → back kept l ≡ l
back_own kept (assumed id) own = refl
back_own kept (stepped r ps qs c) own = ap (λ xs. stepped r xs qs c) (own_numbers (was kept) ps own)

module _ (old new : List Logged) (len : ℕ) (names renamed : List StepId) (h : IsKeeping old len names new renamed) where
  size : length new ≡ length h.kept
  size = sym (length-map new (back h.kept)) ∙ ap length h.same ∙ length-map h.kept (logged_at old)

  -- a clause is the one that it was
  at : (s : StepId) → s.0 < length new → back h.kept (logged_at new s) ≡ logged_at old (was h.kept s)
  at s lt = sym (get_or-map (back h.kept) new s.0 no_logged no_logged lt) ∙ ap (λ (l : List Logged). get_or l s.0 no_logged) h.same ∙ get_or-map (logged_at old) h.kept s.0 (step_of 0) no_logged (omega (arith, lt, size))

  pub same_clause : (s : StepId) → s.0 < length new → named (logged_at new s) ≡ named (logged_at old (was h.kept s))
  same_clause s lt = sym (named_back h.kept (logged_at new s)) ∙ ap named (at s lt)

  pub was_there : (s : StepId) → s.0 < length new → (was h.kept s).0 < length old
  was_there s lt = h.there s.0 (step_of 0) (omega (arith, lt, size))

  pub rests : (s m : StepId) → s.0 < length new → RestsOn new s m → RestsOn old (was h.kept s) (was h.kept m)
  rests s _ lt (itself _) = itself (was h.kept s)
  rests s m lt (by_premise _ p _ i r) =
      let ps = premises_in (logged_at new s) in
      let low : p.0 < s.0 = subst (λ (x : StepId). x.0 < s.0) i.2 (h.earlier s.0 lt i.0 p i.1) in
      let is : premises_in (logged_at old (was h.kept s)) ≡ map (was h.kept) ps = ap premises_in (sym (at s lt)) ∙ premises_back h.kept (logged_at new s) in
      let has : Contains (map (was h.kept) ps) (was h.kept p) = (i.0, omega (arith, i.1, length-map ps (was h.kept)), get_or-map (was h.kept) ps i.0 p (was h.kept p) i.1 ∙ ap (was h.kept) i.2) in
      by_premise (was h.kept s) (was h.kept p) (was h.kept m) (subst (λ (l : List StepId). Contains l (was h.kept p)) (sym is) has) (rests p m (omega (arith, low, lt)) r)

  -- the first clauses are there as they were
  pub first_there : (s : StepId) → s.0 < len → s.0 < length old → s.0 < length new
  first_there s below lt = elim (cases_lt s.0 (length new)) as (λ _. s.0 < length new) [
    | inl low ↦ low
    | inr above ↦ absurd (
        let i = h.each s lt (inl below) in
        let less : i.0 < s.0 = omega (arith, above, i.1, size) in
        let e : i.0 ≡ s.0 = ap (λ (x : StepId). x.0) (sym (h.first (step_of i.0) (omega (arith, less, below)) (omega (arith, less, lt))) ∙ get_or_default h.kept i.0 (step_of 0) s i.1 ∙ i.2) in
        omega (arith, e, less))
  ]

  pub first_same : (s : StepId) → s.0 < len → s.0 < length old → logged_at new s ≡ logged_at old s
  first_same s below lt =
      let here = first_there s below lt in
      sym (back_own h.kept (logged_at new s) (λ k d low. let before = h.earlier s.0 here k d low in h.first (get_or (premises_in (logged_at new s)) k d) (omega (arith, before, below)) (omega (arith, before, lt))))
      ∙ at s here ∙ ap (logged_at old) (h.first s below lt)

  pub first_front : (n : ℕ) → n ≤ len → n ≤ length old → take n new ≡ take n old
  first_front zero below lt = refl
  first_front (suc n) below lt =
      take-suc new n no_logged (first_there (step_of n) (omega (arith, below)) (omega (arith, lt)))
      ∙ (λ i. first_front n (omega (arith, below)) (omega (arith, lt)) i ++ first_same (step_of n) (omega (arith, below)) (omega (arith, lt)) i ∷ [])
      ∙ sym (take-suc old n no_logged (omega (arith, lt)))

  -- what stays names terms below a number, if the first clauses do, and the named ones reach no further
  pub below_reached : (n : ℕ) → AreEarlier old → AreStepsOf old names → AreBelow n (take len old) → All (λ s. (reach_at old s).terms ≤ n) names → AreBelow n new
  below_reached n earlier names_in first within = All-from_get_or (λ l. All (λ (id : TermId). id.0 < n) (named l)) new no_logged (λ k lt.
      let o = was h.kept (step_of k) in
      let here : k < length h.kept = omega (arith, lt, size) in
      subst (λ c. All (λ (id : TermId). id.0 < n) c) (sym (same_clause (step_of k) lt)) (clause_below o (was_there (step_of k) lt) (h.only o (Contains-get_or h.kept k (step_of 0) here))))
    where
      clause_below : (o : StepId) → o.0 < length old → Stays old len names o → All (λ (id : TermId). id.0 < n) (named (logged_at old o))
      clause_below o lt stays = elim stays as (λ _. All (λ (id : TermId). id.0 < n) (named (logged_at old o))) [
        | inl low ↦ subst (λ l. All (λ (id : TermId). id.0 < n) (named l)) (get_or-take len old o.0 no_logged low) (first o.0 no_logged (omega (arith, low, lt, length-take len old)))
        | inr x ↦
            let named_in : x.0.0 < length old = subst (λ (s : StepId). s.0 < length old) x.1.2 (names_in x.1.0 x.0 x.1.1) in
            let reach : (reach_at old x.0).terms ≤ n = subst (λ (s : StepId). (reach_at old s).terms ≤ n) x.1.2 (within x.1.0 x.0 x.1.1) in
            λ j d lt_j.
            let own = terms_within old earlier x.0 o (get_or (named (logged_at old o)) j d) named_in x.2 (j, lt_j, get_or_default (named (logged_at old o)) j (get_or (named (logged_at old o)) j d) d lt_j) in
            omega (arith, own, reach)
      ]

  pub names_size : length renamed ≡ length names
  names_size = sym (length-map renamed (was h.kept)) ∙ ap length h.names_same

  -- a name is that of the clause that it named
  pub name_was : (k : ℕ) (d : StepId) → k < length names → was h.kept (get_or renamed k d) ≡ get_or names k d
  name_was k d lt = sym (get_or-map (was h.kept) renamed k d d (omega (arith, lt, names_size))) ∙ ap (λ (l : List StepId). get_or l k d) h.names_same

  -- as the logs say it over a table
  module _ (t : TableView) where
    abbrev kept : List ℕ
    kept = numbers_of h.kept

    said : IsKeptOf (derivation_in t old) kept (derivation_in t new)
    said = record {
      there = All-map (λ n. n < length (derivation_in t old)) (λ (s : StepId). s.0) h.kept
          (λ k d lt. subst (λ n. (get_or h.kept k d).0 < n) (sym (length-map old (inference_of t))) (h.there k d lt));
      ascending = λ i j lt there.
          let a = h.ascending i j lt (omega (arith, there, length-map h.kept (λ (s : StepId). s.0))) in
          omega (arith, a, was_same h.kept i, was_same h.kept j);
      same = back_all t h.kept new ∙ ap (map (inference_of t)) h.same ∙ said_all t old h.kept h.there;
      earlier = λ k lt.
          let lt_log : k < length new = omega (arith, lt, length-map new (inference_of t)) in
          subst (All (λ p. p < k)) (sym (ap premises_of (said_at t new (step_of k) lt_log) ∙ premises_same t (logged_at new (step_of k))))
          (All-map (λ p. p < k) (λ (s : StepId). s.0) (premises_in (logged_at new (step_of k))) (h.earlier k lt_log));
    }

    -- each clause is right
    pub right : IsLogOf t old → IsLogOf t new
    right log = record {
      formulas = All-from_get_or (λ l. AreFormulasIn t (named l)) new no_logged (λ k lt.
          subst (AreFormulasIn t) (sym (same_clause (step_of k) lt)) (log.formulas (was h.kept (step_of k)).0 no_logged (was_there (step_of k) lt)));
      right = right_kept (derivation_in t old) (derivation_in t new) kept said log.right;
    }

    -- and derived from what it was derived from
    pub derived : (terms : List Term) (s : StepId) → s.0 < length new → IsDerivedFrom terms (derivation_in t old) (was h.kept s).0 → IsDerivedFrom terms (derivation_in t new) s.0
    derived terms s lt d =
        let lt_d : s.0 < length (derivation_in t new) = omega (arith, lt, length-map new (inference_of t)) in
        derived_kept (derivation_in t old) (derivation_in t new) kept said terms s.0 lt_d
        (subst (IsDerivedFrom terms (derivation_in t old)) (sym (was_same h.kept s.0)) d)
