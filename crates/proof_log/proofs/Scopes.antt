-- What a derivation rests on is within its clause's reach, and the reach is no more.
use Rattle.std.proofs.Common.{inl, inr, ◌⊎◌, ◌≡◌, ℕ, zero, suc, ◌<◌, ◌≤◌, List, [], ◌∷◌, length, get_or, All, Contains, refl, sym, ap, ◌∙◌, arith, subst}
use Rattle.std.proofs.lemmas.List.Elements.{Contains-get_or}
use Rattle.std.proofs.Math.Nat.{le_trans}
use Rattle.term_core.specs.declared.ids.TermId.{TermId}
use Rattle.proof_log.specs.declared.premises.StepId.{StepId}
use Rattle.proof_log.specs.Logs.{Logged, assumed, stepped, named, premises_in, logged_at, AreEarlier}
use Rattle.proof_log.specs.Reaches.{RestsOn, itself, by_premise, ReachView, reaches, reach_in, reach_at, past_from, over_from, of_terms}
use Rattle.proof_log.specs.Keeping.{step_of}
use Rattle.proof_log.proofs.Most.{most_from, most_ge, most_has, most_met, past_one, past_is, terms_in, assumes_in, over_terms, over_assumes}
use Rattle.proof_log.proofs.Reached.{of_assumed, of_stepped}

-- no part is greater
abbrev pub IsAtMost : ReachView → ReachView → Type 0
IsAtMost r s = (r.terms ≤ s.terms) × (r.assumes ≤ s.assumes)

-- of a step: its premises reach no further
step_over : (rs : List ReachView) (ps : List StepId) (c : List TermId) (k : ℕ) (d : StepId) → k < length ps → IsAtMost (reach_in rs (get_or ps k d)) (over_from rs (of_terms c) ps)
step_over rs ps c k d lt = (
  subst (λ n. (reach_in rs (get_or ps k d)).terms ≤ n) (sym (over_terms rs (of_terms c) ps)) (most_has StepId (terms_in rs) (past_from 0 c) ps k d lt),
  subst (λ n. (reach_in rs (get_or ps k d)).assumes ≤ n) (sym (over_assumes rs (of_terms c) ps)) (most_has StepId (assumes_in rs) 0 ps k d lt),
)

-- and its own terms are below
step_own : (rs : List ReachView) (ps : List StepId) (c : List TermId) (k : ℕ) (d : TermId) → k < length c → (get_or c k d).0 < (over_from rs (of_terms c) ps).terms
step_own rs ps c k d lt =
    let here : suc (get_or c k d).0 ≤ past_from 0 c = subst (λ n. suc (get_or c k d).0 ≤ n) (sym (past_is 0 c)) (most_has TermId past_one 0 c k d lt) in
    let over : past_from 0 c ≤ (over_from rs (of_terms c) ps).terms = subst (λ n. past_from 0 c ≤ n) (sym (over_terms rs (of_terms c) ps)) (most_ge StepId (terms_in rs) (past_from 0 c) ps) in
    omega (arith, here, over)

module _ (log : List Logged) (earlier : AreEarlier log) where
  -- a premise is before, and reaches no further
  pub premise_over : (s p : StepId) → s.0 < length log → Contains (premises_in (logged_at log s)) p → (p.0 < s.0) × IsAtMost (reach_at log p) (reach_at log s)
  premise_over s p lt has = go (logged_at log s) refl
    where
      go : (l : Logged) → logged_at log s ≡ l → (p.0 < s.0) × IsAtMost (reach_at log p) (reach_at log s)
      go (assumed id) is = absurd (omega (arith, (subst (λ l. Contains (premises_in l) p) is has).1))
      go (stepped r ps qs c) is =
          let there : Contains ps p = subst (λ l. Contains (premises_in l) p) is has in
          let before : All (λ (q : StepId). q.0 < s.0) ps = subst (λ l. All (λ (q : StepId). q.0 < s.0) (premises_in l)) is (earlier s.0 lt) in
          let over = step_over (reaches log) ps c there.0 p there.1 in (
            subst (λ (q : StepId). q.0 < s.0) there.2 (before there.0 p there.1),
            subst (λ x. IsAtMost (reach_at log p) x) (sym (of_stepped log s.0 lt earlier r ps qs c is)) (subst (λ q. IsAtMost (reach_in (reaches log) q) (over_from (reaches log) (of_terms c) ps)) there.2 over),
          )

  -- what a clause rests on is no later, and reaches no further
  pub rests_over : (s m : StepId) → s.0 < length log → RestsOn log s m → (m.0 ≤ s.0) × IsAtMost (reach_at log m) (reach_at log s)
  rests_over _ _ lt (itself k) = (omega arith, (omega arith, omega arith))
  rests_over s m lt (by_premise _ p _ has rests) =
      let here = premise_over s p lt has in
      let rest = rests_over p m (omega (arith, lt, here.0)) rests in
      (omega (arith, here.0, rest.0), (le_trans rest.1.0 here.1.0, le_trans rest.1.1 here.1.1))

  -- a term of a clause is below its reach
  own_terms : (m : StepId) (id : TermId) → m.0 < length log → Contains (named (logged_at log m)) id → id.0 < (reach_at log m).terms
  own_terms m id lt has = go (logged_at log m) refl
    where
      go : (l : Logged) → logged_at log m ≡ l → id.0 < (reach_at log m).terms
      go (assumed u) is =
          let there : Contains (u ∷ []) id = subst (λ l. Contains (named l) id) is has in
          let first : there.0 ≡ 0 = omega (arith, there.1) in
          let same : u.0 ≡ id.0 = ap (λ k. (get_or (u ∷ []) k id).0) (sym first) ∙ ap (λ (x : TermId). x.0) there.2 in
          subst (λ r. id.0 < r.terms) (sym (of_assumed log m.0 lt earlier u is)) (omega (arith, same))
      go (stepped r ps qs c) is =
          let there : Contains c id = subst (λ l. Contains (named l) id) is has in
          subst (λ x. id.0 < x.terms) (sym (of_stepped log m.0 lt earlier r ps qs c is)) (subst (λ (x : TermId). x.0 < (over_from (reaches log) (of_terms c) ps).terms) there.2 (step_own (reaches log) ps c there.0 id there.1))

  -- terms of a derivation are below the reach
  pub terms_within : (s m : StepId) (id : TermId) → s.0 < length log → RestsOn log s m → Contains (named (logged_at log m)) id → id.0 < (reach_at log s).terms
  terms_within s m id lt rests has =
      let over = rests_over s m lt rests in
      let own = own_terms m id (omega (arith, lt, over.0)) has in
      omega (arith, own, over.1.0)

  -- and its assumed clauses
  pub assumes_within : (s m : StepId) (id : TermId) → s.0 < length log → RestsOn log s m → logged_at log m ≡ assumed id → m.0 < (reach_at log s).assumes
  assumes_within s m id lt rests is =
      let over = rests_over s m lt rests in
      let f : (reach_at log m).assumes ≡ suc m.0 = ap (λ r. r.assumes) (of_assumed log m.0 (omega (arith, lt, over.0)) earlier id is) in
      omega (arith, f, over.1.1)

-- What the terms of a reach are for: a term of the derivation is the greatest, or there is none.
pub record HasTerm (log : List Logged) (s : StepId) : Type 0 where
  pub number : StepId
  pub term : TermId
  pub rests : RestsOn log s number
  pub there : Contains (named (logged_at log number)) term
  pub is : suc term.0 ≡ (reach_at log s).terms

-- The same of an assumed clause.
pub record HasAssume (log : List Logged) (s : StepId) : Type 0 where
  pub number : StepId
  pub term : TermId
  pub rests : RestsOn log s number
  pub there : logged_at log number ≡ assumed term
  pub is : suc number.0 ≡ (reach_at log s).assumes

module _ (log : List Logged) (earlier : AreEarlier log) where
  abbrev MeetsTerm : StepId → Type 0
  MeetsTerm s = ((reach_at log s).terms ≡ 0) ⊎ HasTerm log s

  abbrev MeetsAssume : StepId → Type 0
  MeetsAssume s = ((reach_at log s).assumes ≡ 0) ⊎ HasAssume log s

  pub terms_reached : (bound : ℕ) (s : StepId) → s.0 < bound → s.0 < length log → MeetsTerm s
  terms_reached zero s lt there = absurd (omega (arith, lt))
  terms_reached (suc bound) s lt there = go (logged_at log s) refl (λ p below. terms_reached bound p (omega (arith, lt, below)) (omega (arith, there, below)))
    where
      go : (l : Logged) → logged_at log s ≡ l → ((p : StepId) → p.0 < s.0 → MeetsTerm p) → MeetsTerm s
      go (assumed id) is before =
          let e : (reach_at log s).terms ≡ suc id.0 = ap (λ r. r.terms) (of_assumed log s.0 there earlier id is) in
          inr (record { number = s; term = id; rests = itself s; there = subst (λ l. Contains (named l) id) (sym is) (0, omega arith, refl); is = sym e })
      go (stepped r ps qs c) is before =
          let rs = reaches log in
          let d : TermId = record { 0 = 0 } in
          let e : (reach_at log s).terms ≡ most_from StepId (terms_in rs) (past_from 0 c) ps = ap (λ x. x.terms) (of_stepped log s.0 there earlier r ps qs c is) ∙ over_terms rs (of_terms c) ps in
          elim (most_met StepId (terms_in rs) (past_from 0 c) ps (step_of 0)) as (λ _. MeetsTerm s) [
            | inl own_is ↦ elim (most_met TermId past_one 0 c d) as (λ _. MeetsTerm s) [
              | inl none ↦ inl (e ∙ own_is ∙ past_is 0 c ∙ none)
              | inr m ↦ inr (record {
                number = s;
                term = get_or c m.place d;
                rests = itself s;
                there = subst (λ l. Contains (named l) (get_or c m.place d)) (sym is) (Contains-get_or c m.place d m.there);
                is = m.is ∙ sym (past_is 0 c) ∙ sym own_is ∙ sym e;
              })
            ]
            | inr m ↦
                let p = get_or ps m.place (step_of 0) in
                let has : Contains (premises_in (logged_at log s)) p = subst (λ l. Contains (premises_in l) p) (sym is) (Contains-get_or ps m.place (step_of 0) m.there) in
                let over : (reach_at log p).terms ≡ (reach_at log s).terms = m.is ∙ sym e in
                elim (before p (premise_over log earlier s p there has).0) as (λ _. MeetsTerm s) [
                  | inl none ↦ inl (sym over ∙ none)
                  | inr h ↦ inr (record { number = h.number; term = h.term; rests = by_premise s p h.number has h.rests; there = h.there; is = h.is ∙ over })
                ]
          ]

  pub assumes_reached : (bound : ℕ) (s : StepId) → s.0 < bound → s.0 < length log → MeetsAssume s
  assumes_reached zero s lt there = absurd (omega (arith, lt))
  assumes_reached (suc bound) s lt there = go (logged_at log s) refl (λ p below. assumes_reached bound p (omega (arith, lt, below)) (omega (arith, there, below)))
    where
      go : (l : Logged) → logged_at log s ≡ l → ((p : StepId) → p.0 < s.0 → MeetsAssume p) → MeetsAssume s
      go (assumed id) is before =
          let e : (reach_at log s).assumes ≡ suc s.0 = ap (λ r. r.assumes) (of_assumed log s.0 there earlier id is) in
          inr (record { number = s; term = id; rests = itself s; there = is; is = sym e })
      go (stepped r ps qs c) is before =
          let rs = reaches log in
          let e : (reach_at log s).assumes ≡ most_from StepId (assumes_in rs) 0 ps = ap (λ x. x.assumes) (of_stepped log s.0 there earlier r ps qs c is) ∙ over_assumes rs (of_terms c) ps in
          elim (most_met StepId (assumes_in rs) 0 ps (step_of 0)) as (λ _. MeetsAssume s) [
            | inl none ↦ inl (e ∙ none)
            | inr m ↦
                let p = get_or ps m.place (step_of 0) in
                let has : Contains (premises_in (logged_at log s)) p = subst (λ l. Contains (premises_in l) p) (sym is) (Contains-get_or ps m.place (step_of 0) m.there) in
                let over : (reach_at log p).assumes ≡ (reach_at log s).assumes = m.is ∙ sym e in
                elim (before p (premise_over log earlier s p there has).0) as (λ _. MeetsAssume s) [
                  | inl none ↦ inl (sym over ∙ none)
                  | inr h ↦ inr (record { number = h.number; term = h.term; rests = by_premise s p h.number has h.rests; there = h.there; is = h.is ∙ over })
                ]
          ]
