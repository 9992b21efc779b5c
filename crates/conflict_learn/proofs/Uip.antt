-- What comes of the clause of a first unique implication point.
use Rattle.std.proofs.Common.{◌≡◌, ◌≢◌, ℕ, zero, suc, ◌+◌, ◌<◌, ◌≤◌, List, length, map, get_or, Contains, Option, Some, None, ◌⊎◌, inl, inr, refl, sym, ap, ◌∙◌, subst, arith}
use Rattle.std.proofs.lemmas.Bool.{cases_lt}
use Rattle.spec_text.proofs.Members.{to_image}
use Rattle.spec_sorts.specs.Subsets.{IsClosed}
use Rattle.spec_sorts.specs.Literals.{Literal, complement}
use Rattle.spec_proofs.specs.Resolution.{Derives, given, unit, false_clause, Resolves}
use Rattle.term_core.specs.declared.ids.Lit.{Lit}
use Rattle.term_core.specs.Tables.{literal_at}
use Rattle.clause_literals.specs.Literals.{lit_complement}
use Rattle.clause_literals.proofs.LiteralLists.{negation_twice, not_own_negation}
use Rattle.proof_log.specs.declared.premises.StepId.{StepId}
use Rattle.proof_log.specs.Logs.{named, no_logged, logged_at, IsLogOf}
use Rattle.sat_trail.specs.Trails.{VariablesAreApart, IsLeveled}
use Rattle.proof_log.specs.Clashes.{literals_in, HasLit, IsClash}
use Rattle.conflict_learn.specs.Conflicts.{Conflict, step_of, AreTrailReasons, IsNeeded, by_clash, by_reason, IsConflictLevel, IsPremise, IsFalseAt}
use Rattle.conflict_learn.specs.Points.{held_at, level_at, Falsifies, IsMet, of_clash, of_reason, IsPoint, IsDropped, of_point, of_dropped, IsUsed, IsLeft}
use Rattle.conflict_learn.specs.Learned.{HasOneAt}
use Rattle.conflict_learn.specs.Analyses.{IsBare, IsBack}
use Rattle.conflict_learn.proofs.Places.{place_of, early_place, same_place}
use Rattle.conflict_learn.proofs.Meanings.{bare_in, logged_lit}

-- what was met is of the trail
pub met_within : (c : Conflict) (from p : ℕ) → IsMet c from p → p < length c.trail.literals
met_within c from _ (of_clash p f) = f.0
met_within c from _ (of_reason q r p le m e f) = f.0

pub dropped_within : (c : Conflict) (from p : ℕ) → IsDropped c from p → p < length c.trail.literals
dropped_within c from _ (of_point p lt m e) = met_within c from p m
dropped_within c from _ (of_dropped q r p d e f) = f.0

-- the more is replaced, the more is met
pub met_more : (c : Conflict) (from less p : ℕ) → less ≤ from → IsMet c from p → IsMet c less p
met_more c from less _ le (of_clash p f) = of_clash p f
met_more c from less _ le (of_reason q r p le_q m e f) = of_reason q r p (omega (arith, le, le_q)) (met_more c from less q le m) e f

-- a place that makes a literal false
pub falsified : (c : Conflict) (s : StepId) (m : Lit) (p : ℕ) → HasLit c.table c.log s m → p < length c.trail.literals → held_at c p ≡ lit_complement m → Falsifies c p s
falsified c s m p has lt e = (lt, subst (HasLit c.table c.log s) (sym (ap lit_complement e ∙ negation_twice m)) has)

-- there is a reason or none
pub option_cases : (o : Option ℕ) → (o ≡ None) ⊎ ((r : ℕ) × (o ≡ Some r))
option_cases None = inl refl
option_cases (Some r) = inr (r, refl)

module _ (c : Conflict) (once : VariablesAreApart c.trail.literals) (leveled : IsLeveled c.trail) (clash : IsClash c.table c.log c.trail.literals c.clash) (reasons : AreTrailReasons c.table c.log c.trail) where
  abbrev held : List Lit
  held = c.trail.literals

  -- what a reason has false is no own literal of it
  other_of : (q r p : ℕ) → q < length held → get_or c.trail.reasons q None ≡ Some r → Falsifies c p (step_of r) → lit_complement (held_at c p) ≢ held_at c q
  other_of q r p ql e f is =
      let same : p ≡ q = same_place c.trail once p q f.0 ql (ap (λ (l : Lit). l.term.0) is) in
      not_own_negation (held_at c q) (sym is ∙ ap (λ (k : ℕ). lit_complement (held_at c k)) same)

  -- and is before it
  pub reason_before : (q r p : ℕ) → q < length held → get_or c.trail.reasons q None ≡ Some r → Falsifies c p (step_of r) → p < q
  reason_before q r p ql e f =
      let k = early_place held q (lit_complement (lit_complement (held_at c p))) (omega (arith, ql)) ((reasons q r ql e).others_false (lit_complement (held_at c p)) f.1 (other_of q r p ql e f)) in
      let same : k.0 ≡ p = same_place c.trail once k.0 p k.2 f.0 (ap (λ (l : Lit). l.term.0) k.3) in
      subst (λ (j : ℕ). j < q) same k.1

  -- the conflict depends on what was met
  pub met_needed : (from p : ℕ) → IsMet c from p → IsNeeded c (held_at c p)
  met_needed from _ (of_clash p f) = subst (IsNeeded c) (negation_twice (held_at c p)) (by_clash (lit_complement (held_at c p)) f.1)
  met_needed from _ (of_reason q r p le m e f) =
      let ql = met_within c from q m in
      subst (IsNeeded c) (negation_twice (held_at c p)) (by_reason q r (lit_complement (held_at c p)) ql e (met_needed from q m) f.1 (other_of q r p ql e f))

  -- and on what was dropped
  pub dropped_needed : (from p : ℕ) → IsDropped c from p → IsNeeded c (held_at c p)
  dropped_needed from _ (of_point p lt m e) = met_needed from p m
  dropped_needed from _ (of_dropped q r p d e f) =
      let ql = dropped_within c from q d in
      subst (IsNeeded c) (negation_twice (held_at c p)) (by_reason q r (lit_complement (held_at c p)) ql e (dropped_needed from q d) f.1 (other_of q r p ql e f))

  -- what is dropped is of level 0
  pub dropped_level : (from p : ℕ) → IsDropped c from p → level_at c p ≡ 0
  dropped_level from _ (of_point p lt m e) = e
  dropped_level from _ (of_dropped q r p d e f) =
      let ql = dropped_within c from q d in
      omega (arith, leveled.rising p q (reason_before q r p ql e f) ql, dropped_level from q d)

  -- what is used is one of the conflict's premises
  pub used_premise : (from : ℕ) (s : StepId) → IsUsed c from s → IsPremise c s
  used_premise from s (inl e) = inl e
  used_premise from s (inr (inl h)) = inr (record { place = h.place; within = met_within c from h.place h.met; reason = h.reason; needed = met_needed from h.place h.met })
  used_premise from s (inr (inr h)) = inr (record { place = h.place; within = dropped_within c from h.place h.dropped; reason = h.reason; needed = dropped_needed from h.place h.dropped })

  -- and of the log
  pub used_in_log : (from : ℕ) (s : StepId) → IsUsed c from s → s.0 < length c.log
  used_in_log from s (inl e) = subst (λ (x : StepId). x.0 < length c.log) (sym e) clash.in_log
  used_in_log from s (inr (inl h)) = (reasons h.place s.0 (met_within c from h.place h.met) h.reason).in_log
  used_in_log from s (inr (inr h)) = (reasons h.place s.0 (dropped_within c from h.place h.dropped) h.reason).in_log

  -- the literals on which it depends are of no greater level than the conflict's
  needed_level : (n : ℕ) → IsConflictLevel c n → (l : Lit) → IsNeeded c l → (p : ℕ) × (p < length held) × (held_at c p ≡ l) × (level_at c p ≤ n)
  needed_level n top _ (by_clash m has) =
      let k = place_of held (lit_complement m) (clash.fails m has) in
      (k.0, k.1, k.2, top.greatest m (level_at c k.0) has (record { place = k.0; within = k.1; there = k.2; level = refl }))
  needed_level n top _ (by_reason p r m lt reason needed has ne) =
      let k = early_place held p (lit_complement m) (omega (arith, lt)) ((reasons p r lt reason).others_false m has ne) in
      let h = needed_level n top (held_at c p) needed in
      let same : h.0 ≡ p = same_place c.trail once h.0 p h.1 lt (ap (λ (x : Lit). x.term.0) h.2) in
      let le : level_at c p ≤ n = subst (λ (q : ℕ). level_at c q ≤ n) same h.3 in
      let rises : level_at c k.0 ≤ level_at c p = leveled.rising k.0 p k.1 lt in
      (k.0, k.2, k.3, omega (arith, le, rises))

  -- and so is what was met
  pub met_level : (n : ℕ) → IsConflictLevel c n → (from p : ℕ) → IsMet c from p → level_at c p ≤ n
  met_level n top from p m =
      let h = needed_level n top (held_at c p) (met_needed from p m) in
      let same : h.0 ≡ p = same_place c.trail once h.0 p h.1 (met_within c from p m) (ap (λ (x : Lit). x.term.0) h.2) in
      subst (λ (q : ℕ). level_at c q ≤ n) same h.3

  -- they are of formulas of the table that are no negations
  needed_bare : IsLogOf c.table c.log → (l : Lit) → IsNeeded c l → IsBare c.table l
  needed_bare right _ (by_clash m has) = let h = bare_in c.table (named (logged_at c.log c.clash)) (right.formulas c.clash.0 no_logged clash.in_log) m has.in_table has.there in record { there = h.there; formula = h.formula; bare = h.bare }
  needed_bare right _ (by_reason p r m lt reason needed has ne) =
      let h = bare_in c.table (named (logged_at c.log (step_of r))) (right.formulas r no_logged (reasons p r lt reason).in_log) m has.in_table has.there in
      record { there = h.there; formula = h.formula; bare = h.bare }

  pub met_bare : IsLogOf c.table c.log → (from p : ℕ) → IsMet c from p → IsBare c.table (held_at c p)
  met_bare right from p m = needed_bare right (held_at c p) (met_needed from p m)

  -- what was replaced was no decision
  pub replaced_has_reason : (n : ℕ) → IsConflictLevel c n → (from : ℕ) → IsPoint c n from → (p : ℕ) → from ≤ p → IsMet c from p → get_or c.trail.reasons p None ≡ None → ⊥
  replaced_has_reason n top from point p le m none =
      let lt = met_within c from p m in
      let two = point.above (p + 1) (omega (arith, le)) (omega (arith, lt)) in
      omega (arith, leveled.decided_above two.one p (omega (arith, two.apart, two.before)) lt none, two.one_level, met_level n top from p m)

  -- a clause follows that has what is left
  module _ (right : IsLogOf c.table c.log) (closed : IsClosed c.table.terms) (from : ℕ) (premises : List StepId) (used : (s : StepId) → IsUsed c from s → Contains premises s)
      (clause : List Lit) (left : (p : ℕ) → p < from → IsMet c from p → 0 < level_at c p → Contains clause (lit_complement (held_at c p)))
      (replaced : (p : ℕ) → from ≤ p → IsMet c from p → get_or c.trail.reasons p None ≡ None → ⊥)
      (ps : List (List Literal)) (has : (s : StepId) → Contains premises s → Contains ps (literals_in c.table c.log s)) where
    abbrev Follows : Lit → Type 0
    Follows l = Derives complement ps (map complement (map (literal_at c.table) clause)) (literal_at c.table l)

    -- the complement of a literal of a step follows, where the literal that makes it false does
    false_by : (s : StepId) (m : Lit) (x : Literal) (p : ℕ) → literal_at c.table m ≡ x → held_at c p ≡ lit_complement m → Follows (held_at c p) → Derives complement ps (map complement (map (literal_at c.table) clause)) (complement x)
    false_by s m x p means e d = subst (Derives complement ps (map complement (map (literal_at c.table) clause))) (ap (literal_at c.table) e ∙ ap complement means) d

    -- a literal follows by its reason
    by_step : (p r : ℕ) → p < length held → get_or c.trail.reasons p None ≡ Some r → Contains premises (step_of r) → ((k : ℕ) → k < p → Falsifies c k (step_of r) → Follows (held_at c k)) → Follows (held_at c p)
    by_step p r lt e i rec =
        let h = reasons p r lt e in
        unit (literals_in c.table c.log (step_of r)) (literal_at c.table (held_at c p)) (has (step_of r) i) h.has_it.there (λ x j ne.
        let q = logged_lit c.table closed c.log right (step_of r) h.in_log x j in
        let lit : HasLit c.table c.log (step_of r) q.0 = record { in_table = q.1; there = subst (Contains (literals_in c.table c.log (step_of r))) (sym q.2) j } in
        let k = early_place held p (lit_complement q.0) (omega (arith, lt)) (h.others_false q.0 lit (λ same. ne (sym q.2 ∙ ap (literal_at c.table) same))) in
        false_by (step_of r) q.0 x k.0 q.2 k.3 (rec k.0 k.1 (falsified c (step_of r) q.0 k.0 lit k.2 k.3)))

    -- what is left is assumed
    by_clause : (p : ℕ) → Contains clause (lit_complement (held_at c p)) → Follows (held_at c p)
    by_clause p i =
        let j = to_image complement (map (literal_at c.table) clause) (literal_at c.table (lit_complement (held_at c p))) (to_image (literal_at c.table) clause (lit_complement (held_at c p)) i) in
        given (literal_at c.table (held_at c p)) (subst (λ (x : Lit). Contains (map complement (map (literal_at c.table) clause)) (literal_at c.table x)) (negation_twice (held_at c p)) j)

    -- what was met or dropped follows, place by place
    follows_below : (bound p : ℕ) → p < bound → IsMet c from p ⊎ IsDropped c from p → Follows (held_at c p)
    follows_below zero p lt h = absurd (omega (arith, lt))
    follows_below (suc b) p lt h = go h (λ q small i. follows_below b q (omega (arith, lt, small)) i)
      where
        down : IsDropped c from p → ((q : ℕ) → q < p → IsMet c from q ⊎ IsDropped c from q → Follows (held_at c q)) → Follows (held_at c p)
        down d rec = elim (option_cases (get_or c.trail.reasons p None)) [
          | inl none ↦ absurd (omega (arith, leveled.decided p (dropped_within c from p d) none, dropped_level from p d))
          | inr o ↦ by_step p o.0 (dropped_within c from p d) o.1 (used (step_of o.0) (inr (inr (record { place = p; dropped = d; reason = o.1 })))) (λ k small f. rec k small (inr (of_dropped p o.0 k d o.1 f)))
        ]

        go : IsMet c from p ⊎ IsDropped c from p → ((q : ℕ) → q < p → IsMet c from q ⊎ IsDropped c from q → Follows (held_at c q)) → Follows (held_at c p)
        go (inr d) rec = down d rec
        go (inl m) rec = elim (cases_lt p from) [
          | inl early ↦ elim (cases_lt 0 (level_at c p)) [
            | inl above ↦ by_clause p (left p early m above)
            | inr zero_level ↦ down (of_point p early m (omega (arith, zero_level))) rec
          ]
          | inr late ↦ elim (option_cases (get_or c.trail.reasons p None)) [
            | inl none ↦ absurd (replaced p late m none)
            | inr o ↦ by_step p o.0 (met_within c from p m) o.1 (used (step_of o.0) (inr (inl (record { place = p; replaced = late; met = m; reason = o.1 })))) (λ k small f. rec k small (inl (of_reason p o.0 k late m o.1 f)))
          ]
        ]

    -- so the clause follows
    pub clause_follows : Resolves complement ps (map (literal_at c.table) clause)
    clause_follows = false_clause (literals_in c.table c.log c.clash) (has c.clash (used c.clash (inl refl))) (λ x i.
        let q = logged_lit c.table closed c.log right c.clash clash.in_log x i in
        let lit : HasLit c.table c.log c.clash q.0 = record { in_table = q.1; there = subst (Contains (literals_in c.table c.log c.clash)) (sym q.2) i } in
        let k = place_of held (lit_complement q.0) (clash.fails q.0 lit) in
        false_by c.clash q.0 x k.0 q.2 k.2 (follows_below (length held) k.0 k.1 (inl (of_clash k.0 (falsified c c.clash q.0 k.0 lit k.1 k.2)))))

  -- one of the level is left
  pub one_left : (n : ℕ) → IsConflictLevel c n → 0 < n → (from : ℕ) → IsPoint c n from → (p : ℕ) × (p < from) × IsMet c from p × (level_at c p ≡ n)
  one_left n top above from point = elim (cases_lt from (length held)) [
    | inl more ↦
        let two = point.above (from + 1) (omega arith) (omega (arith, more)) in
        (two.one, omega (arith, two.apart, two.before), met_more c (from + 1) from two.one (omega arith) two.one_met, two.one_level)
    | inr end ↦ elim top.reached [
      | inl z ↦ absurd (omega (arith, above, z))
      | inr h ↦
          let f = h.2 in
          (f.place, omega (arith, f.within, end), of_clash f.place (falsified c c.clash h.0 f.place h.1 f.within f.there), f.level)
    ]
  ]

  -- and the others are of lower levels
  pub one_at : (n : ℕ) → IsConflictLevel c n → 0 < n → (clause : List Lit) (from back : ℕ) → IsPoint c n from → IsLeft c from clause → IsBack c.trail n clause back → HasOneAt c.trail clause n back
  one_at n top above clause from back point left greatest =
      let o = one_left n top above from point in
      record {
        one = lit_complement (held_at c o.0);
        there = left.all o.0 o.1 o.2 (omega (arith, o.3, above));
        of_level = record { place = o.0; within = met_within c from o.0 o.2; there = sym (negation_twice (held_at c o.0)); level = o.3 };
        below = λ m i ne. other o.0 o.1 o.2 o.3 m ne (left.only m i) i;
        reached = elim greatest.reached [
          | inl z ↦ inl z
          | inr h ↦ inr (h.0, h.1, (λ e. h.3 (level_of_one o.0 o.2 o.3 h.0 e back h.2)), h.2)
        ];
      }
    where
      level_of_one : (q : ℕ) → IsMet c from q → level_at c q ≡ n → (m : Lit) → m ≡ lit_complement (held_at c q) → (k : ℕ) → IsFalseAt c.trail m k → k ≡ n
      level_of_one q q_met e m is k f =
          let same : f.place ≡ q = same_place c.trail once f.place q f.within (met_within c from q q_met) (ap (λ (l : Lit). l.term.0) (f.there ∙ ap lit_complement is)) in
          sym f.level ∙ ap (level_at c) same ∙ e

      two_are_one : (p q : ℕ) → p < from → q < from → IsMet c from p → IsMet c from q → level_at c p ≡ n → level_at c q ≡ n → p ≡ q
      two_are_one p q pl ql pm qm pe qe = elim (cases_lt p q) [
        | inl lt ↦ absurd (point.here (record { one = p; other = q; apart = lt; before = ql; one_met = pm; other_met = qm; one_level = pe; other_level = qe }))
        | inr le ↦ elim (cases_lt q p) [
          | inl gt ↦ absurd (point.here (record { one = q; other = p; apart = gt; before = pl; one_met = qm; other_met = pm; one_level = qe; other_level = pe }))
          | inr ge ↦ omega (arith, le, ge)
        ]
      ]

      other : (q : ℕ) → q < from → IsMet c from q → level_at c q ≡ n → (m : Lit) → m ≢ lit_complement (held_at c q) → (p : ℕ) × (p < from) × IsMet c from p × (0 < level_at c p) × (held_at c p ≡ lit_complement m) → Contains clause m
          → (k : ℕ) × IsFalseAt c.trail m k × (0 < k) × (k < n) × (k ≤ back)
      other q ql qm qe m ne (p, pl, pm, up, e) i =
          let f : IsFalseAt c.trail m (level_at c p) = record { place = p; within = met_within c from p pm; there = e; level = refl } in
          let differs : level_at c p ≢ n = λ pe. ne (sym (negation_twice m) ∙ ap lit_complement (sym e) ∙ ap (λ (k : ℕ). lit_complement (held_at c k)) (two_are_one p q pl ql pm qm pe qe)) in
          let le = met_level n top from p pm in
          (level_at c p, f, up, omega (arith, le, differs), greatest.bounded m (level_at c p) i f differs)
