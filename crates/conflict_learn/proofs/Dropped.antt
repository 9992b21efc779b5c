-- How literals of level 0 are dropped, and what is found then.
use Rattle.std.proofs.Common.{◌≡◌, ◌≢◌, ℕ, ◌+◌, ◌<◌, ◌≤◌, Bool, List, [], ◌∷◌, ◌++◌, length, get_or, Contains, Some, None, ◌⊎◌, inl, inr, refl, sym, ap, ◌∙◌, subst, arith}
use Rattle.std.specs.Prelude.{◌↔◌}
use Rattle.std.proofs.lemmas.Bool.{cases_eq, cases_lt}
use Rattle.std.proofs.lemmas.List.Elements.{Contains-push, Contains-push_cases, Contains-append_left, Contains-get_or}
use Rattle.std.proofs.lemmas.List.Quantifiers.{all_pairs_push}
use Rattle.term_core.specs.declared.ids.Lit.{Lit}
use Rattle.term_core.specs.Tables.{AreDifferent}
use Rattle.clause_literals.specs.Literals.{lit_complement}
use Rattle.clause_literals.proofs.LiteralLists.{negation_twice}
use Rattle.proof_log.specs.declared.premises.StepId.{StepId}
use Rattle.sat_trail.specs.Trails.{VariablesAreApart, IsLeveled}
use Rattle.proof_log.specs.Clashes.{literals_in, IsClash}
use Rattle.conflict_learn.specs.Conflicts.{Conflict, step_of, AreTrailReasons, IsConflictLevel}
use Rattle.conflict_learn.specs.Points.{held_at, level_at, Falsifies, IsMet, IsPoint, IsDropped, of_point, of_dropped, IsUsed, IsLeft}
use Rattle.conflict_learn.specs.Analyses.{IsMarkedAt, MarksVariables, IsLower, Sorting, HasMet, HasCome, AreDropped, IsNewest, IsBack}
use Rattle.conflict_learn.proofs.Places.{later_or_here, same_place, one_level}
use Rattle.conflict_learn.proofs.Uip.{met_within, reason_before, dropped_within, dropped_level, met_level, one_left}
use Rattle.conflict_learn.proofs.Following.{same_reason, newly, falsifier_marked}

module _ (c : Conflict) (once : VariablesAreApart c.trail.literals) (differ : AreDifferent c.table.terms) (leveled : IsLeveled c.trail)
    (clash : IsClash c.table c.log c.trail.literals c.clash) (reasons : AreTrailReasons c.table c.log c.trail) where
  abbrev held : List Lit
  held = c.trail.literals

  -- at first none is dropped
  pub drops_none : (from : ℕ) (marks : List Bool) (premises : List StepId) → HasMet c from marks premises → ((p : ℕ) → from ≤ p → p < length held → level_at c p ≡ 0 → ⊥) → AreDropped c from (length held) marks premises
  drops_none from marks premises r above = record {
    used = r.used;
    no_others = λ s i. elim (r.no_others s i) [ inl e ↦ inl e | inr h ↦ inr (inl h) ];
    begun = λ p lt m e. r.met p m;
    marked = λ p pl m e. elim (cases_lt p from) [ inl lt ↦ of_point p lt (r.marked p pl m) e | inr le ↦ absurd (above p le pl e) ];
    has_reason = λ p s le pl m e o. absurd (omega (arith, le, pl));
    reason_marked = λ p s q le pl m e o f. absurd (omega (arith, le, pl));
  }

  module _ (from : ℕ) (marks : List Bool) (premises : List StepId) where
    -- nor is one at places above level 0
    pub drops_past : (k less : ℕ) → AreDropped c from k marks premises → ((p : ℕ) → less ≤ p → p < k → p < length held → IsMarkedAt c.trail marks p → level_at c p ≡ 0 → ⊥) → AreDropped c from less marks premises
    drops_past k less d free = record {
      used = d.used;
      no_others = d.no_others;
      begun = d.begun;
      marked = d.marked;
      has_reason = λ p s le pl m e o. elim (cases_lt p k) [ inl lt ↦ absurd (free p le lt pl m e) | inr ge ↦ d.has_reason p s ge pl m e o ];
      reason_marked = λ p s q le pl m e o f. elim (cases_lt p k) [ inl lt ↦ absurd (free p le lt pl m e) | inr ge ↦ d.reason_marked p s q ge pl m e o f ];
    }

    -- a marked literal is dropped for its reason
    module _ (at : ℕ) (lt : at < length held) (fixed : level_at c at ≡ 0) (n : ℕ) (is_marked : IsMarkedAt c.trail marks at) (reason : get_or c.trail.reasons at None ≡ Some n) (more : List Bool)
        (h : MarksVariables c.table (literals_in c.table c.log (step_of n)) marks more) (d : AreDropped c from (at + 1) marks premises) where
      is_new : (p : ℕ) → p < length held → IsMarkedAt c.trail more p → IsMarkedAt c.trail marks p ⊎ Falsifies c p (step_of n)
      is_new = newly c once differ leveled clash reasons at lt n reason marks more h is_marked

      before : (p : ℕ) → at + 1 ≤ p → p < length held → IsMarkedAt c.trail more p → IsMarkedAt c.trail marks p
      before p later pl m = elim (is_new p pl m) [
        | inl was ↦ was
        | inr f ↦ absurd (omega (arith, later, reason_before c once leveled clash reasons at n p lt reason f))
      ]

      same_step : (p s : ℕ) → p ≡ at → get_or c.trail.reasons p None ≡ Some s → n ≡ s
      same_step p s is e = same_reason (get_or c.trail.reasons at None) n s reason (ap (λ (k : ℕ). get_or c.trail.reasons k None) (sym is) ∙ e)

      pub drops_one : AreDropped c from at more (premises ++ step_of n ∷ [])
      drops_one = record {
        used = λ s u. Contains-append_left premises (step_of n ∷ []) s (d.used s u);
        no_others = λ s i. elim (Contains-push_cases premises (step_of n) s i) [
          | inl was ↦ d.no_others s was
          | inr e ↦ inr (inr (record { place = at; dropped = d.marked at lt is_marked fixed; reason = reason ∙ ap (λ (x : StepId). Some x.0) e }))
        ];
        begun = λ p pl m e. h.kept (held_at c p).term.0 (d.begun p pl m e);
        marked = λ p pl m e. elim (is_new p pl m) [
          | inl was ↦ d.marked p pl was e
          | inr f ↦ of_dropped at n p (d.marked at lt is_marked fixed) reason f
        ];
        has_reason = λ p s le pl m e o. elim (later_or_here at p le) [
          | inl later ↦ Contains-append_left premises (step_of n ∷ []) (step_of s) (d.has_reason p s later pl (before p later pl m) e o)
          | inr is ↦ subst (λ (k : ℕ). Contains (premises ++ step_of n ∷ []) (step_of k)) (same_step p s is o) (Contains-push premises (step_of n))
        ];
        reason_marked = λ p s q le pl m e o f. elim (later_or_here at p le) [
          | inl later ↦ h.kept (held_at c q).term.0 (d.reason_marked p s q later pl (before p later pl m) e o f)
          | inr is ↦ falsifier_marked c once differ (step_of n) marks more h q (subst (λ (k : ℕ). Falsifies c q (step_of k)) (sym (same_step p s is o)) f)
        ];
      }

    -- at the end all are, and the premises are exactly what is used
    module _ (d : AreDropped c from 0 marks premises) where
      dropped_marked : (p : ℕ) → IsDropped c from p → IsMarkedAt c.trail marks p
      dropped_marked _ (of_point p lt m e) = d.begun p lt m e
      dropped_marked _ (of_dropped q r p q_dropped e f) =
          d.reason_marked q r p (omega arith) (dropped_within c from q q_dropped) (dropped_marked q q_dropped) (dropped_level c once leveled clash reasons from q q_dropped) e f

      pub has_used : (s : StepId) → IsUsed c from s → Contains premises s
      has_used s (inl e) = d.used s (inl e)
      has_used s (inr (inl h)) = d.used s (inr h)
      has_used s (inr (inr h)) = d.has_reason h.place s.0 (omega arith) (dropped_within c from h.place h.dropped) (dropped_marked h.place h.dropped) (dropped_level c once leveled clash reasons from h.place h.dropped) h.reason

      pub all_used : (s : StepId) → Contains premises s ↔ IsUsed c from s
      all_used s = (d.no_others s, has_used s)

  -- at a point
  module _ (n : ℕ) (top : IsConflictLevel c n) (above : 0 < n) (from : ℕ) (a : Sorting) (premises : List StepId) (r : HasCome c n from a premises) (point : IsPoint c n from) where
    -- each place from there on is of a level no lower than the conflict's
    pub high : (p : ℕ) → from ≤ p → p < length held → n ≤ level_at c p
    high p le pl =
        let two = point.above (p + 1) (omega (arith, le)) (omega (arith, pl)) in
        omega (arith, two.one_level, leveled.rising two.one p (omega (arith, two.apart, two.before)) pl)

    pub none_fixed : (p : ℕ) → from ≤ p → p < length held → level_at c p ≡ 0 → ⊥
    none_fixed p le pl e = omega (arith, high p le pl, e, above)

    -- a marked literal of the level is before it
    pub has_one : (q : ℕ) × (q < from) × IsMarkedAt c.trail a.marks q × (level_at c q ≡ n)
    has_one = let o = one_left c once leveled clash reasons n top above from point in (o.0, o.1, r.reached.met o.0 o.2, o.3)

    -- the newest one is that one
    module _ (one : Lit) (newest : IsNewest c.trail a.marks from one) where
      place_level : level_at c newest.place ≡ n
      place_level = elim (cases_lt newest.place has_one.0) [
        | inl lt ↦ absurd (newest.newest has_one.0 lt has_one.1 has_one.2)
        | inr le ↦ elim (cases_lt has_one.0 newest.place) [
          | inl gt ↦
              omega (arith, leveled.rising has_one.0 newest.place gt place_within, has_one.3, met_level c once leveled clash reasons n top from newest.place (r.reached.marked newest.place place_within newest.is_marked))
          | inr ge ↦ let is : newest.place ≡ has_one.0 = omega (arith, le, ge) in ap (level_at c) is ∙ has_one.3
        ]
      ]
        where
          place_within : newest.place < length held
          place_within = omega (arith, newest.before, r.sorted.within)

      within : newest.place < length held
      within = omega (arith, newest.before, r.sorted.within)

      there : held_at c newest.place ≡ lit_complement (lit_complement one)
      there = newest.there ∙ sym (negation_twice one)

      -- there is one place of the level
      one_place : (p : ℕ) → p < from → IsMet c from p → level_at c p ≡ n → p ≡ newest.place
      one_place p lt m e = elim (cases_lt newest.place p) [
        | inl late ↦ absurd (newest.newest p late lt (r.reached.met p m))
        | inr le ↦ elim (cases_lt p newest.place) [
          | inl early ↦ absurd (point.here (record { one = p; other = newest.place; apart = early; before = newest.before; one_met = m; other_met = r.reached.marked newest.place within newest.is_marked; one_level = e; other_level = place_level }))
          | inr ge ↦ omega (arith, le, ge)
        ]
      ]

      abbrev clause : List Lit
      clause = a.lower ++ lit_complement one ∷ []

      lower_before : (p : ℕ) → IsLower c.trail n a.marks p → p < from
      lower_before p l = elim (cases_lt p from) [
        | inl lt ↦ lt
        | inr le ↦
            let ge = high p le l.within in
            let top_level = met_level c once leveled clash reasons n top from p (r.reached.marked p l.within l.is_marked) in
            absurd (l.of_other (omega (arith, ge, top_level)))
      ]

      not_lower : (p : ℕ) → IsLower c.trail n a.marks p → p ≢ newest.place
      not_lower p l e = l.of_other (ap (level_at c) e ∙ place_level)

      pub is_left : IsLeft c from (a.lower ++ lit_complement one ∷ [])
      is_left = record {
        once = all_pairs_push (λ (l x : Lit). l.term ≡ x.term → ⊥) a.lower (lit_complement one) r.sorted.once (λ i e lt same. apart (get_or a.lower i e) (Contains-get_or a.lower i e lt) (ap (λ t. t.0) same));
        all = λ p lt m up. elim (cases_eq (level_at c p) n) [
          | inl e ↦ subst (Contains clause) (ap lit_complement (sym newest.there) ∙ ap (λ (k : ℕ). lit_complement (held_at c k)) (sym (one_place p lt m e))) (Contains-push a.lower (lit_complement one))
          | inr ne ↦ Contains-append_left a.lower (lit_complement one ∷ []) (lit_complement (held_at c p)) (r.sorted.all p (record { within = met_within c from p m; is_marked = r.reached.met p m; of_other = ne }) up)
        ];
        only = λ m i. elim (Contains-push_cases a.lower (lit_complement one) m i) [
          | inl was ↦ let h = r.sorted.only m was in (h.0, lower_before h.0 h.1, r.reached.marked h.0 h.1.within h.1.is_marked, h.2, h.3)
          | inr e ↦ (newest.place, newest.before, r.reached.marked newest.place within newest.is_marked, omega (arith, place_level, above), there ∙ ap lit_complement e)
        ];
      }
        where
          apart : (x : Lit) → Contains a.lower x → x.term.0 ≡ one.term.0 → ⊥
          apart x i e =
              let h = r.sorted.only x i in
              not_lower h.0 h.1 (same_place c.trail once h.0 newest.place h.1.within within (ap (λ (l : Lit). l.term.0) h.3 ∙ e ∙ ap (λ (l : Lit). l.term.0) (sym newest.there)))

      pub is_back : IsBack c.trail n (a.lower ++ lit_complement one ∷ []) a.back
      is_back = record {
        bounded = λ m k i f ne. elim (Contains-push_cases a.lower (lit_complement one) m i) [
          | inl was ↦
              let h = r.sorted.only m was in
              let same = one_level c.trail once m (level_at c h.0) k (record { place = h.0; within = h.1.within; there = h.3; level = refl }) f in
              omega (arith, r.sorted.bounded h.0 h.1, same)
          | inr e ↦ absurd (ne (one_level c.trail once m k n f (record { place = newest.place; within = within; there = there ∙ ap lit_complement e; level = place_level })))
        ];
        reached = elim r.sorted.reached [
          | inl z ↦ inl z
          | inr h ↦ elim (cases_lt 0 (level_at c h.0)) [
            | inl up ↦
                let m = lit_complement (held_at c h.0) in
                inr (
                  m,
                  Contains-append_left a.lower (lit_complement one ∷ []) m (r.sorted.all h.0 h.1 up),
                  record { place = h.0; within = h.1.within; there = sym (negation_twice (held_at c h.0)); level = h.2 },
                  λ e. h.1.of_other (h.2 ∙ e),
                )
            | inr low ↦ inl (omega (arith, low, h.2))
          ]
        ];
      }
