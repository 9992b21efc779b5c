-- How an analysis comes down the trail, place by place.
use Rattle.std.proofs.Common.{◌≡◌, ℕ, ◌+◌, ◌<◌, ◌≤◌, Bool, false, List, [], ◌∷◌, ◌++◌, length, get_or, take, replicate, Contains, Option, Some, None, ◌⊎◌, inl, inr, sym, ap, ◌∙◌, subst, arith, true≢false}
use Rattle.std.proofs.lemmas.Bool.{cases_lt}
use Rattle.std.proofs.lemmas.List.{get_or-replicate, length-replicate, get_or_past, get_or_default}
use Rattle.std.proofs.lemmas.List.Elements.{Contains-push, Contains-push_cases, Contains-append_left}
use Rattle.spec_text.proofs.Members.{first, only}
use Rattle.term_core.specs.declared.ids.Lit.{Lit}
use Rattle.term_core.specs.Tables.{TableView, IsIn, AreDifferent, literal_at}
use Rattle.clause_literals.specs.Literals.{lit_complement}
use Rattle.clause_literals.proofs.LiteralLists.{decide}
use Rattle.clause_literals.proofs.TableLiterals.{literals_apart}
use Rattle.proof_log.specs.declared.premises.StepId.{StepId}
use Rattle.sat_trail.specs.Trails.{TrailView, no_lit, VariablesAreApart, IsLeveled}
use Rattle.proof_log.specs.Clashes.{literals_in, HasLit, IsClash}
use Rattle.conflict_learn.specs.Conflicts.{Conflict, step_of, IsTrailReason, AreTrailReasons, IsConflictLevel}
use Rattle.conflict_learn.specs.Points.{held_at, level_at, Falsifies, IsMet, of_clash, of_reason, HasTwo, IsResolved}
use Rattle.conflict_learn.specs.Analyses.{IsVariableMarked, IsMarkedAt, IsMarkedFor, MarksVariables, IsBefore, Sorting, Sorts, HasMet, HasCome}
use Rattle.conflict_learn.proofs.Places.{place_of, early_place, later_or_here, same_place}
use Rattle.conflict_learn.proofs.Sorting.{count_two, counted_two}
use Rattle.conflict_learn.proofs.Uip.{met_within, met_more, falsified, reason_before, met_level}

-- a reason is one step
pub same_reason : (o : Option ℕ) (r s : ℕ) → o ≡ Some r → o ≡ Some s → r ≡ s
same_reason o r s e f = go r s (sym e ∙ f)
  where
    go : (r s : ℕ) → Some r ≡ Some s → r ≡ s
    go r s e = cc

-- a reason is some step
pub no_reason : (o : Option ℕ) (s : ℕ) → o ≡ None → o ≡ Some s → ⊥
no_reason o s e f = let same : None ≡ Some s = sym e ∙ f in cc

-- of no variable there is a mark at first
pub unmarked : (k n : ℕ) → IsVariableMarked (replicate k false) n → ⊥
unmarked k n m = elim (cases_lt n k) [
  | inl lt ↦ true≢false (sym m ∙ get_or-replicate k n false false lt)
  | inr le ↦ true≢false (sym m ∙ get_or_past (replicate k false) n false (omega (arith, le, length-replicate k false)))
]

-- the mark of a place is that of its variable
pub placed : (v : TrailView) (marks : List Bool) (at : ℕ) (l : Lit) (b : Bool) → l ≡ get_or v.literals at no_lit → l.term.0 < length marks → b ≡ get_or marks l.term.0 b → get_or marks (get_or v.literals at no_lit).term.0 false ≡ b
placed v marks at l b e lt is = ap (λ (x : Lit). get_or marks x.term.0 false) (sym e) ∙ get_or_default marks l.term.0 false b lt ∙ sym is

-- what is marked for a literal is its variable
pub marked_lit : (t : TableView) → AreDifferent t.terms → (marks : List Bool) (m : Lit) → IsIn t m.term → IsMarkedFor t marks (literal_at t m) → IsVariableMarked marks m.term.0
marked_lit t differ marks m there (x, x_in, same, is) = subst (λ (l : Lit). IsVariableMarked marks l.term.0) (literals_apart t differ x m x_in there same) is

-- literals of the conflict and of reasons are of variables
module _ (c : Conflict) (vars : ℕ) (known : (p : ℕ) → p < length c.trail.literals → (get_or c.trail.literals p no_lit).term.0 < vars) where
  pub clash_known : IsClash c.table c.log c.trail.literals c.clash → (m : Lit) → HasLit c.table c.log c.clash m → m.term.0 < vars
  clash_known clash m has =
      let k = place_of c.trail.literals (lit_complement m) (clash.fails m has) in
      subst (λ (l : Lit). l.term.0 < vars) k.2 (known k.0 k.1)

  pub reason_known : (at n : ℕ) → at < length c.trail.literals → IsTrailReason c.table c.log (take at c.trail.literals) (get_or c.trail.literals at no_lit) (step_of n) → (m : Lit) → HasLit c.table c.log (step_of n) m → m.term.0 < vars
  reason_known at n lt by m has = elim (decide m (get_or c.trail.literals at no_lit)) [
    | inl e ↦ subst (λ (l : Lit). l.term.0 < vars) (sym e) (known at lt)
    | inr ne ↦
        let k = early_place c.trail.literals at (lit_complement m) (omega (arith, lt)) (by.others_false m has ne) in
        subst (λ (l : Lit). l.term.0 < vars) k.3 (known k.0 k.2)
  ]

module _ (c : Conflict) (once : VariablesAreApart c.trail.literals) (differ : AreDifferent c.table.terms) where
  abbrev held : List Lit
  held = c.trail.literals

  -- a place that makes a literal of a step false is marked, where the step's literals are
  pub falsifier_marked : (s : StepId) (old marks : List Bool) → MarksVariables c.table (literals_in c.table c.log s) old marks → (p : ℕ) → Falsifies c p s → IsMarkedAt c.trail marks p
  falsifier_marked s old marks h p f = marked_lit c.table differ marks (lit_complement (held_at c p)) f.1.in_table (h.added (literal_at c.table (lit_complement (held_at c p))) f.1.there)

  -- the literals of the conflict are before the end
  pub clash_before : IsClash c.table c.log held c.clash → (marks : List Bool) (m : Lit) → HasLit c.table c.log c.clash m → IsBefore c.trail (length held) marks m
  clash_before clash marks m has = let k = place_of held (lit_complement m) (clash.fails m has) in inr (k.0, k.1, k.2)

  -- where nothing came up but the conflict's literals
  pub begins : IsClash c.table c.log held c.clash → (none marks : List Bool) → ((x : ℕ) → IsVariableMarked none x → ⊥) → MarksVariables c.table (literals_in c.table c.log c.clash) none marks → HasMet c (length held) marks (c.clash ∷ [])
  begins clash none marks empty h = record {
    marked = λ p lt m. elim (h.only (held_at c p).term.0 m) [
      | inl was ↦ absurd (empty (held_at c p).term.0 was)
      | inr x ↦
          let has : HasLit c.table c.log c.clash x.0 = record { in_table = x.1; there = x.2 } in
          let k = place_of held (lit_complement x.0) (clash.fails x.0 has) in
          let same : k.0 ≡ p = same_place c.trail once k.0 p k.1 lt (ap (λ (l : Lit). l.term.0) k.2 ∙ x.3) in
          of_clash p (falsified c c.clash x.0 p has lt (ap (held_at c) (sym same) ∙ k.2))
    ];
    met = λ p m. met_marked p m;
    used = λ s u. elim u [
      | inl e ↦ subst (Contains (c.clash ∷ [])) (sym e) (first c.clash [])
      | inr r ↦ absurd (omega (arith, r.replaced, met_within c (length held) r.place r.met))
    ];
    no_others = λ s i. inl (sym (only c.clash s i));
  }
    where
      met_marked : (p : ℕ) → IsMet c (length held) p → IsMarkedAt c.trail marks p
      met_marked _ (of_clash p f) = falsifier_marked c.clash none marks h p f
      met_marked _ (of_reason q r p le m e f) = absurd (omega (arith, le, met_within c (length held) q m))

  module _ (leveled : IsLeveled c.trail) (clash : IsClash c.table c.log held c.clash) (reasons : AreTrailReasons c.table c.log c.trail) (at : ℕ) (lt : at < length held) where
    -- the literals of a reason are before its place, or came up
    pub reason_lit : (n : ℕ) → get_or c.trail.reasons at None ≡ Some n → (marks : List Bool) → IsMarkedAt c.trail marks at → (m : Lit) → HasLit c.table c.log (step_of n) m → IsBefore c.trail at marks m
    reason_lit n e marks is_marked m has = elim (decide m (held_at c at)) [
      | inl same ↦ inl (subst (λ (l : Lit). IsVariableMarked marks l.term.0) (sym same) is_marked)
      | inr ne ↦ let k = early_place held at (lit_complement m) (omega (arith, lt)) ((reasons at n lt e).others_false m has ne) in inr (k.0, k.1, k.3)
    ]

    -- what is newly marked makes a literal of the reason false
    pub newly : (n : ℕ) → get_or c.trail.reasons at None ≡ Some n → (marks more : List Bool) → MarksVariables c.table (literals_in c.table c.log (step_of n)) marks more → IsMarkedAt c.trail marks at
        → (p : ℕ) → p < length held → IsMarkedAt c.trail more p → IsMarkedAt c.trail marks p ⊎ Falsifies c p (step_of n)
    newly n e marks more h is_marked p pl m = elim (h.only (held_at c p).term.0 m) [
      | inl was ↦ inl was
      | inr a ↦ elim (decide a.0 (held_at c at)) [
        | inl same ↦
            let here : p ≡ at = same_place c.trail once p at pl lt (sym a.3 ∙ ap (λ (x : Lit). x.term.0) same) in
            inl (subst (IsMarkedAt c.trail marks) (sym here) is_marked)
        | inr ne ↦
            let has : HasLit c.table c.log (step_of n) a.0 = record { in_table = a.1; there = a.2 } in
            let k = early_place held at (lit_complement a.0) (omega (arith, lt)) ((reasons at n lt e).others_false a.0 has ne) in
            let same : k.0 ≡ p = same_place c.trail once k.0 p k.2 pl (ap (λ (x : Lit). x.term.0) k.3 ∙ a.3) in
            inr (falsified c (step_of n) a.0 p has pl (ap (held_at c) (sym same) ∙ k.3))
      ]
    ]

    module _ (n : ℕ) (a : Sorting) (premises : List StepId) (r : HasCome c n (at + 1) a premises) where
      -- a place with no reason to take
      pub passes_by : ((s : ℕ) → IsMarkedAt c.trail a.marks at → get_or c.trail.reasons at None ≡ Some s → ⊥) → (b : Sorting) → b.marks ≡ a.marks → Sorts c.trail n at b → HasCome c n at b premises
      passes_by free b same sorted = record {
        sorted = sorted;
        reached = record {
          marked = λ p pl m. met_more c (at + 1) at p (omega arith) (r.reached.marked p pl (subst (λ (ms : List Bool). IsMarkedAt c.trail ms p) same m));
          met = λ p m. subst (λ (ms : List Bool). IsMarkedAt c.trail ms p) (sym same) (r.reached.met p (stays p m));
          used = λ s u. r.reached.used s (still s u);
          no_others = λ s i. elim (r.reached.no_others s i) [
            | inl e ↦ inl e
            | inr h ↦ inr (record { place = h.place; replaced = omega (arith, h.replaced); met = met_more c (at + 1) at h.place (omega arith) h.met; reason = h.reason })
          ];
        };
      }
        where
          stays : (p : ℕ) → IsMet c at p → IsMet c (at + 1) p
          stays _ (of_clash p f) = of_clash p f
          stays _ (of_reason q s p le m e f) = elim (later_or_here at q le) [
            | inl later ↦ of_reason q s p later (stays q m) e f
            | inr is ↦ absurd (free s (subst (IsMarkedAt c.trail a.marks) is (r.reached.met q (stays q m))) (ap (λ (k : ℕ). get_or c.trail.reasons k None) (sym is) ∙ e))
          ]

          still : (s : StepId) → (s ≡ c.clash) ⊎ IsResolved c at s → (s ≡ c.clash) ⊎ IsResolved c (at + 1) s
          still s (inl e) = inl e
          still s (inr h) = elim (later_or_here at h.place h.replaced) [
            | inl later ↦ inr (record { place = h.place; replaced = later; met = stays h.place h.met; reason = h.reason })
            | inr is ↦ absurd (free s.0 (subst (IsMarkedAt c.trail a.marks) is (r.reached.met h.place (stays h.place h.met))) (ap (λ (k : ℕ). get_or c.trail.reasons k None) (sym is) ∙ h.reason))
          ]

      -- a marked literal that is replaced by the others of its reason
      pub passes : (s : ℕ) → IsMarkedAt c.trail a.marks at → get_or c.trail.reasons at None ≡ Some s → (b : Sorting) → MarksVariables c.table (literals_in c.table c.log (step_of s)) a.marks b.marks → Sorts c.trail n at b → HasCome c n at b (premises ++ step_of s ∷ [])
      passes s is_marked reason b h sorted = record {
        sorted = sorted;
        reached = record {
          marked = λ p pl m. elim (newly s reason a.marks b.marks h is_marked p pl m) [
            | inl was ↦ met_more c (at + 1) at p (omega arith) (r.reached.marked p pl was)
            | inr f ↦ of_reason at s p (omega arith) this reason f
          ];
          met = λ p m. met_marked p m;
          used = λ x u. has_used x u;
          no_others = λ x i. elim (Contains-push_cases premises (step_of s) x i) [
            | inl was ↦ elim (r.reached.no_others x was) [
              | inl e ↦ inl e
              | inr o ↦ inr (record { place = o.place; replaced = omega (arith, o.replaced); met = met_more c (at + 1) at o.place (omega arith) o.met; reason = o.reason })
            ]
            | inr e ↦ inr (record { place = at; replaced = omega arith; met = this; reason = reason ∙ ap (λ (y : StepId). Some y.0) e })
          ];
        };
      }
        where
          this : IsMet c at at
          this = met_more c (at + 1) at at (omega arith) (r.reached.marked at lt is_marked)

          same_step : (q u : ℕ) → q ≡ at → get_or c.trail.reasons q None ≡ Some u → s ≡ u
          same_step q u is e = same_reason (get_or c.trail.reasons at None) s u reason (ap (λ (k : ℕ). get_or c.trail.reasons k None) (sym is) ∙ e)

          -- what is marked from the next place on was met there
          met_later : (q : ℕ) → at + 1 ≤ q → q < length held → IsMarkedAt c.trail b.marks q → IsMet c (at + 1) q
          met_later q later ql m = elim (newly s reason a.marks b.marks h is_marked q ql m) [
            | inl was ↦ r.reached.marked q ql was
            | inr f ↦ absurd (omega (arith, later, reason_before c once leveled clash reasons at s q lt reason f))
          ]

          met_marked : (p : ℕ) → IsMet c at p → IsMarkedAt c.trail b.marks p
          met_marked _ (of_clash p f) = h.kept (held_at c p).term.0 (r.reached.met p (of_clash p f))
          met_marked _ (of_reason q u p le m e f) = by q u p le (met_within c at q m) (met_marked q m) e f
            where
              by : (q u p : ℕ) → at ≤ q → q < length held → IsMarkedAt c.trail b.marks q → get_or c.trail.reasons q None ≡ Some u → Falsifies c p (step_of u) → IsMarkedAt c.trail b.marks p
              by q u p le ql q_marked e f = elim (later_or_here at q le) [
                | inl later ↦ h.kept (held_at c p).term.0 (r.reached.met p (of_reason q u p later (met_later q later ql q_marked) e f))
                | inr is ↦ falsifier_marked (step_of s) a.marks b.marks h p (subst (λ (y : ℕ). Falsifies c p (step_of y)) (sym (same_step q u is e)) f)
              ]

          has_used : (x : StepId) → (x ≡ c.clash) ⊎ IsResolved c at x → Contains (premises ++ step_of s ∷ []) x
          has_used x (inl e) = Contains-append_left premises (step_of s ∷ []) x (r.reached.used x (inl e))
          has_used x (inr o) = elim (later_or_here at o.place o.replaced) [
            | inl later ↦ Contains-append_left premises (step_of s ∷ []) x (r.reached.used x (inr (record { place = o.place; replaced = later; met = met_later o.place later (met_within c at o.place o.met) (met_marked o.place o.met); reason = o.reason })))
            | inr is ↦ subst (λ (y : ℕ). Contains (premises ++ step_of s ∷ []) (step_of y)) (same_step o.place x.0 is o.reason) (Contains-push premises (step_of s))
          ]

  module _ (leveled : IsLeveled c.trail) (clash : IsClash c.table c.log held c.clash) (reasons : AreTrailReasons c.table c.log c.trail) (n k : ℕ) (a : Sorting) (premises : List StepId) (r : HasCome c n k a premises) where
    -- where two or more are left, two are
    pub has_two : 1 < a.many → HasTwo c n k
    has_two more =
        let h = counted_two c.trail n a.marks k (omega (arith, more, r.sorted.counted)) in
        record {
          one = h.0;
          other = h.1;
          apart = h.2;
          before = h.3;
          one_met = r.reached.marked h.0 (omega (arith, h.2, h.3, r.sorted.within)) h.4;
          other_met = r.reached.marked h.1 (omega (arith, h.3, r.sorted.within)) h.6;
          one_level = h.5;
          other_level = h.7;
        }

    -- and where fewer are, two are not
    pub has_no_two : a.many ≤ 1 → HasTwo c n k → ⊥
    has_no_two few two = omega (arith, few, r.sorted.counted, count_two c.trail n a.marks k two.one two.other two.apart two.before (r.reached.met two.one two.one_met) two.one_level (r.reached.met two.other two.other_met) two.other_level)

    -- what is marked from a place on below which one of the level is, is of the level
    pub of_level : IsConflictLevel c n → (q p : ℕ) → q < p → p < length held → level_at c q ≡ n → IsMarkedAt c.trail a.marks p → level_at c p ≡ n
    of_level top q p lt pl e m = omega (arith, e, leveled.rising q p lt pl, met_level c once leveled clash reasons n top k p (r.reached.marked p pl m))
