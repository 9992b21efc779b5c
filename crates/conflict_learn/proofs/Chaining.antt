-- That the clause of a point comes by a chain of resolutions, down the trail, and has no more than the chain gives.
use Rattle.std.proofs.Common.{◌≡◌, ◌≢◌, ℕ, zero, suc, ◌+◌, ◌<◌, ◌≤◌, List, [], ◌∷◌, length, map, get_or, Contains, Some, None, ◌⊎◌, inl, inr, refl, sym, ap, ◌∙◌, subst, arith}
use Rattle.std.proofs.lemmas.Bool.{cases_eq, cases_lt}
use Rattle.spec_text.proofs.Members.{cases, none, to_image, from_image}
use Rattle.spec_sorts.specs.Subsets.{IsClosed}
use Rattle.spec_sorts.specs.Literals.{Literal, complement}
use Rattle.spec_derivations.specs.ExactChains.{IsExactChain, begin, resolve, AreGone, IsExactResolvent}
use Rattle.spec_derivations.proofs.Exact.{literal_in, left_of, left_is, same_chain}
use Rattle.term_core.specs.declared.ids.Lit.{Lit}
use Rattle.term_core.specs.Tables.{IsIn, AreDifferent, term_at, literal_at}
use Rattle.clause_literals.specs.Literals.{lit_complement}
use Rattle.clause_literals.proofs.LiteralLists.{negation_twice}
use Rattle.proof_log.specs.declared.premises.StepId.{StepId}
use Rattle.proof_log.specs.Logs.{IsLogOf}
use Rattle.proof_log.specs.Clashes.{literals_in, HasLit, IsClash}
use Rattle.sat_trail.specs.Trails.{VariablesAreApart, IsLeveled}
use Rattle.conflict_learn.specs.Conflicts.{Conflict, step_of, AreTrailReasons, IsConflictLevel}
use Rattle.conflict_learn.specs.Points.{held_at, level_at, Falsifies, IsMet, of_clash, of_reason, IsPoint, IsLeft, IsDropped, of_point, of_dropped, IsUsed}
use Rattle.conflict_learn.proofs.Places.{place_of, early_place, same_place}
use Rattle.conflict_learn.proofs.Meanings.{logged_lit}
use Rattle.conflict_learn.proofs.Uip.{falsified, option_cases, reason_before, dropped_level, replaced_has_reason}
use Rattle.conflict_learn.proofs.Following.{same_reason}

-- a literal of the trail is resolved away where it is from the point on, or of level 0
abbrev IsReplaced : Conflict → ℕ → ℕ → Type 0
IsReplaced c from p = (from ≤ p) ⊎ (level_at c p ≡ 0)

-- A literal comes up where one begins with the conflict's, and resolves away those from a place on that are to be.
data IsReached (c : Conflict) (from k : ℕ) : ℕ → Type 0 where
  by_clash : (p : ℕ) → Falsifies c p c.clash → IsReached c from k p
  by_reason : (q r p : ℕ) → k ≤ q → IsReplaced c from q → IsReached c from k q → get_or c.trail.reasons q None ≡ Some r → Falsifies c p (step_of r) → IsReached c from k p

-- what a place makes false
abbrev false_at : Conflict → ℕ → Literal
false_at c p = literal_at c.table (lit_complement (held_at c p))

-- it is left where those from a place on were resolved away
abbrev Stays : Conflict → ℕ → ℕ → ℕ → Type 0
Stays c from k p = (p < k) ⊎ (IsReplaced c from p → ⊥)

-- a literal of the chain's clause comes of a place
abbrev HasPlace : Conflict → ℕ → ℕ → Literal → Type 0
HasPlace c from k x = (p : ℕ) × IsReached c from k p × Stays c from k p × (false_at c p ≡ x)

-- a pivot comes of a place that was resolved away
abbrev WasPlace : Conflict → ℕ → ℕ → Literal → Type 0
WasPlace c from k x = (p : ℕ) × (k ≤ p) × IsReached c from k p × IsReplaced c from p × (false_at c p ≡ x)

-- A chain has come down the trail to a place.
record IsDownTo (c : Conflict) (Given : List Literal → Type 0) (from k : ℕ) : Type 0 where
  pub pivots : List Literal
  pub clause : List Literal
  pub chain : IsExactChain complement Given pivots clause
  pub only : (x : Literal) → Contains clause x → HasPlace c from k x
  pub all : (p : ℕ) → IsReached c from k p → Stays c from k p → Contains clause (false_at c p)
  pub gone : (x : Literal) → Contains pivots x → WasPlace c from k x

reached_there : (c : Conflict) (from k p : ℕ) → IsReached c from k p → (p < length c.trail.literals) × IsIn c.table (held_at c p).term
reached_there c from k _ (by_clash p f) = (f.0, f.1.in_table)
reached_there c from k _ (by_reason q r p le rep m e f) = (f.0, f.1.in_table)

reached_more : (c : Conflict) (from k p : ℕ) → IsReached c from (k + 1) p → IsReached c from k p
reached_more c from k _ (by_clash p f) = by_clash p f
reached_more c from k _ (by_reason q r p le rep m e f) = by_reason q r p (omega (arith, le)) rep (reached_more c from k q m) e f

-- what was met comes up
met_reached : (c : Conflict) (from p : ℕ) → IsMet c from p → IsReached c from 0 p
met_reached c from _ (of_clash p f) = by_clash p f
met_reached c from _ (of_reason q r p le m e f) = by_reason q r p (omega arith) (inl le) (met_reached c from q m) e f

-- what comes up was met or dropped
met_or_dropped : (c : Conflict) (from k p : ℕ) → IsReached c from k p → IsMet c from p ⊎ IsDropped c from p
met_or_dropped c from k _ (by_clash p f) = inl (of_clash p f)
met_or_dropped c from k _ (by_reason q r p le rep m e f) = elim (met_or_dropped c from k q m) [
  | inr d ↦ inr (of_dropped q r p d e f)
  | inl met ↦ elim (cases_lt q from) [
    | inr late ↦ inl (of_reason q r p late met e f)
    | inl early ↦ elim rep [
      | inl late ↦ absurd (omega (arith, early, late))
      | inr zero_level ↦ inr (of_dropped q r p (of_point q early met zero_level) e f)
    ]
  ]
]

replaced_or : (c : Conflict) (from p : ℕ) → IsReplaced c from p ⊎ (IsReplaced c from p → ⊥)
replaced_or c from p = elim (cases_lt p from) [
  | inr late ↦ inl (inl late)
  | inl early ↦ elim (cases_eq (level_at c p) 0) [
    | inl zero_level ↦ inl (inr zero_level)
    | inr other ↦ inr (λ rep. elim rep [ inl late ↦ omega (arith, early, late) | inr is ↦ other is ])
  ]
]

module _ (c : Conflict) (once : VariablesAreApart c.trail.literals) (leveled : IsLeveled c.trail) (clash : IsClash c.table c.log c.trail.literals c.clash) (reasons : AreTrailReasons c.table c.log c.trail)
    (differ : AreDifferent c.table.terms) (closed : IsClosed c.table.terms) (right : IsLogOf c.table c.log) where
  abbrev held : List Lit
  held = c.trail.literals

  -- one atom has one place
  same_atom : (p q : ℕ) → p < length held → q < length held → IsIn c.table (held_at c p).term → IsIn c.table (held_at c q).term → term_at c.table (held_at c p).term ≡ term_at c.table (held_at c q).term → p ≡ q
  same_atom p q pl ql p_in q_in e = same_place c.trail once p q pl ql (differ (held_at c p).term.0 (held_at c q).term.0 p_in q_in e)

  -- a literal of a step that a place makes false
  lit_of : (s : StepId) → s.0 < length c.log → (x : Literal) → Contains (literals_in c.table c.log s) x → (m : Lit) × HasLit c.table c.log s m × (literal_at c.table m ≡ x)
  lit_of s lt x i = let m = logged_lit c.table closed c.log right s lt x i in (m.0, record { in_table = m.1; there = subst (Contains (literals_in c.table c.log s)) (sym m.2) i }, m.2)

  false_is : (p : ℕ) (m : Lit) (x : Literal) → held_at c p ≡ lit_complement m → literal_at c.table m ≡ x → false_at c p ≡ x
  false_is p m x e is = ap (λ (l : Lit). literal_at c.table (lit_complement l)) e ∙ ap (literal_at c.table) (negation_twice m) ∙ is

  module _ (from : ℕ) where
    -- what comes up by one place more comes up without it, or is in the reason there
    split : (k p : ℕ) → IsReached c from k p → IsReached c from (k + 1) p ⊎ (IsReplaced c from k × IsReached c from (k + 1) k × ((r : ℕ) × (get_or c.trail.reasons k None ≡ Some r) × Falsifies c p (step_of r)))
    split k _ (by_clash p f) = inl (by_clash p f)
    split k _ (by_reason q r p le rep m e f) = elim (cases_lt k q) [
      | inl later ↦ elim (split k q m) [
        | inl h ↦ inl (by_reason q r p (omega (arith, later)) rep h e f)
        | inr h ↦ absurd (omega (arith, later, reason_before c once leveled clash reasons k h.2.0 q (reached_there c from (k + 1) k h.1).0 h.2.1 h.2.2))
      ]
      | inr not_later ↦
          let is : q ≡ k = omega (arith, le, not_later) in
          let here : IsReached c from k k = subst (IsReached c from k) is m in
          let rep_here : IsReplaced c from k = subst (IsReplaced c from) is rep in
          let reason : get_or c.trail.reasons k None ≡ Some r = subst (λ (j : ℕ). get_or c.trail.reasons j None ≡ Some r) is e in
          elim (split k q m) [
            | inl h ↦ inr (rep_here, subst (IsReached c from (k + 1)) is h, (r, reason, f))
            | inr h ↦ inr (rep_here, h.1, (r, reason, f))
          ]
    ]

    module _ (n : ℕ) (top : IsConflictLevel c n) (point : IsPoint c n from) (Given : List Literal → Type 0) (given : (s : StepId) → IsUsed c from s → Given (literals_in c.table c.log s)) where
      -- what is resolved away has a reason, which is used
      by_used : (k : ℕ) → IsReplaced c from k → IsReached c from (k + 1) k → (r : ℕ) × (get_or c.trail.reasons k None ≡ Some r) × IsUsed c from (step_of r)
      by_used k rep m = elim (met_or_dropped c from (k + 1) k m) [
        | inr d ↦ dropped d
        | inl met ↦ elim (cases_lt k from) [
          | inl early ↦ elim rep [
            | inl late ↦ absurd (omega (arith, early, late))
            | inr zero_level ↦ dropped (of_point k early met zero_level)
          ]
          | inr late ↦ elim (option_cases (get_or c.trail.reasons k None)) [
            | inl free ↦ absurd (replaced_has_reason c once leveled clash reasons n top from point k late met free)
            | inr o ↦ (o.0, o.1, inr (inl (record { place = k; replaced = late; met = met; reason = o.1 })))
          ]
        ]
      ]
        where
          dropped : IsDropped c from k → (r : ℕ) × (get_or c.trail.reasons k None ≡ Some r) × IsUsed c from (step_of r)
          dropped d = elim (option_cases (get_or c.trail.reasons k None)) [
            | inl free ↦ absurd (omega (arith, leveled.decided k (reached_there c from (k + 1) k m).0 free, dropped_level c once leveled clash reasons from k d))
            | inr o ↦ (o.0, o.1, inr (inr (record { place = k; dropped = d; reason = o.1 })))
          ]

      -- at the end there is the conflict
      start : IsDownTo c Given from (length held)
      start = record {
        pivots = [];
        clause = literals_in c.table c.log c.clash;
        chain = begin (literals_in c.table c.log c.clash) (literals_in c.table c.log c.clash) (given c.clash (inl refl)) (λ l. (λ i. i, λ i. i));
        only = λ x i.
            let m = lit_of c.clash clash.in_log x i in
            let k = place_of held (lit_complement m.0) (clash.fails m.0 m.1) in
            (k.0, by_clash k.0 (falsified c c.clash m.0 k.0 m.1 k.1 k.2), inl k.1, false_is k.0 m.0 x k.2 m.2);
        all = λ p m s. clash_has p m;
        gone = λ x i. absurd (none x i);
      }
        where
          clash_has : (p : ℕ) → IsReached c from (length held) p → Contains (literals_in c.table c.log c.clash) (false_at c p)
          clash_has _ (by_clash p f) = f.1.there
          clash_has _ (by_reason q r p le rep m e f) = absurd (omega (arith, le, (reached_there c from (length held) q m).0))

      module _ (k : ℕ) (lt : k < length held) (d : IsDownTo c Given from (k + 1)) where
        was_more : (x : Literal) → Contains d.pivots x → WasPlace c from k x
        was_more x i = let w = d.gone x i in (w.0, omega (arith, w.1), reached_more c from k w.0 w.2, w.3, w.4)

        -- whether the literal of the place came up
        reached_or : IsReached c from (k + 1) k ⊎ (IsReached c from (k + 1) k → ⊥)
        reached_or = elim (cases_lt (held_at c k).term.0 (length c.table.terms)) [
          | inr out ↦ inr (λ m. omega (arith, out, (reached_there c from (k + 1) k m).1))
          | inl k_in ↦ elim (literal_in d.clause (false_at c k)) [
            | inr free ↦ inr (λ m. free (d.all k m (inl (omega arith))))
            | inl i ↦
                let h = d.only (false_at c k) i in
                let there = reached_there c from (k + 1) h.0 h.1 in
                inl (subst (IsReached c from (k + 1)) (same_atom h.0 k there.0 lt there.1 k_in (ap (λ (x : Literal). x.atom) h.3)) h.1)
          ]
        ]

        -- where it is not resolved away, the clause stays
        stays : (IsReplaced c from k → IsReached c from (k + 1) k → ⊥) → IsDownTo c Given from k
        stays free = record {
          pivots = d.pivots;
          clause = d.clause;
          chain = d.chain;
          only = λ x i. let h = d.only x i in (h.0, reached_more c from k h.0 h.1, side h.0 h.1 h.2, h.3);
          all = λ p m s. elim (split k p m) [
            | inl h ↦ d.all p h (elim s [ inl small ↦ inl (omega (arith, small)) | inr other ↦ inr other ])
            | inr h ↦ absurd (free h.0 h.1)
          ];
          gone = was_more;
        }
          where
            side : (p : ℕ) → IsReached c from (k + 1) p → Stays c from (k + 1) p → Stays c from k p
            side p m (inr other) = inr other
            side p m (inl small) = elim (cases_lt p k) [
              | inl less ↦ inl less
              | inr not_less ↦ let is : p ≡ k = omega (arith, small, not_less) in inr (λ rep. free (subst (IsReplaced c from) is rep) (subst (IsReached c from (k + 1)) is m))
            ]

        -- where it is, the clause is resolved with its reason
        module _ (rep : IsReplaced c from k) (m : IsReached c from (k + 1) k) (r : ℕ) (e : get_or c.trail.reasons k None ≡ Some r) where
          abbrev pivot : Literal
          pivot = false_at c k

          abbrev reason : List Literal
          reason = literals_in c.table c.log (step_of r)

          abbrev new : List Literal
          new = left_of pivot d.clause reason

          other_sign : complement pivot ≡ literal_at c.table (held_at c k)
          other_sign = ap (literal_at c.table) (negation_twice (held_at c k))

          here_only : (p : ℕ) → p < length held → IsIn c.table (held_at c p).term → term_at c.table (held_at c p).term ≡ term_at c.table (held_at c k).term → p ≡ k
          here_only p pl p_in same = same_atom p k pl lt p_in (reached_there c from (k + 1) k m).1 same

          new_only : (x : Literal) → Contains new x → HasPlace c from k x
          new_only x i = elim ((left_is pivot d.clause reason x).0 i) [
            | inl h ↦
                let o = d.only x h.0 in
                (o.0, reached_more c from k o.0 o.1, elim o.2 [ inl small ↦ inl (less o.0 small (λ is. h.1 (sym o.3 ∙ ap (false_at c) is))) | inr other ↦ inr other ], o.3)
            | inr h ↦
                let by = reasons k r lt e in
                let l = lit_of (step_of r) by.in_log x h.0 in
                let p = early_place held k (lit_complement l.0) (omega (arith, lt)) (by.others_false l.0 l.1 (λ same. h.1 (sym l.2 ∙ ap (literal_at c.table) same ∙ sym other_sign))) in
                (p.0, by_reason k r p.0 (omega arith) rep (reached_more c from k k m) e (falsified c (step_of r) l.0 p.0 l.1 p.2 p.3), inl p.1, false_is p.0 l.0 x p.3 l.2)
          ]
            where
              less : (p : ℕ) → p < k + 1 → p ≢ k → p < k
              less p small ne = omega (arith, small, ne)

          not_here : (p : ℕ) → Stays c from k p → p ≡ k → ⊥
          not_here p (inl small) is = omega (arith, small, is)
          not_here p (inr other) is = other (subst (IsReplaced c from) (sym is) rep)

          new_all : (p : ℕ) → IsReached c from k p → Stays c from k p → Contains new (false_at c p)
          new_all p reached s = elim (split k p reached) [
            | inl h ↦
                let there = reached_there c from (k + 1) p h in
                let old = d.all p h (elim s [ inl small ↦ inl (omega (arith, small)) | inr other ↦ inr other ]) in
                (left_is pivot d.clause reason (false_at c p)).1 (inl (old, λ same. not_here p s (here_only p there.0 there.1 (ap (λ (x : Literal). x.atom) same))))
            | inr h ↦
                let f = h.2.2 in
                let is : h.2.0 ≡ r = same_reason (get_or c.trail.reasons k None) h.2.0 r h.2.1 e in
                let before = reason_before c once leveled clash reasons k h.2.0 p lt h.2.1 f in
                (left_is pivot d.clause reason (false_at c p)).1 (inr (subst (λ (j : ℕ). Contains (literals_in c.table c.log (step_of j)) (false_at c p)) is f.1.there, λ same. not_here p (inl before) (here_only p f.0 f.1.in_table (ap (λ (x : Literal). x.atom) same))))
          ]

          was : (x : Literal) → Contains (pivot ∷ d.pivots) x → WasPlace c from k x
          was x i = elim (cases pivot d.pivots x i) [
            | inl same ↦ (k, omega arith, reached_more c from k k m, rep, same)
            | inr rest ↦ was_more x rest
          ]

          -- a pivot's atom is in no literal that is left
          no_atom : (x y : Literal) → WasPlace c from k x → HasPlace c from k y → y.atom ≡ x.atom → ⊥
          no_atom x y (q, le, q_reached, q_rep, q_is) (p, p_reached, s, p_is) same =
              let a = reached_there c from k p p_reached in
              let b = reached_there c from k q q_reached in
              refuted s (same_atom p q a.0 b.0 a.1 b.1 (ap (λ (z : Literal). z.atom) p_is ∙ same ∙ sym (ap (λ (z : Literal). z.atom) q_is)))
            where
              refuted : Stays c from k p → p ≡ q → ⊥
              refuted (inl small) is = omega (arith, small, le, is)
              refuted (inr other) is = other (subst (IsReplaced c from) (sym is) q_rep)

          are_gone : AreGone complement (pivot ∷ d.pivots) new
          are_gone x i = (λ j. no_atom x x (was x i) (new_only x j) refl, λ j. no_atom x (complement x) (was x i) (new_only (complement x) j) refl)

          resolved : IsUsed c from (step_of r) → IsDownTo c Given from k
          resolved used = record {
            pivots = pivot ∷ d.pivots;
            clause = new;
            chain = resolve pivot d.pivots d.clause reason new d.chain (given (step_of r) used)
                (record { in_one = d.all k m (inl (omega arith)); in_other = subst (Contains reason) (sym other_sign) (reasons k r lt e).has_it.there; rest = left_is pivot d.clause reason })
                are_gone;
            only = new_only;
            all = new_all;
            gone = was;
          }

        -- either way a place more
        down : IsDownTo c Given from k
        down = elim (replaced_or c from k) [
          | inr free ↦ stays (λ rep m. free rep)
          | inl rep ↦ elim reached_or [ inl m ↦ (let u = by_used k rep m in resolved rep m u.0 u.1 u.2) | inr free ↦ stays (λ _ m. free m) ]
        ]

      -- so it comes down to any place
      come_down : (j k : ℕ) → k + j ≡ length held → IsDownTo c Given from k
      come_down zero k e = subst (IsDownTo c Given from) (omega (arith, e)) start
      come_down (suc j) k e = down k (omega (arith, e)) (come_down j (k + 1) (omega (arith, e)))

      -- and at the start has the literals of the point's clause
      pub left_comes : (clause : List Lit) → IsLeft c from clause → IsExactResolvent complement Given (map (literal_at c.table) clause)
      left_comes clause left = (d.pivots, same_chain complement Given d.pivots d.clause (map (literal_at c.table) clause) d.chain (λ x. (λ i. there x (d.only x i), back x)))
        where
          d : IsDownTo c Given from 0
          d = come_down (length held) 0 (omega arith)

          unreplaced : (p : ℕ) → p < from → 0 < level_at c p → IsReplaced c from p → ⊥
          unreplaced p early above (inl late) = omega (arith, early, late)
          unreplaced p early above (inr is) = omega (arith, above, is)

          there : (x : Literal) → HasPlace c from 0 x → Contains (map (literal_at c.table) clause) x
          there x (p, m, inl small, e) = absurd (omega (arith, small))
          there x (p, m, inr other, e) = elim (met_or_dropped c from 0 p m) [
            | inr dropped ↦ absurd (other (inr (dropped_level c once leveled clash reasons from p dropped)))
            | inl met ↦ elim (cases_lt p from) [
              | inr late ↦ absurd (other (inl late))
              | inl early ↦ elim (cases_lt 0 (level_at c p)) [
                | inr low ↦ absurd (other (inr (omega (arith, low))))
                | inl above ↦ subst (Contains (map (literal_at c.table) clause)) e (to_image (literal_at c.table) clause (lit_complement (held_at c p)) (left.all p early met above))
              ]
            ]
          ]

          back : (x : Literal) → Contains (map (literal_at c.table) clause) x → Contains d.clause x
          back x i =
              let m = from_image (literal_at c.table) clause x i in
              let h = left.only m.0 m.1 in
              subst (Contains d.clause) (false_is h.0 m.0 x h.4 m.2) (d.all h.0 (met_reached c from h.0 h.2) (inr (unreplaced h.0 h.1 h.3)))
