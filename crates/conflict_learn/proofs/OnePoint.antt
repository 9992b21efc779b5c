-- That a conflict has one first unique implication point.
use Rattle.std.proofs.Common.{◌≡◌, ℕ, List, Contains, inl, inr, ap, ◌∙◌, subst, arith}
use Rattle.std.proofs.lemmas.Bool.{cases_lt}
use Rattle.term_core.specs.declared.ids.Lit.{Lit}
use Rattle.clause_literals.specs.Literals.{lit_complement}
use Rattle.clause_literals.proofs.LiteralLists.{negation_twice}
use Rattle.proof_log.specs.declared.premises.StepId.{StepId}
use Rattle.conflict_learn.specs.Conflicts.{Conflict}
use Rattle.conflict_learn.specs.Points.{IsPoint, IsLeft, IsUsed, IsUip}

module _ (c : Conflict) (n : ℕ) where
  -- the place is one
  one_point : (j k : ℕ) → IsPoint c n j → IsPoint c n k → j ≡ k
  one_point j k p q = elim (cases_lt j k) [
    | inl lt ↦ absurd (q.here (p.above k lt q.within))
    | inr le ↦ elim (cases_lt k j) [ inl gt ↦ absurd (p.here (q.above j gt p.within)) | inr ge ↦ omega (arith, le, ge) ]
  ]

  -- what is left at one place is the same
  left_within : (from : ℕ) (ls ms : List Lit) → IsLeft c from ls → IsLeft c from ms → (l : Lit) → Contains ls l → Contains ms l
  left_within from ls ms a b l i =
      let h = a.only l i in
      subst (Contains ms) (ap lit_complement h.4 ∙ negation_twice l) (b.all h.0 h.1 h.2 h.3)

  module _ (ls ms : List Lit) (ps qs : List StepId) (a : IsUip c n ls ps) (b : IsUip c n ms qs) where
    same : a.from ≡ b.from
    same = one_point a.from b.from a.point b.point

    pub clause_within : (l : Lit) → Contains ls l → Contains ms l
    clause_within = left_within b.from ls ms (subst (λ (k : ℕ). IsLeft c k ls) same a.left) b.left

    pub premises_within : (s : StepId) → Contains ps s → Contains qs s
    premises_within s i = (b.used s).1 (subst (λ (k : ℕ). IsUsed c k s) same ((a.used s).0 i))
