-- One claim more.
use Rattle.std.proofs.Common.{◌≡◌, ◌∙◌, inl, inr, sym, ap, get_or, arith}
use Rattle.std.proofs.lemmas.Bool.{cases_lt}
use Rattle.std.proofs.lemmas.List.{get_or_default}
use Rattle.congruence_explain.proofs.explaining.denies.Goals as goal

pub claims-init : goal.claims-init
claims-init c k d lt = absurd (omega (arith, lt))

pub claims-preserved : goal.claims-preserved
claims-preserved c k d lt e = elim (cases_lt k c.claims.s-index) [
  | inl early ↦ c.claims.invariant k d early e
  | inr late ↦
      let is : k ≡ c.claims.s-index = omega (arith, lt, late) in
      c.if-is_denial.ensures (get_or_default c.args.stated.now c.claims.s-index _ d c.claims-test.true ∙ ap (λ n. get_or c.args.stated.now n d) (sym is) ∙ e)
]

pub returns-then-is_denial : goal.returns-then-is_denial
returns-then-is_denial c = (c.claims.s-index, c.claims-test.true, get_or_default c.args.stated.now c.claims.s-index _ _ c.claims-test.true ∙ c.if-is_denial.ensures)

pub returns : goal.returns
returns c i = c.claims.invariant i.0 _ (omega (arith, i.1, c.claims-test.false)) i.2
