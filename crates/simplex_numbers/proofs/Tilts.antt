-- Bounds that literals state have no tilt that leads out of their side.
use Rattle.std.proofs.Common.{inl, inr, Bool, true, false, not, [], ◌∷◌, Contains, Option, Some, None, refl, subst}
use Rattle.spec_text.proofs.Members.{cases, none as no_member, only}
use Rattle.spec_numbers.specs.Fractions.{gcd, plus, opposite}
use Rattle.spec_tableaux.specs.Numbers.{numbers, fractions}
use Rattle.spec_simplex.specs.Constraints.{Relation, below, at_most, equals, at_least, above}
use Rattle.term_core.specs.declared.ids.Lit.{Lit}
use Rattle.simplex_bounds.specs.declared.bounds.Side.{Side}
use Rattle.simplex_bounds.specs.declared.bounds.Side.TheVariants.{Lower, Upper}
use Rattle.simplex_atoms.specs.declared.slack.Slack.{Slack}
use Rattle.simplex_atoms.specs.Limits.{Limit, limit_on, limits_where, limits_by, tilt_by, side_by}
use Rattle.simplex_numbers.specs.Values.{IsInward}

inward_by : (side : Side) (strict : Bool) → IsInward side (tilt_by side strict)
unfolding numbers fractions gcd plus opposite
inward_by Lower true = refl
inward_by Lower false = refl
inward_by Upper true = refl
inward_by Upper false = refl

on_side : (slack : Slack) (l : Lit) (side : Side) (strict : Bool) (x : Limit) → Contains (limit_on slack l side strict ∷ []) x → IsInward x.side x.value.tilt
on_side slack l side strict x c = subst (λ (y : Limit). IsInward y.side y.value.tilt) (only (limit_on slack l side strict) x c) (inward_by side strict)

inward_where : (r : Option Relation) (up : Bool) (slack : Slack) (l : Lit) (x : Limit) → Contains (limits_where r up slack l) x → IsInward x.side x.value.tilt
inward_where (Some below) up slack l x c = on_side slack l (side_by up) true x c
inward_where (Some at_most) up slack l x c = on_side slack l (side_by up) false x c
inward_where (Some at_least) up slack l x c = on_side slack l (side_by (not up)) false x c
inward_where (Some above) up slack l x c = on_side slack l (side_by (not up)) true x c
inward_where (Some equals) up slack l x c = elim (cases (limit_on slack l Lower false) (limit_on slack l Upper false ∷ []) x c) [
  | inl e ↦ subst (λ (y : Limit). IsInward y.side y.value.tilt) e (inward_by Lower false)
  | inr d ↦ on_side slack l Upper false x d
]
inward_where None up slack l x c = absurd (no_member x c)

pub inward : (slack : Slack) (l : Lit) (x : Limit) → Contains (limits_by slack l) x → IsInward x.side x.value.tilt
inward slack l x c = inward_where _ _ slack l x c
