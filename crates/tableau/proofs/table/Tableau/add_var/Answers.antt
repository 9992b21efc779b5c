use Rattle.std.proofs.Common.{[], ◌∷◌, ◌++◌, None, refl, ap, ◌∙◌}
use Rattle.tableau.proofs.Adding.{kept_variable}
use Rattle.tableau.proofs.table.Tableau.add_var.Goals as goal

pub invariant_of-self-2 : goal.invariant_of-self-2
invariant_of-self-2 c = kept_variable c.self.inside c.self.invariant _ refl refl (c.push_reserved.ensures.items ∙ ap (λ z. z ++ None ∷ []) c.in_ok-reserve.ensures.items)
    (c.push_reserved-2.ensures.items ∙ (λ i. c.in_ok-reserve-2.ensures.items i ++ c.new.ensures i ∷ []))
