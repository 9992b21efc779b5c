use Rattle.std.proofs.Common.{◌∷◌, ◌++◌, [], map, ap, ◌∙◌}
use Rattle.std.proofs.lemmas.List.{map-append}
use Rattle.simplex_bounds.specs.Deltas.{pair_of}
use Rattle.simplex_check.proofs.Summing.{variable_added}
use Rattle.simplex_check.proofs.assignment.RealAssignment.add_var.Goals as goal

pub invariant_of-self-2 : goal.invariant_of-self-2
invariant_of-self-2 c =
    variable_added c.self.inside.tableau c.add_var.new.self (map pair_of c.self.inside.values.items) (map pair_of c.push_reserved.new.self.items) c.in_ok-add_var.ensures.ok
    (ap (map pair_of) (c.push_reserved.ensures.items ∙ ap (λ z. z ++ c.zero.result ∷ []) c.in_ok-reserve.ensures.items) ∙ map-append pair_of c.self.inside.values.items (c.zero.result ∷ []) ∙ ap (λ z. map pair_of c.self.inside.values.items ++ z ∷ []) c.zero.ensures)
    c.self.invariant.lengths c.self.invariant.solves
