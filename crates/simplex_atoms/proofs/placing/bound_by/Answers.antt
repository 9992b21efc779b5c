-- A variable, or minus it, comes to minus the constant.
use Rattle.std.proofs.Common.{Bool, sym, ◌∙◌, ap}
use Rattle.spec_tableaux.specs.Numbers.{numbers}
use Rattle.tableau.specs.Numbers.{number_of}
use Rattle.simplex_atoms.specs.Sums.{sign_by}
use Rattle.simplex_atoms.proofs.Multiples.{bound_above, bound_below}
use Rattle.simplex_atoms.proofs.placing.bound_by.Goals as goal

pub returns-then-opposite : goal.returns-then-opposite
returns-then-opposite c =
    let x = number_of c.args.constant in
    bound_below x ∙ ap (λ (b : Bool). numbers.times (numbers.opposite x) (numbers.inverse (sign_by b))) (sym c.if-opposite.true)

pub returns-else-opposite : goal.returns-else-opposite
returns-else-opposite c =
    let x = number_of c.args.constant in
    c.negative.ensures ∙ bound_above x ∙ ap (λ (b : Bool). numbers.times (numbers.opposite x) (numbers.inverse (sign_by b))) (sym c.if-opposite.false)
