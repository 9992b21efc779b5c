-- The bound is that of the factor.
use Rattle.std.proofs.Common.{refl, sym, ◌∙◌, ap}
use Rattle.spec_tableaux.specs.Numbers.{Number, numbers}
use Rattle.tableau.specs.Numbers.{number_of}
use Rattle.simplex_atoms.proofs.Multiples.{sign_not_zero, sign_is}
use Rattle.simplex_atoms.proofs.placing.on_multiple.Goals as goal

pub returns-clause-made : goal.returns-clause-made
returns-clause-made c = record {
  is_kind = refl;
  is_constant = refl;
  factor = ap numbers.is_zero c.sign.ensures ∙ sign_not_zero c.args.multiple.opposite;
  bound = c.bound_by.ensures ∙ ap (λ (k : Number). numbers.times (numbers.opposite (number_of c.args.constant)) (numbers.inverse k)) (sym c.sign.ensures);
}

pub returns-clause-unit : goal.returns-clause-unit
returns-clause-unit c = sign_is c.args.multiple.opposite (number_of c.sign.result) c.sign.ensures
