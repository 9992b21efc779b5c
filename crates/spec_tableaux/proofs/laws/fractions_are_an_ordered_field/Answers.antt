use Rattle.spec_tableaux.proofs.Numbers.{numbers_are_ordered_field}
use Rattle.spec_tableaux.proofs.laws.fractions_are_an_ordered_field.Goals as goal

pub returns : goal.returns
returns c = numbers_are_ordered_field
