use Rattle.spec_tableaux.proofs.Steps.{one_solution}
use Rattle.spec_tableaux.proofs.Unique.{extended_solves}
use Rattle.spec_tableaux.proofs.laws.nonbasic_values_have_one_solution.Goals as goal

pub returns : goal.returns
returns c d = record {
  solution = λ s rs v i. extended_solves s rs v i;
  one = λ s rs u v i a b h. one_solution s u v rs i h a b;
}
