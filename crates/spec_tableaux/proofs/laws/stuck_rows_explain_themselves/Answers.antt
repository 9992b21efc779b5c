use Rattle.spec_tableaux.proofs.Explanations.{stuck_is_stopped, row_explains}
use Rattle.spec_tableaux.proofs.laws.stuck_rows_explain_themselves.Goals as goal

pub returns : goal.returns
returns c d = record {
  stopped = stuck_is_stopped;
  sum = λ s l r bound p v. row_explains s l p v r bound;
}
