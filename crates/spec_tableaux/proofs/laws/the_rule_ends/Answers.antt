use Rattle.std.proofs.Common.{suc, ◌≤◌, length, subst}
use Rattle.spec_tableaux.proofs.Ends.{rule_ends, triple_is}
use Rattle.spec_tableaux.proofs.RowVariables.{ends_below}
use Rattle.spec_tableaux.proofs.laws.the_rule_ends.Goals as goal

pub returns : goal.returns
returns c d = record {
  under = λ s l o ranges n t u es i k m h. subst (λ k. suc (length es) ≤ k) (triple_is n) ((rule_ends s l o ranges n).is t u es i k m h);
  below = ends_below;
}
