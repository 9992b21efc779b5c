use Rattle.spec_tableaux.proofs.PairSolutions.{pair_parts, parts_pair}
use Rattle.spec_tableaux.proofs.laws.solutions_in_pairs_are_of_both_parts.Goals as goal

pub returns : goal.returns
returns c d = λ f rs v. (λ h. pair_parts f v rs h, λ h. parts_pair f v rs h.0 h.1)
