use Rattle.simplex_numbers.proofs.Compared.{all_hold}
use Rattle.simplex_numbers.proofs.laws.held_literals_hold_at_numbers.Goals as goal

pub returns : goal.returns
returns c = all_hold
