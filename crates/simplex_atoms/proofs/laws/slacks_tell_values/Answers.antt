-- Values of variables tell those of forms.
use Rattle.simplex_atoms.proofs.Values.{form_comes, base_comes, tilt_comes}
use Rattle.simplex_atoms.proofs.laws.slacks_tell_values.Goals as goal

pub returns-clause-numbers : goal.returns-clause-numbers
returns-clause-numbers c = form_comes

pub returns-clause-bases : goal.returns-clause-bases
returns-clause-bases c = base_comes

pub returns-clause-tilts : goal.returns-clause-tilts
returns-clause-tilts c = tilt_comes
