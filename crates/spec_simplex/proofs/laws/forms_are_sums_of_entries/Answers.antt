-- By recursion on the entries.
use Rattle.spec_simplex.proofs.EntryValues.{number_sums, base_sums, tilt_sums}
use Rattle.spec_simplex.proofs.laws.forms_are_sums_of_entries.Goals as goal

pub returns-clause-numbers : goal.returns-clause-numbers
returns-clause-numbers c = number_sums

pub returns-clause-bases : goal.returns-clause-bases
returns-clause-bases c = base_sums

pub returns-clause-tilts : goal.returns-clause-tilts
returns-clause-tilts c = tilt_sums
