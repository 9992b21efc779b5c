-- Each way to come to the overflow is one operation.
use Rattle.spec_simplex.proofs.TableauFaults.{exchange_overflows, row_overflows}
use Rattle.spec_simplex.proofs.overflow_laws.tableaux_fail_by_overflows.Goals as goal

pub returns-clause-exchange : goal.returns-clause-exchange
returns-clause-exchange c = exchange_overflows

pub returns-clause-row : goal.returns-clause-row
returns-clause-row c = row_overflows
