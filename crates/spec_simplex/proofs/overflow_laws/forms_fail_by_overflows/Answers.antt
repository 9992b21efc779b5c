-- By recursion on the term: each operation of its form fails by its own overflow.
use Rattle.spec_arithmetic.specs.Forms.{form, difference}
use Rattle.spec_simplex.proofs.Failing.{of_fault}
use Rattle.spec_simplex.proofs.FormFaults.{IsFault, form_fails, difference_fails}
use Rattle.spec_simplex.proofs.overflow_laws.forms_fail_by_overflows.Goals as goal

pub returns-clause-terms : goal.returns-clause-terms
returns-clause-terms c = λ t e h. of_fault IsFault (form t) e (form_fails t) h

pub returns-clause-differences : goal.returns-clause-differences
returns-clause-differences c = λ atom s t e h. of_fault IsFault (difference atom s t) e (difference_fails atom s t) h

pub returns-clause-constraints : goal.returns-clause-constraints
returns-clause-constraints c = λ x e h. of_fault IsFault (difference x.atom x.left x.right) e (difference_fails x.atom x.left x.right) h
