-- What the parts of sums mean, and how a clause is judged by them.
use Rattle.std.specs.Prelude.{◌≡◌, Bool, true, List, map, All, Result, Ok, Err}
use Rattle.spec_text.specs.Answers.{◌>>=◌}
use Rattle.spec_arithmetic.specs.Forms.{Answer, Form, adding, combined, scaled, difference}
use Rattle.spec_arithmetic.specs.Contradictions as sums
use Rattle.spec_arithmetic.specs.Contradictions.{Failure, shape, no_contradiction, wide, weight_by, without_term}
use Rattle.spec_arithmetic.specs.Contradictions.{sum_of, as_failure, judged_last}
use Rattle.ratio128.specs.Meant.{fraction, overflow}
use Rattle.term_core.specs.Tables.{TableView, term_at}
use Rattle.linear_form.specs.declared.arith_fault.ArithFault.{ArithFault}
use Rattle.linear_form.specs.declared.arith_fault.ArithFault.TheVariants as verdicts
use Rattle.linear_form.specs.declared.literals.Negation.{Negation}
use Rattle.linear_form.specs.declared.stop.FormFault.{FormFault}
use Rattle.linear_form.specs.declared.stop.FormFault.TheVariants as faults
use Rattle.linear_form.specs.declared.stop.FormStop.{FormStop}
use Rattle.linear_form.specs.declared.stop.FormStop.TheVariants as stops
use Rattle.linear_form.specs.declared.sums.WeightedForm.{WeightedForm}
use Rattle.linear_form.specs.Meant.{form_meant, AreVariablesOf}
use Rattle.linear_form.specs.Literals.{relation_meant}

-- what a literal brings to the sum, by the terms of a table
abbrev pub part_meant : TableView → WeightedForm → sums.Part
part_meant t p = record { relation = relation_meant p.relation; form = form_meant t p.form; weight = fraction p.weight }

-- what literals bring, in their order
abbrev pub parts_meant : TableView → List WeightedForm → List sums.Part
parts_meant t ps = map (part_meant t) ps

-- the variables of a part are of the table
abbrev pub HasVariablesOf : TableView → WeightedForm → Type 0
HasVariablesOf t p = AreVariablesOf t p.form

-- and so are those of all
abbrev pub HaveVariablesOf : TableView → List WeightedForm → Type 0
HaveVariablesOf t ps = All (HasVariablesOf t) ps

-- the form of the difference that a negation speaks of
abbrev pub difference_meant : TableView → Negation → Answer Form
difference_meant t n = without_term (difference (term_at t n.atom) (term_at t n.left) (term_at t n.right))

-- a sum with one more part
unfoldable pub added_part : Bool → Form → sums.Part → Answer Form
added_part turned f p = scaled (weight_by turned p.relation p.weight) p.form >>= λ g. combined adding f g

-- why a form is not made, without its term
abbrev pub stop_by : FormFault → FormStop
stop_by (faults.Wide id w) = stops.Wide w
stop_by faults.Memory = stops.Memory

-- why a clause is not taken whose forms are not made
abbrev pub fault_by : FormStop → ArithFault
fault_by (stops.Wide w) = verdicts.Wide w
fault_by stops.Memory = verdicts.Memory

-- the code judges as the definition does; out of memory says nothing
abbrev pub JudgesSum : Result (Unit {0}) Failure → Result (Unit {0}) ArithFault → Type 0
JudgesSum a (Ok u) = a ≡ Ok tt
JudgesSum a (Err verdicts.Shape) = a ≡ Err shape
JudgesSum a (Err verdicts.NoContradiction) = a ≡ Err no_contradiction
JudgesSum a (Err (verdicts.Wide w)) = a ≡ Err (wide (overflow w))
JudgesSum a (Err verdicts.Memory) = Unit {0}

-- the clause by the sum with turned equalities alone
unfoldable pub judged_turned : List sums.Part → Result (Unit {0}) Failure
judged_turned ps = as_failure (sum_of true ps) >>= λ g. judged_last ps g
