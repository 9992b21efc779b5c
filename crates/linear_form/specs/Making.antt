-- What calls make of forms, or why they do not.
use Rattle.std.specs.Prelude.{◌≡◌, ◌≢◌, List, ◌++◌, map, All, Option, Some, None, Result, Ok, Err}
use Rattle.spec_text.specs.Answers.{◌>>=◌}
use Rattle.spec_numbers.specs.Fractions.{Fraction, zero_fraction, opposite}
use Rattle.spec_numbers.specs.Bounds.{multiplied, divided}
use Rattle.spec_arithmetic.specs.Forms.{Answer, Way, adding, subtracting, Form, Fault, factor_of, scaled}
use Rattle.ratio128.specs.declared.wide.Wide.{Wide}
use Rattle.ratio128.specs.Meant.{fraction, overflow}
use Rattle.term_core.specs.declared.ids.TermId.{TermId}
use Rattle.term_core.specs.Tables.{TableView, term_at}
use Rattle.linear_form.specs.declared.entries.FormJoin.{FormJoin as CodeWay}
use Rattle.linear_form.specs.declared.entries.FormJoin.TheVariants as ways
use Rattle.linear_form.specs.declared.entries.FormChange.{FormChange}
use Rattle.linear_form.specs.declared.entries.FormChange.TheVariants as changes
use Rattle.linear_form.specs.declared.stop.FormStop.{FormStop}
use Rattle.linear_form.specs.declared.stop.FormStop.TheVariants as stops
use Rattle.linear_form.specs.declared.stop.FormFault.{FormFault}
use Rattle.linear_form.specs.declared.stop.FormFault.TheVariants as faults
use Rattle.linear_form.specs.Meant.{FormView, form_meant, AreVariablesOf}

-- how the code's word joins forms
abbrev pub way_meant : CodeWay → Way
way_meant ways.Adding = adding
way_meant ways.Subtracting = subtracting

-- what becomes of a number by the code's word
abbrev pub change_meant : FormChange → Fraction → Answer Fraction
change_meant (changes.Times c) k = multiplied (fraction c) k
change_meant (changes.Over d) k = divided k (fraction d)
change_meant changes.Negative k = Ok (opposite k)
change_meant changes.Nothing k = Ok k

-- a divisor is not 0
abbrev pub CanChange : FormChange → Type 0
CanChange (changes.Times c) = Unit {0}
CanChange (changes.Over d) = fraction d ≢ zero_fraction
CanChange changes.Negative = Unit {0}
CanChange changes.Nothing = Unit {0}

-- its overflow is given; out of memory says nothing
abbrev pub FailsBy : {A : Type 0} → Answer A → FormStop → Type 0
FailsBy a (stops.Wide w) = a ≡ Err (overflow w)
FailsBy a stops.Memory = Unit {0}

-- what was to be made was made, or the error says why it was not
abbrev pub Comes : {A : Type 0} → Answer A → Result (Unit {0}) FormStop → A → Type 0
Comes a (Ok u) new = a ≡ Ok new
Comes a (Err s) new = FailsBy a s

-- what was to be made is returned, or the error says why it was not
abbrev pub ReturnsMade : {A B : Type 0} → Answer A → Result B FormStop → (B → A) → Type 0
ReturnsMade a (Ok b) meant = a ≡ Ok (meant b)
ReturnsMade a (Err s) meant = FailsBy a s

-- an overflow with the term whose head makes it
abbrev pub fault_meant : TableView → TermId → Wide → Fault
fault_meant t id w = record { term = term_at t id; overflow = overflow w }

-- the form is returned, or its first overflow with the term whose head makes it; out of memory says nothing
abbrev pub Finds : TableView → Result Form Fault → Result FormView FormFault → Type 0
Finds t a (Ok f) = a ≡ Ok (form_meant t f)
Finds t a (Err (faults.Wide id w)) = a ≡ Err (fault_meant t id w)
Finds t a (Err faults.Memory) = Unit {0}

-- what is made, after what was there
abbrev pub with_front : {A E : Type 0} → List A → Result (List A) E → Result (List A) E
with_front xs (Ok ys) = Ok (xs ++ ys)
with_front xs (Err w) = Err w

-- the forms that a table means
abbrev pub forms_meant : TableView → List FormView → List Form
forms_meant t fs = map (form_meant t) fs

-- each variable of these is a term of the table
abbrev pub HaveVariables : TableView → List FormView → Type 0
HaveVariables t fs = All (AreVariablesOf t) fs

-- the form that a table means, if there is one
abbrev pub option_meant : TableView → Option FormView → Option Form
option_meant t None = None
option_meant t (Some f) = Some (form_meant t f)

-- the product of two forms, or none where both have variables
unfoldable pub product_step : Form → Form → Answer (Option Form)
product_step f g = elim (factor_of f g) [ Some p ↦ scaled p.0 p.1 >>= λ h. Ok (Some h) | None ↦ Ok None ]
