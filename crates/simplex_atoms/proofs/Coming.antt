-- Where simplex comes to as variables and rows come.
use Rattle.std.proofs.Common.{◌≡◌, ℕ, List, [], ◌∷◌, ◌++◌, length, map, get_or, ◌<◌, Option, Some, None, Result, Ok, Err, refl, sym, ◌∙◌, ap, subst}
use Rattle.std.specs.Prelude.{All, Contains, IsErrAnd}
use Rattle.std.proofs.lemmas.List.{length-map, map-append}
use Rattle.std.proofs.lemmas.List.Elements.{All-nil, All-cons, All-head, All-tail, All-get_or, All-weaker}
use Rattle.std.proofs.lemmas.Option.{same_Some}
use Rattle.spec_text.proofs.Members as members
use Rattle.spec_numbers.specs.Fractions.{Fraction}
use Rattle.spec_sorts.specs.Terms.{Term}
use Rattle.spec_arithmetic.specs.Forms.{Form}
use Rattle.spec_tableaux.specs.Rows.{Entry as RowEntry}
use Rattle.spec_tableaux.specs.Numbers.{Number}
use Rattle.spec_simplex.specs.Constraints.{Constraint, constraint_of, form_of}
use Rattle.spec_causes.specs.TermTableau.{owner_in, with_slack, with_sum, AreEntriesOf}
use Rattle.spec_causes.specs.Reached.{IsFormAmong, IsLonger, HaveNoRow, IsReached, naming, summing}
use Rattle.ratio128.specs.declared.ratio.Ratio.{Ratio}
use Rattle.ratio128.specs.Meant.{fraction}
use Rattle.term_core.specs.declared.ids.TermId.{TermId}
use Rattle.term_core.specs.Tables.{TableView, term_at, IsIn, positive_literal}
use Rattle.linear_form.specs.Meant.{FormView, form_meant, pair_meant, AreVariablesOf}
use Rattle.linear_form.specs.Entries.{pair_view}
use Rattle.tableau.specs.declared.entries.Entry.{Entry}
use Rattle.tableau.specs.Entries.{entries_of}
use Rattle.simplex_check.specs.Assignments.{AssignmentView, assignment_with_variable, assignment_with_sum}
use Rattle.simplex_atoms.specs.declared.slack.Slack.{Slack}
use Rattle.simplex_atoms.specs.declared.reading.AtomSides.{AtomSides}
use Rattle.simplex_atoms.specs.declared.stop.AtomStop.{AtomStop}
use Rattle.simplex_atoms.specs.declared.stop.AtomStop.TheVariants as stops
use Rattle.simplex_atoms.specs.Owners.{owner_at, IsNumberOf}
use Rattle.simplex_atoms.specs.Atoms.{ground_of, AreCounted}
use Rattle.simplex_atoms.specs.Watching.{EntriesAreNumbered, constraint_meant}
use Rattle.simplex_atoms.specs.TermTableauViews.{owner_meant, term_tableau_in, ButForMemory, GroundLeads, TellsOwners, IsVariableOf}
use Rattle.simplex_atoms.proofs.Numbered.{owner_mapped, numbered_entries, are_in}

-- a variable that means the term of a number stands for the number
pub term_owned : (t : TableView) (os : List (Option TermId)) (id : TermId) → TellsOwners t os → IsIn t id → (y : ℕ)
    → owner_in (map (owner_meant t) os) y ≡ Some (term_at t id) → owner_at os y ≡ Some id
term_owned t os id tells there y e = by (owner_at os y) refl (sym (owner_mapped t os y) ∙ e)
  where
    none_some : (u : Term) → (let o : Option Term = None in o) ≡ Some u → ⊥
    none_some u k = cc

    by : (o : Option TermId) → owner_at os y ≡ o → owner_meant t o ≡ Some (term_at t id) → owner_at os y ≡ Some id
    by None h k = absurd (none_some (term_at t id) k)
    by (Some j) h k =
        let numbers : j.0 ≡ id.0 = tells.0 j.0 id.0 (tells.1 y j h) there (same_Some (term_at t j) (term_at t id) k) in
        let same : j ≡ id = λ i. record { 0 = numbers i } in
        h ∙ ap Some same

-- so where no variable stands for a number, none stands for its term
pub term_new : (t : TableView) (os : List (Option TermId)) (id : TermId) → TellsOwners t os → IsIn t id → IsNumberOf os id None → (y : ℕ)
    → owner_in (map (owner_meant t) os) y ≡ Some (term_at t id) → ⊥
term_new t os id tells there free y e = free y (term_owned t os id tells there y e)

-- nothing comes
pub leads_same : (t : TableView) (f : Form) (os us : List (Option TermId)) (b c : AssignmentView) → us ≡ os → c ≡ b → GroundLeads t f (ground_of os b) (ground_of us c)
leads_same t f os us b c e g ts n es among h = subst (IsReached ts n es) (λ i. term_tableau_in t (sym e i) (sym g i)) h

-- a variable comes for a term
pub variable_leads : (t : TableView) (f : Form) (os us : List (Option TermId)) (b c : AssignmentView) (id : TermId) (k : Ratio) → us ≡ os ++ Some id ∷ [] → c ≡ assignment_with_variable b
    → IsNumberOf os id None → TellsOwners t os → IsVariableOf t f (id, k) → GroundLeads t f (ground_of os b) (ground_of us c)
variable_leads t f os us b c id k e g free tells is ts n es among h =
    subst (IsReached ts n es) (sym same) (naming n es (term_tableau_in t os b) h f among (term_at t id) (fraction k) is.1 (term_new t os id tells is.0 free))
  where
    now : term_tableau_in t (os ++ Some id ∷ []) (assignment_with_variable b) ≡ with_slack (term_tableau_in t os b) (term_at t id)
    now = λ i. record {
      owners = map-append (owner_meant t) os (Some id ∷ []) i;
      listed = b.tableau.listed;
      rows = b.tableau.rows;
      values = (assignment_with_variable b).values;
    }

    same : term_tableau_in t us c ≡ with_slack (term_tableau_in t os b) (term_at t id)
    same = (λ i. term_tableau_in t (e i) (g i)) ∙ now

-- a row comes
pub row_leads : (t : TableView) (f : Form) (os us : List (Option TermId)) (b c : AssignmentView) (gs : List (RowEntry Number)) → AreCounted (ground_of os b) → us ≡ os ++ None ∷ []
    → c ≡ assignment_with_sum b gs → AreEntriesOf (map (owner_meant t) os) gs f.variables → IsLonger gs → HaveNoRow b.tableau.listed gs → GroundLeads t f (ground_of os b) (ground_of us c)
row_leads t f os us b c gs count e g are longer is_new ts n es among h =
    subst (IsReached ts n es) (sym same) (summing n es (term_tableau_in t os b) h f among gs are longer is_new)
  where
    counted : b.tableau.variables ≡ length (map (owner_meant t) os)
    counted = sym (length-map os (owner_meant t) ∙ count)

    sum_by : ℕ → AssignmentView
    sum_by n = assignment_with_sum (record { tableau = record { variables = n; listed = b.tableau.listed; rows = b.tableau.rows }; values = b.values }) gs

    now : term_tableau_in t (os ++ None ∷ []) (assignment_with_sum b gs) ≡ with_sum (term_tableau_in t os b) gs
    now = λ i. record {
      owners = map-append (owner_meant t) os (None ∷ []) i;
      listed = (sum_by (counted i)).tableau.listed;
      rows = (sum_by (counted i)).tableau.rows;
      values = (assignment_with_sum b gs).values;
    }

    same : term_tableau_in t us c ≡ with_sum (term_tableau_in t os b) gs
    same = (λ i. term_tableau_in t (e i) (g i)) ∙ now

-- entries for the variables of a form as it is lent
pub form_entries : (t : TableView) (os : List (Option TermId)) (es : List Entry) (xs : List (TermId × Ratio)) (f : FormView) → map pair_view xs ≡ f.variables → EntriesAreNumbered os es xs
    → AreEntriesOf (map (owner_meant t) os) (entries_of es) (form_meant t f).variables
form_entries t os es xs f vs h = subst (λ (l : List (TermId × Fraction)). AreEntriesOf (map (owner_meant t) os) (entries_of es) (map (pair_meant t) l)) vs (numbered_entries t os es xs h)

-- each variable of a form is one of it
variables_all : (t : TableView) (f : Form) (xs : List (TermId × Ratio)) → ((x : Term × Fraction) → Contains (map (pair_meant t) (map pair_view xs)) x → Contains f.variables x)
    → All (λ (p : TermId × Ratio). IsIn t p.0) xs → All (IsVariableOf t f) xs
variables_all t f [] has all = All-nil (IsVariableOf t f)
variables_all t f (x ∷ xs) has all =
    let y = pair_meant t (pair_view x) in
    let ys = map (pair_meant t) (map pair_view xs) in
    All-cons (IsVariableOf t f) x xs (All-head (λ (p : TermId × Ratio). IsIn t p.0) x xs all, has y (members.first y ys))
    (variables_all t f xs (λ z c. has z (members.later y ys z c)) (All-tail (λ (p : TermId × Ratio). IsIn t p.0) x xs all))

pub form_variables : (t : TableView) (f : FormView) (xs : List (TermId × Ratio)) → map pair_view xs ≡ f.variables → All (λ (p : TermId × Ratio). IsIn t p.0) xs
    → All (IsVariableOf t (form_meant t f)) xs
form_variables t f xs vs all =
    variables_all t (form_meant t f) xs (λ x c. subst (λ (l : List (TermId × Fraction)). Contains (map (pair_meant t) l) x) vs c) all

-- the form of an atom
form_among : (t : TableView) (id : TermId) (sides : AtomSides) (f : FormView) → (let o : Option Constraint = Some (constraint_meant t sides) in o) ≡ constraint_of (positive_literal (term_at t id))
    → form_of (constraint_meant t sides) ≡ Ok (form_meant t f) → (ts : List Term) → Contains ts (term_at t id) → IsFormAmong ts (form_meant t f)
form_among t id sides f says has ts there =
    record { atom = term_at t id; there = there; constraint = constraint_meant t sides; says = sym says; has = has }

-- the form of one of the variables
pub variable_at : (t : TableView) (f : Form) (xs : List (TermId × Ratio)) (i : ℕ) (x : TermId × Ratio) → i < length xs → x ≡ get_or xs i x → All (IsVariableOf t f) xs → IsVariableOf t f x
variable_at t f xs i x lt is all = subst (IsVariableOf t f) (sym is) (All-get_or (IsVariableOf t f) xs i x lt all)

-- each is a term of the table
pub all_in : (t : TableView) (f : Form) (xs : List (TermId × Ratio)) → All (IsVariableOf t f) xs → All (λ (p : TermId × Ratio). IsIn t p.0) xs
all_in t f xs all = All-weaker (IsVariableOf t f) (λ (p : TermId × Ratio). IsIn t p.0) (λ p h. h.0) xs all

-- the place of a form comes with what its variables do first
module _ (form : FormView) (os us vs : List (Option TermId)) (a b c : AssignmentView) (xs : List (TermId × Ratio)) (es : List Entry) (are : map pair_view xs ≡ form.variables) (numbered : EntriesAreNumbered us es xs)
    (named : (t : TableView) (f : Form) → TellsOwners t os → All (IsVariableOf t f) xs → GroundLeads t f (ground_of os a) (ground_of us b)) where
  abbrev Summed : Type 0
  Summed = (t : TableView) (f : Form) → AreEntriesOf (map (owner_meant t) us) (entries_of es) f.variables → GroundLeads t f (ground_of us b) (ground_of vs c)

  abbrev SlackFacts : Type 0
  SlackFacts = (t : TableView) → AreVariablesOf t form → TellsOwners t os → GroundLeads t (form_meant t form) (ground_of os a) (ground_of vs c)

  slack_list : Summed → SlackFacts
  slack_list summed t all tells ts n made among h =
      summed t (form_meant t form) (form_entries t us es xs form are numbered) ts n made among
      (named t (form_meant t form) tells (form_variables t form xs are (are_in t xs form are all)) ts n made among h)

  pub slack_comes : (r : Result Slack AtomStop) → ButForMemory Summed r → ButForMemory SlackFacts r
  slack_comes (Ok slack) h = slack_list h
  slack_comes (Err (stops.Wide w)) h = slack_list h
  slack_comes (Err stops.Memory) h = tt

-- so does that of an atom
module _ (t : TableView) (id : TermId) (sides : AtomSides) (f : FormView) (os us : List (Option TermId)) (b c : AssignmentView) (says : (let o : Option Constraint = Some (constraint_meant t sides) in o) ≡ constraint_of (positive_literal (term_at t id)))
    (has : form_of (constraint_meant t sides) ≡ Ok (form_meant t f)) (all : AreVariablesOf t f) (tells : TellsOwners t os) (ts : List Term) (n : ℕ) (es : List (ℕ × ℕ)) (there : Contains ts (term_at t id))
    (before : IsReached ts n es (term_tableau_in t os b)) where
  abbrev Comes : Type 0
  Comes = (t : TableView) → AreVariablesOf t f → TellsOwners t os → GroundLeads t (form_meant t f) (ground_of os b) (ground_of us c)

  abbrev After : Type 0
  After = IsReached ts n es (term_tableau_in t us c)

  pub atom_comes : Comes → After
  atom_comes come = come t all tells ts n es (form_among t id sides f says has ts there) before

  pub atom_stops : (s : AtomStop) (r : Result (Unit {0}) AtomStop) → ButForMemory Comes (let o : Result Slack AtomStop = Err s in o) → IsErrAnd r (λ e. e ≡ s) → ButForMemory After r
  atom_stops s (Ok u) come is = absurd is
  atom_stops s (Err e) come is = subst (λ (x : AtomStop). ButForMemory After (let o : Result (Unit {0}) AtomStop = Err x in o)) (sym is) (by s come)
    where
      by : (s : AtomStop) → ButForMemory Comes (let o : Result Slack AtomStop = Err s in o) → ButForMemory After (let o : Result (Unit {0}) AtomStop = Err s in o)
      by (stops.Wide w) come = atom_comes come
      by stops.Memory come = tt
