-- How the place of a form is made.
use Rattle.std.proofs.Common.{◌≡◌, ℕ, ◌<◌, inl, inr, List, [], ◌∷◌, ◌++◌, length, map, Option, Some, None, Result, Ok, Err, refl, sym, ◌∙◌, ap, subst, arith}
use Rattle.std.specs.Prelude.{IfOk, IfErr, IsErrAnd}
use Rattle.std.proofs.lemmas.List.{length-append}
use Rattle.spec_numbers.specs.Fractions.{Fraction, opposite}
use Rattle.spec_numbers.specs.Bounds.{Overflow, divided}
use Rattle.spec_arithmetic.specs.Forms.{variables_value}
use Rattle.spec_causes.specs.TermTableau.{AreEntriesOf}
use Rattle.spec_causes.specs.Reached.{IsLonger}
use Rattle.spec_tableaux.specs.Spaces.{Space, as_space}
use Rattle.spec_tableaux.specs.Rows.{Entry as RowEntry, Row, Holds, Solves, sum_of}
use Rattle.spec_tableaux.specs.SolvedForms.{AllVariables}
use Rattle.spec_tableaux.specs.Numbers.{Number, numbers, fractions}
use Rattle.spec_tableaux.proofs.Numbers.{numbers_are_ordered_field}
use Rattle.spec_tableaux.proofs.Signs.{sum_zero_right}
use Rattle.ratio128.specs.declared.ratio.Ratio.{Ratio}
use Rattle.ratio128.specs.declared.wide.Wide.{Wide}
use Rattle.ratio128.specs.Meant.{fraction, overflow}
use Rattle.term_core.specs.declared.ids.TermId.{TermId}
use Rattle.term_core.specs.Tables.{TableView, term_at}
use Rattle.linear_form.specs.Meant.{FormView, form_meant, pair_meant}
use Rattle.linear_form.specs.Entries.{pair_view}
use Rattle.tableau.specs.declared.entries.Entry.{Entry}
use Rattle.tableau.specs.declared.stops.RowStop.{RowStop}
use Rattle.tableau.specs.declared.stops.RowStop.TheVariants as rows
use Rattle.tableau.specs.Numbers.{number_of}
use Rattle.tableau.specs.Entries.{entry_of, entries_of}
use Rattle.tableau.specs.Views as views
use Rattle.simplex_check.specs.Assignments.{AssignmentView, assignment_with_sum, state_of}
use Rattle.spec_tableaux.specs.BoundsOverflows.{OverflowsNew}
use Rattle.simplex_atoms.specs.declared.slack.Comparison.{Comparison}
use Rattle.simplex_atoms.specs.declared.slack.Slack.{Slack}
use Rattle.simplex_atoms.specs.declared.stop.AtomStop.{AtomStop}
use Rattle.simplex_atoms.specs.declared.stop.AtomStop.TheVariants as stops
use Rattle.simplex_atoms.specs.TermTableauViews.{owner_meant}
use Rattle.simplex_atoms.specs.Stops.{of_row}
use Rattle.simplex_atoms.specs.Owners.{owner_at}
use Rattle.simplex_atoms.specs.Slacks.{IsSign, IsFormOf}
use Rattle.simplex_atoms.specs.Atoms.{Ground, ground_of, setting_of, GroundGrows, IsMultiple}
use Rattle.simplex_atoms.specs.Watching.{EntriesAreNumbered, OnAtomOverflow, OverflowsForm, bound, row}
use Rattle.simplex_atoms.specs.Made as made
use Rattle.simplex_atoms.specs.Made.{IsMade, Covers, IsOnEntry, IsSingle, OverflowsEntries}
use Rattle.simplex_atoms.proofs.Numbered.{numbered_kept, numbered_value, numbered_entries}

-- minus a number, by its fraction
pub opposite_of : (a b : Ratio) → number_of b ≡ numbers.opposite (number_of a) → fraction b ≡ opposite (fraction a)
unfolding numbers fractions
opposite_of a b e = ap (λ (n : Number). n.fraction) e

-- why a place is not made

pub wide_as : (x y d : Fraction) (r : Result Slack Wide) (w : Wide) → x ≡ y → divided x d ≡ Err (overflow w) → IsErrAnd r (λ e. e ≡ w) → IfErr r (λ u. divided y d ≡ Err (overflow u))
wide_as x y d (Ok p) w e h is = absurd is
wide_as x y d (Err v) w e h is = subst (λ (u : Wide). divided y d ≡ Err (overflow u)) (sym is) (ap (λ z. divided z d) (sym e) ∙ h)

pub row_overflowing : (b c : AssignmentView) (constant : Ratio) (es : List Entry) (s : RowStop) (r : Result ℕ AtomStop) → c ≡ b
    → views.OnRowOverflow (OverflowsNew (state_of b) (entries_of es)) s → IsErrAnd r (λ e. e ≡ of_row s) → IfErr r (OnAtomOverflow (OverflowsEntries c constant es))
row_overflowing b c constant es s (Ok y) e h is = absurd is
row_overflowing b c constant es s (Err a) e h is = subst (OnAtomOverflow (OverflowsEntries c constant es)) (sym is) (by s h)
  where
    by : (s : RowStop) → views.OnRowOverflow (OverflowsNew (state_of b) (entries_of es)) s → OnAtomOverflow (OverflowsEntries c constant es) (of_row s)
    by (rows.Wide w) h = made.row (subst (λ (x : AssignmentView). OverflowsNew (state_of x) (entries_of es) (overflow w)) (sym e) h)
    by rows.Memory h = tt

pub stop_wide : (P : Overflow → Type 0) (s : AtomStop) (r : Result Slack AtomStop) → OnAtomOverflow P s → IsErrAnd r (λ e. e ≡ s) → IfErr r (OnAtomOverflow P)
stop_wide P s (Ok p) h is = absurd is
stop_wide P s (Err e) h is = subst (OnAtomOverflow P) (sym is) h

pub variable_overflows : (b : AssignmentView) (constant : Ratio) (es : List Entry) (e : Entry) (w : Wide) (r : Result Slack AtomStop) → es ≡ e ∷ []
    → divided (opposite (fraction constant)) (fraction e.coefficient) ≡ Err (overflow w) → IsErrAnd r (λ s. s ≡ stops.Wide w) → IfErr r (OnAtomOverflow (OverflowsEntries b constant es))
variable_overflows b constant es e w (Ok p) is h k = absurd k
variable_overflows b constant es e w (Err a) is h k = subst (OnAtomOverflow (OverflowsEntries b constant es)) (sym k) (made.bound e is h)

-- a row

solves_last : {A V : Type 0} (s : Space A V) (v : ℕ → V) (rs : List (Row A)) (r : Row A) → Solves s v (rs ++ r ∷ []) → Holds s v r
solves_last s v [] r h = h.0
solves_last s v (q ∷ rs) r h = solves_last s v rs r h.1

pub row_is_sum : (os us : List (Option TermId)) (b c : AssignmentView) (es : List (RowEntry Number)) (y : ℕ) → length os ≡ b.tableau.variables → us ≡ os ++ None ∷ [] → c ≡ assignment_with_sum b es
    → y ≡ b.tableau.variables → IsMultiple (ground_of us c) es numbers.one y
row_is_sum os us b c es y count e f is = record {
  variable = omega (arith, is, count, ap (λ (l : List (Option TermId)). length l) e, length-append os (None ∷ []));
  sum = λ v h.
      let S : AssignmentView → Type 0 = λ x. Solves (as_space numbers) v x.tableau.listed in
      let last = solves_last (as_space numbers) v b.tableau.listed (record { basic = b.tableau.variables; entries = es }) (subst S f h) in
      sym last.is ∙ ap v (sym is) ∙ sym (numbers_are_ordered_field.product_one (v y));
}

-- a place on a variable

pub variable_covers : (os : List (Option TermId)) (b : AssignmentView) (es : List Entry) (e : Entry) (p : Slack) → length os ≡ b.tableau.variables
    → AllVariables (λ y. y < b.tableau.variables) (entries_of es) → es ≡ e ∷ [] → p.variable ≡ e.variable → p.factor ≡ e.coefficient → Covers (ground_of os b) es p
variable_covers os b es e p count over is y k = record {
  variable =
      let Over : List Entry → Type 0 = λ xs. AllVariables (λ y. y < b.tableau.variables) (entries_of xs) in
      let first = (subst Over is over).0 in omega (arith, first, y, count);
  sum = λ v h.
      ap (λ (xs : List Entry). sum_of (as_space numbers) v (entries_of xs)) is
      ∙ sum_zero_right numbers numbers_are_ordered_field _
      ∙ (λ i. numbers.times (number_of (sym k i)) (v (sym y i)));
}

-- where no one entry is alone, none is by its meaning
pub longer_entries : (es : List Entry) → IsSingle es None → IsLonger (entries_of es)
longer_entries [] none g e z = cc
longer_entries (x ∷ []) none g e z = none x refl (ap (λ (k : RowEntry Number). numbers.is_zero k.coefficient) (only x g e) ∙ z)
  where
    only : (x : Entry) (g : RowEntry Number) → entries_of (x ∷ []) ≡ g ∷ [] → entry_of x ≡ g
    only x g e = cc
longer_entries (x ∷ y ∷ es) none g e z = cc

-- a place on a row, by the result of a call
pub row_on : (es : List Entry) (r : Result Slack AtomStop) → IfOk r (λ p. IsSign (number_of p.factor)) → IfOk r (IsOnEntry es)
row_on es (Ok p) h = inr h
row_on es (Err s) h = tt

-- an entry that is alone is that of the one variable
one_of : (os : List (Option TermId)) (e : Entry) (xs : List (TermId × Ratio)) → EntriesAreNumbered os (e ∷ []) xs
    → (x : TermId × Ratio) × (xs ≡ x ∷ []) × (e.coefficient ≡ x.1) × (owner_at os e.variable ≡ Some x.0)
one_of os e [] h = absurd h
one_of os e (x ∷ []) h = (x, refl, h.0.coefficient, h.0.owner)
one_of os e (x ∷ y ∷ xs) h = absurd h.1

-- a variable that stands for no term is not that of an entry
unit_of : (os : List (Option TermId)) (es : List Entry) (xs : List (TermId × Ratio)) (p : Slack) → EntriesAreNumbered os es xs → IsOnEntry es p → owner_at os p.variable ≡ None
    → IsSign (number_of p.factor)
unit_of os es xs p numbered (inr u) none = u
unit_of os es xs p numbered (inl (e, is, y)) none =
    let one = one_of os e xs (subst (λ l. EntriesAreNumbered os l xs) is numbered) in
    absurd (none_some one.0.0 (sym none ∙ ap (owner_at os) y ∙ one.3))
  where
    none_some : (id : TermId) → (let o : Option TermId = None in o) ≡ Some id → ⊥
    none_some id k = cc

-- a place is that of its form
pub formed : (t : TableView) (os : List (Option TermId)) (b : AssignmentView) (g : Ground) (f : FormView) (xs : List (TermId × Ratio)) (es : List Entry) (kind : Comparison) (constant : Ratio) (p : Slack)
    → map pair_view xs ≡ f.variables → fraction constant ≡ f.constant → EntriesAreNumbered os es xs → GroundGrows (ground_of os b) g → IsMade kind constant p → Covers g es p → IsOnEntry es p
    → IsFormOf (setting_of t g) p (form_meant t f)
formed t os b g f xs es kind constant p vs k numbered grows m covers on =
    let all : EntriesAreNumbered g.owners es xs = subst (λ l. EntriesAreNumbered l es xs) (sym grows.owners) (numbered_kept os grows.more_owners es xs numbered) in
    record {
      factor = m.factor;
      bound = m.bound;
      variable = covers.variable;
      unit = unit_of g.owners es xs p all on;
      constant = sym k ∙ ap fraction (sym m.is_constant);
      value = λ n v o h.
          ap (λ (l : List (TermId × Fraction)). variables_value (λ u. (n u).fraction) (map (pair_meant t) l)) (sym vs)
          ∙ numbered_value t g.owners n v es xs all o ∙ ap (λ (x : Number). x.fraction) (covers.sum v h);
    }

-- what the place of a form comes to
pub form_overflowing : (os : List (Option TermId)) (b : AssignmentView) (g : Ground) (f : FormView) (xs : List (TermId × Ratio)) (es : List Entry) (constant : Ratio) (s : AtomStop)
    → map pair_view xs ≡ f.variables → fraction constant ≡ f.constant → EntriesAreNumbered os es xs → GroundGrows (ground_of os b) g
    → OnAtomOverflow (OverflowsEntries g.assignment constant es) s → OnAtomOverflow (λ o. (t : TableView) → OverflowsForm t g.owners g.assignment (form_meant t f) o) s
form_overflowing os b g f xs es constant stops.Memory vs k numbered grows h = tt
form_overflowing os b g f xs es constant (stops.Wide w) vs k numbered grows (made.row h) = λ t.
    let all : EntriesAreNumbered g.owners es xs = subst (λ l. EntriesAreNumbered l es xs) (sym grows.owners) (numbered_kept os grows.more_owners es xs numbered) in
    row (entries_of es) (subst (λ (l : List (TermId × Fraction)). AreEntriesOf (map (owner_meant t) g.owners) (entries_of es) (map (pair_meant t) l)) vs (numbered_entries t g.owners es xs all)) h
form_overflowing os b g f xs es constant (stops.Wide w) vs k numbered grows (made.bound e is h) = λ t.
    let one = one_of os e xs (subst (λ l. EntriesAreNumbered os l xs) is numbered) in
    bound (term_at t one.0.0) (fraction e.coefficient)
    (ap (λ (l : List (TermId × Fraction)). map (pair_meant t) l) (sym vs ∙ ap (λ l. map pair_view l) one.1) ∙ (λ i. (term_at t one.0.0, fraction (sym one.2 i)) ∷ []))
    (ap (λ z. divided (opposite z) (fraction e.coefficient)) (sym k) ∙ h)

-- the same by the result of a call

pub result_formed : (os : List (Option TermId)) (b : AssignmentView) (g : Ground) (f : FormView) (xs : List (TermId × Ratio)) (es : List Entry) (kind : Comparison) (constant : Ratio) (r : Result Slack AtomStop)
    → map pair_view xs ≡ f.variables → fraction constant ≡ f.constant → EntriesAreNumbered os es xs → GroundGrows (ground_of os b) g → IfOk r (IsMade kind constant) → IfOk r (Covers g es) → IfOk r (IsOnEntry es)
    → IfOk r (λ p. (t : TableView) → IsFormOf (setting_of t g) p (form_meant t f))
result_formed os b g f xs es kind constant (Ok p) vs k numbered grows m covers on = λ t. formed t os b g f xs es kind constant p vs k numbered grows m covers on
result_formed os b g f xs es kind constant (Err s) vs k numbered grows m covers on = tt

pub result_overflows : (os : List (Option TermId)) (b : AssignmentView) (g : Ground) (f : FormView) (xs : List (TermId × Ratio)) (es : List Entry) (constant : Ratio) (r : Result Slack AtomStop)
    → map pair_view xs ≡ f.variables → fraction constant ≡ f.constant → EntriesAreNumbered os es xs → GroundGrows (ground_of os b) g
    → IfErr r (OnAtomOverflow (OverflowsEntries g.assignment constant es)) → IfErr r (OnAtomOverflow (λ o. (t : TableView) → OverflowsForm t g.owners g.assignment (form_meant t f) o))
result_overflows os b g f xs es constant (Ok p) vs k numbered grows h = tt
result_overflows os b g f xs es constant (Err s) vs k numbered grows h = form_overflowing os b g f xs es constant s vs k numbered grows h
