-- What watching an atom does.
use Rattle.std.proofs.Common.{◌≡◌, ℕ, ◌≤◌, true, List, length, Option, Some, None, Result, Ok, Err, refl, sym, ap, subst, arith, true≢false}
use Rattle.std.specs.Prelude.{IfErr, IsErrAnd, IsSome}
use Rattle.std.specs.Option.{is_some}
use Rattle.std.proofs.lemmas.List.{length-append}
use Rattle.spec_simplex.specs.Constraints.{Constraint, constraint_of, form_of}
use Rattle.term_core.specs.declared.ids.TermId.{TermId}
use Rattle.term_core.specs.Tables.{TableView, IsIn, term_at, positive_literal}
use Rattle.linear_form.specs.Meant.{FormView, form_meant}
use Rattle.simplex_bounds.specs.Held.{BoundsView}
use Rattle.simplex_check.specs.Assignments.{AssignmentView}
use Rattle.simplex_atoms.specs.declared.slack.Slack.{Slack}
use Rattle.simplex_atoms.specs.declared.reading.AtomSides.{AtomSides}
use Rattle.simplex_atoms.specs.declared.stop.AtomStop.{AtomStop}
use Rattle.simplex_atoms.specs.declared.stop.AtomStop.TheVariants as stops
use Rattle.simplex_atoms.specs.Owners.{AreOwnedOnce, AreOwnersIn}
use Rattle.simplex_atoms.specs.Slacks.{relation_meant, IsFormOf, slack_in}
use Rattle.simplex_atoms.specs.Atoms.{AtomsView, ground_of, setting_of, AreCounted, IsGrounded, GroundGrows, AreSums, IsSlackOf, AtomsFit}
use Rattle.simplex_atoms.specs.Sums.{Sum}
use Rattle.simplex_atoms.specs.Watching.{constraint_meant, Forms, OnAtomOverflow, OverflowsForm, OverflowsAtom, in_form, in_place, IsWatched}
use Rattle.simplex_atoms.proofs.Fitting.{slacked_on}

-- atoms with these parts
abbrev pub atoms_of : List (Option TermId) → List Sum → List (ℕ × Slack) → AtomsView
atoms_of os sums slack_list = record { owners = os; sums = sums; slack_list = slack_list }

-- more variables, and places as before
pub right_on : (t : TableView) (os us : List (Option TermId)) (ss rs : List Sum) (old new : List (ℕ × Slack)) (b c : AssignmentView) (bounds more : BoundsView) → AtomsFit t (atoms_of os ss old) b bounds
    → new ≡ old → AreSums (ground_of us c) rs → AreCounted (ground_of us c) → (IsGrounded (ground_of os b) → IsGrounded (ground_of us c)) → GroundGrows (ground_of os b) (ground_of us c) → AreOwnersIn t us → AreOwnedOnce us → bounds.variables ≤ more.variables → more.variables ≤ c.tableau.variables
    → AtomsFit t (atoms_of us rs new) c more
right_on t os us ss rs old new b c bounds more r same sums counted grounded grows there once le within = record {
  counted = counted;
  within = within;
  owners_in = there;
  once = once;
  grounded = grounded r.grounded;
  sums = sums;
  are_slacked = λ id slack e.
      slacked_on t (ground_of os b) (ground_of us c) bounds.variables more.variables old grows le r.are_slacked id slack
      (subst (λ (l : List (ℕ × Slack)). slack_in l id ≡ Some slack) same e);
}

-- no variable went
pub reach_stays : (os us : List (Option TermId)) (b c : AssignmentView) (n : ℕ) → AreCounted (ground_of os b) → AreCounted (ground_of us c) → GroundGrows (ground_of os b) (ground_of us c) → n ≤ b.tableau.variables → n ≤ c.tableau.variables
reach_stays os us b c n x y grows le =
    omega (arith, x, y, le, ap (λ (l : List (Option TermId)). length l) grows.owners, length-append os grows.more_owners)

-- the slack variable of an atom that came
pub slacked_now : (t : TableView) (us : List (Option TermId)) (c : AssignmentView) (n reach : ℕ) (id : TermId) (sides : AtomSides) (f : FormView) (slack : Slack) → IsIn t id
    → (let o : Option Constraint = Some (constraint_meant t sides) in o) ≡ constraint_of (positive_literal (term_at t id)) → form_of (constraint_meant t sides) ≡ Ok (form_meant t f) → slack.kind ≡ sides.kind
    → IsFormOf (setting_of t (ground_of us c)) slack (form_meant t f) → n ≡ length us → reach ≡ n → IsSlackOf (setting_of t (ground_of us c)) reach id slack
slacked_now t us c n reach id sides f slack there says has kind is count all = record {
  is_in = there;
  is = record {
    constraint = constraint_meant t sides;
    says = sym says;
    kind = ap relation_meant (sym kind);
    form = form_meant t f;
    has = has;
    is = is;
  };
  reached = omega (arith, is.variable, count, all);
}

-- why there is no place

module _ (t : TableView) (owners : List (Option TermId)) (b : AssignmentView) (id : TermId) (sides : AtomSides)
    (says : (let o : Option Constraint = Some (constraint_meant t sides) in o) ≡ constraint_of (positive_literal (term_at t id))) where
  pub form_wide : (s : AtomStop) (r : Result (Unit {0}) AtomStop) → Forms t (form_of (constraint_meant t sides)) (Err s) → IsErrAnd r (λ e. e ≡ s) → IfErr r (OnAtomOverflow (OverflowsAtom t owners b id))
  form_wide s (Ok u) h is = absurd is
  form_wide s (Err e) h is = subst (OnAtomOverflow (OverflowsAtom t owners b id)) (sym is) (by s h)
    where
      by : (s : AtomStop) → Forms t (form_of (constraint_meant t sides)) (Err s) → OnAtomOverflow (OverflowsAtom t owners b id) s
      by (stops.Wide w) h = in_form (constraint_meant t sides) (sym says) h.0 h.1 h.2
      by stops.Memory h = tt

  pub slack_wide : (f : FormView) (s : AtomStop) (r : Result (Unit {0}) AtomStop) → form_of (constraint_meant t sides) ≡ Ok (form_meant t f)
      → OnAtomOverflow (λ o. (t : TableView) → OverflowsForm t owners b (form_meant t f) o) s → IsErrAnd r (λ e. e ≡ s) → IfErr r (OnAtomOverflow (OverflowsAtom t owners b id))
  slack_wide f s (Ok u) has h is = absurd is
  slack_wide f s (Err e) has h is = subst (OnAtomOverflow (OverflowsAtom t owners b id)) (sym is) (by s h)
    where
      by : (s : AtomStop) → OnAtomOverflow (λ o. (t : TableView) → OverflowsForm t owners b (form_meant t f) o) s → OnAtomOverflow (OverflowsAtom t owners b id) s
      by (stops.Wide w) h = in_place (constraint_meant t sides) (sym says) (form_meant t f) has (h t)
      by stops.Memory h = tt

-- what has a place says something
pub watched_before : (t : TableView) (a : AtomsView) (b : AssignmentView) (bounds : BoundsView) (id : TermId) → AtomsFit t a b bounds → is_some (slack_in a.slack_list id) ≡ true
    → IsWatched (slack_in a.slack_list id) (constraint_of (positive_literal (term_at t id)))
watched_before t a b bounds id r there = by (slack_in a.slack_list id) refl there
  where
    by : (o : Option Slack) → slack_in a.slack_list id ≡ o → is_some o ≡ true → IsWatched o (constraint_of (positive_literal (term_at t id)))
    by None e h = absurd (true≢false (sym h))
    by (Some slack) e h = subst (λ (c : Option Constraint). IsSome c) (sym (r.are_slacked id slack e).is.says) refl
