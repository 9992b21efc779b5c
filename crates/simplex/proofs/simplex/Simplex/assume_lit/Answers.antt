-- A literal more is held, with its bounds.
use Rattle.std.proofs.Common.{◌≤◌, length, Contains, Option, refl, sym, ◌∙◌, ap, subst}
use Rattle.std.specs.Option.{is_some}
use Rattle.std.proofs.lemmas.Bool.{false≢true}
use Rattle.proof_log.specs.Theories.{TheoryView}
use Rattle.held_literals.proofs.Rooms.{held_more}
use Rattle.simplex_check.proofs.KeptFirst.{keeps_more}
use Rattle.simplex_atoms.specs.declared.slack.Slack.{Slack}
use Rattle.simplex_atoms.specs.Slacks.{slack_in}
use Rattle.simplex_explain.specs.Stated.{stated_at, stated_by}
use Rattle.simplex.specs.Views.{SimplexView, SimplexFits, IsOf, slack_count}
use Rattle.simplex.proofs.Fitting.{HoldsStated, room_for, fits_held, of_kept, no_place, nothing_stated}
use Rattle.simplex.proofs.simplex.Simplex.assume_lit.Goals as goal

pub hold_by-requires-clause-room : goal.hold_by-requires-clause-room
hold_by-requires-clause-room c =
    let s = c.self.inside in
    let l = c.args.lit in
    let v : SimplexView = record {
      theory = s.literals;
      atoms = s.atoms;
      assignment = s.assignment;
      bounds = s.bounds;
      starts = s.starts.items;
    } in
    let there = subst (λ (x : SimplexView). Contains x.theory.watched l.term) (sym c.self.view_is) c.requires.watched in
    let fresh = subst (λ (x : SimplexView). Contains x.theory.held l → ⊥) (sym c.self.view_is) c.requires.new in
    subst (λ (o : Option Slack). length (stated_at o l) ≤ s.bounds.room) (sym c.in-Some.ensures)
    (room_for v c.self.invariant.0 c.marks_are_prefixes.ensures l
    (held_more s.literals.held s.literals.watched l c.are_of_watched_terms.ensures there fresh))

pub invariant_of-self : goal.invariant_of-self
invariant_of-self c =
    let s = c.self.inside in
    let l = c.args.lit in
    let v : SimplexView = record {
      theory = s.literals;
      atoms = s.atoms;
      assignment = s.assignment;
      bounds = s.bounds;
      starts = s.starts.items;
    } in
    let stated : HoldsStated s.bounds c.hold_by.new.bounds (stated_by s.atoms.slack_list l) =
    subst (λ (o : Option Slack). HoldsStated s.bounds c.hold_by.new.bounds (stated_at o l)) c.in-Some.ensures
    (record { held = c.hold_by.ensures.held; variables = c.hold_by.ensures.variables; room = c.hold_by.ensures.room }) in (
      subst (λ (x : TheoryView). SimplexFits (record { theory = x; atoms = s.atoms; assignment = s.assignment; bounds = c.hold_by.new.bounds; starts = s.starts.items }))
          (sym c.hold.ensures) (fits_held v c.self.invariant.0 c.marks_are_prefixes.ensures l c.hold_by.new.bounds stated),
      c.self.invariant.1 ∙ ap (λ (x : TheoryView). slack_count s.atoms.slack_list x.watched) (sym c.hold.ensures),
      keeps_more s.kept s.bounds.held c.hold_by.new.bounds.held s.assignment.values c.hold_by.ensures.more c.self.invariant.2,
    )

pub invariant_of-self-in_default : goal.invariant_of-self-in_default
invariant_of-self-in_default c =
    let s = c.self.inside in
    let l = c.args.lit in
    let v : SimplexView = record {
      theory = s.literals;
      atoms = s.atoms;
      assignment = s.assignment;
      bounds = s.bounds;
      starts = s.starts.items;
    } in
    let none = no_place c.slack.result (slack_in s.atoms.slack_list l.term) c.slack.ensures c.in_default.not-Some in
    let stated : HoldsStated s.bounds s.bounds (stated_by s.atoms.slack_list l) =
    subst (λ (o : Option Slack). HoldsStated s.bounds s.bounds (stated_at o l)) (sym none) (nothing_stated s.bounds) in (
      subst (λ (x : TheoryView). SimplexFits (record { theory = x; atoms = s.atoms; assignment = s.assignment; bounds = s.bounds; starts = s.starts.items }))
          (sym c.hold.ensures) (fits_held v c.self.invariant.0 c.marks_are_prefixes.ensures l s.bounds stated),
      c.self.invariant.1 ∙ ap (λ (x : TheoryView). slack_count s.atoms.slack_list x.watched) (sym c.hold.ensures),
      c.self.invariant.2,
    )

pub returns-in-Some-clause-with : goal.returns-in-Some-clause-with
returns-in-Some-clause-with c t =
    let s = c.self.inside in
    let v : SimplexView = record {
      theory = s.literals;
      atoms = s.atoms;
      assignment = s.assignment;
      bounds = s.bounds;
      starts = s.starts.items;
    } in
    let w : SimplexView = record { theory = c.hold.new.self; atoms = s.atoms; assignment = s.assignment; bounds = c.hold_by.new.bounds; starts = s.starts.items } in
    subst (λ (x : SimplexView). IsOf x t → IsOf w t) c.self.view_is
    (of_kept t v w refl refl c.hold_by.ensures.variables (ap (λ (x : TheoryView). x.watched) c.hold.ensures))

pub returns-in-Some-clause-plain : goal.returns-in-Some-clause-plain
returns-in-Some-clause-plain c none = absurd (false≢true (sym (ap is_some (c.in-Some.ensures ∙ ap (λ (x : SimplexView). slack_in x.atoms.slack_list c.args.lit.term) c.self.view_is ∙ none))))
