-- A place comes, or none does.
use Rattle.std.proofs.Common.{ℕ, refl, sym, ◌∙◌, ap, subst, arith}
use Rattle.std.specs.Option.{is_some}
use Rattle.spec_causes.specs.Reached.{IsReached}
use Rattle.simplex_atoms.specs.Atoms.{AtomsView, ground_of, setting_of, AtomsFit}
use Rattle.simplex_atoms.specs.TermTableauViews.{term_tableau_in}
use Rattle.simplex_atoms.proofs.Growth.{grows_same}
use Rattle.simplex_atoms.proofs.Fitting.{slacked_more}
use Rattle.simplex_atoms.proofs.Watched.{atoms_of, right_on, reach_stays, slacked_now, form_wide, slack_wide, watched_before}
use Rattle.simplex_atoms.proofs.Coming.{atom_comes, atom_stops}
use Rattle.simplex_atoms.proofs.atoms.Atoms.watch.Goals as goal

pub returns-then-is_some-clause-grows : goal.returns-then-is_some-clause-grows
returns-then-is_some-clause-grows c = grows_same c.args.self.now.owners _ c.args.assignment.now _ refl refl

pub returns-then-is_some-clause-watched : goal.returns-then-is_some-clause-watched
returns-then-is_some-clause-watched c =
    watched_before c.args.table.now c.args.self.now c.args.assignment.now c.args.bounds.now c.args.id c.requires.right (ap is_some (sym c.slack.ensures) ∙ sym c.if-is_some.ensures)

pub returns-in_default-clause-grows : goal.returns-in_default-clause-grows
returns-in_default-clause-grows c = grows_same c.args.self.now.owners _ c.args.assignment.now _ refl refl

pub returns-in_err-form-clause-grows : goal.returns-in_err-form-clause-grows
returns-in_err-form-clause-grows c = grows_same c.args.self.now.owners _ c.args.assignment.now _ refl refl

pub returns-in_err-form-clause-wide : goal.returns-in_err-form-clause-wide
returns-in_err-form-clause-wide c =
    form_wide c.args.table.now c.args.self.now.owners c.args.assignment.now c.args.id c.in-Some.sides c.in-Some.ensures.means c.in_err-form.field-0.0 c.from_residual.result
    c.in_err-form.ensures.exact c.from_residual.ensures.1

pub returns-in_err-slack-clause-right : goal.returns-in_err-slack-clause-right
returns-in_err-slack-clause-right c =
    let t = c.args.table.now in
    let os = c.self.inside.meanings.owners.list in
    let us = c.slack_of-made.new.meanings.owners.list in
    let ss = c.self.inside.meanings.sums.list in
    let rs = c.slack_of-made.new.meanings.sums.list in
    let b = c.args.assignment.now in
    let Right : AtomsView → Type 0 = λ a. AtomsFit t a b c.args.bounds.now in
    let right : Right (atoms_of os ss c.self.inside.slacks.entries) = subst Right (sym c.self.view_is) c.requires.right in
    right_on t os us ss rs c.self.inside.slacks.entries c.self.inside.slacks.entries b c.slack_of-made.new.assignment c.args.bounds.now c.args.bounds.now right refl c.slack_of-made.ensures.grown.fit.sums
    c.slack_of-made.ensures.grown.fit.counted c.slack_of-made.ensures.grown.grounded c.slack_of-made.ensures.grown.grows (c.slack_of-made.ensures.grown.there t c.in_ok-form.ensures.there right.owners_in) c.are_once.ensures (omega arith)
    (reach_stays os us b c.slack_of-made.new.assignment c.args.bounds.now.variables right.counted c.slack_of-made.ensures.grown.fit.counted c.slack_of-made.ensures.grown.grows right.within)

pub returns-in_err-slack-clause-wide : goal.returns-in_err-slack-clause-wide
returns-in_err-slack-clause-wide c =
    slack_wide c.args.table.now c.slack_of-made.new.meanings.owners.list c.slack_of-made.new.assignment c.args.id c.in-Some.sides c.in-Some.ensures.means c.in_ok-form.form c.in_err-slack.field-0.0
    c.from_residual-in_err-slack.result c.in_ok-form.ensures.exact c.in_err-slack.ensures.wide c.from_residual-in_err-slack.ensures.1

pub returns-in_err-reach-clause-right : goal.returns-in_err-reach-clause-right
returns-in_err-reach-clause-right c =
    let t = c.args.table.now in
    let os = c.self.inside.meanings.owners.list in
    let us = c.slack_of-made.new.meanings.owners.list in
    let ss = c.self.inside.meanings.sums.list in
    let rs = c.slack_of-made.new.meanings.sums.list in
    let b = c.args.assignment.now in
    let Right : AtomsView → Type 0 = λ a. AtomsFit t a b c.args.bounds.now in
    let right : Right (atoms_of os ss c.self.inside.slacks.entries) = subst Right (sym c.self.view_is) c.requires.right in
    right_on t os us ss rs c.self.inside.slacks.entries c.self.inside.slacks.entries b c.slack_of-made.new.assignment c.args.bounds.now c.reach.new.bounds right refl c.slack_of-made.ensures.grown.fit.sums
    c.slack_of-made.ensures.grown.fit.counted c.slack_of-made.ensures.grown.grounded c.slack_of-made.ensures.grown.grows (c.slack_of-made.ensures.grown.there t c.in_ok-form.ensures.there right.owners_in) c.are_once.ensures c.reach.ensures.kept.variables
    (omega (arith, c.reach.ensures.within, c.len.ensures, c.slack_of-made.ensures.grown.fit.counted))

pub returns-in_err-insert-clause-right : goal.returns-in_err-insert-clause-right
returns-in_err-insert-clause-right c =
    let t = c.args.table.now in
    let os = c.self.inside.meanings.owners.list in
    let us = c.slack_of-made.new.meanings.owners.list in
    let ss = c.self.inside.meanings.sums.list in
    let rs = c.slack_of-made.new.meanings.sums.list in
    let b = c.args.assignment.now in
    let Right : AtomsView → Type 0 = λ a. AtomsFit t a b c.args.bounds.now in
    let right : Right (atoms_of os ss c.self.inside.slacks.entries) = subst Right (sym c.self.view_is) c.requires.right in
    right_on t os us ss rs c.self.inside.slacks.entries c.insert.new.self.entries b c.slack_of-made.new.assignment c.args.bounds.now c.reach.new.bounds right c.in_err-insert.ensures.err c.slack_of-made.ensures.grown.fit.sums
    c.slack_of-made.ensures.grown.fit.counted c.slack_of-made.ensures.grown.grounded c.slack_of-made.ensures.grown.grows (c.slack_of-made.ensures.grown.there t c.in_ok-form.ensures.there right.owners_in) c.are_once.ensures c.reach.ensures.kept.variables
    (omega (arith, c.reach.ensures.within, c.len.ensures, c.slack_of-made.ensures.grown.fit.counted))

pub returns-clause-right : goal.returns-clause-right
returns-clause-right c =
    let t = c.args.table.now in
    let os = c.self.inside.meanings.owners.list in
    let us = c.slack_of-made.new.meanings.owners.list in
    let ss = c.self.inside.meanings.sums.list in
    let rs = c.slack_of-made.new.meanings.sums.list in
    let b = c.args.assignment.now in
    let d = c.slack_of-made.new.assignment in
    let slack = c.in_ok-slack.slack in
    let Right : AtomsView → Type 0 = λ a. AtomsFit t a b c.args.bounds.now in
    let right : Right (atoms_of os ss c.self.inside.slacks.entries) = subst Right (sym c.self.view_is) c.requires.right in
    let on : AtomsFit t (atoms_of us rs c.self.inside.slacks.entries) d c.reach.new.bounds =
    right_on t os us ss rs c.self.inside.slacks.entries c.self.inside.slacks.entries b d c.args.bounds.now c.reach.new.bounds right refl c.slack_of-made.ensures.grown.fit.sums
    c.slack_of-made.ensures.grown.fit.counted c.slack_of-made.ensures.grown.grounded c.slack_of-made.ensures.grown.grows (c.slack_of-made.ensures.grown.there t c.in_ok-form.ensures.there right.owners_in) c.are_once.ensures c.reach.ensures.kept.variables
    (omega (arith, c.reach.ensures.within, c.len.ensures, c.slack_of-made.ensures.grown.fit.counted)) in
    let now = slacked_now t us d c.len.result c.reach.new.bounds.variables c.args.id c.in-Some.sides c.in_ok-form.form slack c.requires.there c.in-Some.ensures.means c.in_ok-form.ensures.exact
    c.in_ok-slack.ensures.kind (c.in_ok-slack.ensures.is t) c.len.ensures c.in_ok-reach.ensures.ok in
    record {
      counted = on.counted;
      within = on.within;
      owners_in = on.owners_in;
      once = on.once;
      grounded = on.grounded;
      sums = on.sums;
      are_slacked =
          slacked_more (setting_of t (ground_of us d)) c.reach.new.bounds.variables c.self.inside.slacks.entries c.insert.new.self.entries c.args.id slack on.are_slacked now
          (λ (q : ℕ). c.in_ok-insert.ensures.updates.0 q);
    }

pub returns-in_err-slack-clause-came : goal.returns-in_err-slack-clause-came
returns-in_err-slack-clause-came c ts n es there h =
    let t = c.args.table.now in
    let b = c.args.assignment.now in
    let os = c.self.inside.meanings.owners.list in
    let right : AtomsFit t (atoms_of os c.self.inside.meanings.sums.list c.self.inside.slacks.entries) b c.args.bounds.now =
    subst (λ (a : AtomsView). AtomsFit t a b c.args.bounds.now) (sym c.self.view_is) c.requires.right in
    let before : IsReached ts n es (term_tableau_in t os b) = subst (λ (a : AtomsView). IsReached ts n es (term_tableau_in t a.owners b)) (sym c.self.view_is) h in
    atom_stops t c.args.id c.in-Some.sides c.in_ok-form.form os c.slack_of-made.new.meanings.owners.list b c.slack_of-made.new.assignment c.in-Some.ensures.means c.in_ok-form.ensures.exact c.in_ok-form.ensures.there
    (c.ids_are_unique.ensures, right.owners_in) ts n es there before c.in_err-slack.field-0.0 c.from_residual-in_err-slack.result c.in_err-slack.ensures.came c.from_residual-in_err-slack.ensures.1

pub returns-clause-came : goal.returns-clause-came
returns-clause-came c ts n es there h =
    let t = c.args.table.now in
    let b = c.args.assignment.now in
    let os = c.self.inside.meanings.owners.list in
    let right : AtomsFit t (atoms_of os c.self.inside.meanings.sums.list c.self.inside.slacks.entries) b c.args.bounds.now =
    subst (λ (a : AtomsView). AtomsFit t a b c.args.bounds.now) (sym c.self.view_is) c.requires.right in
    let before : IsReached ts n es (term_tableau_in t os b) = subst (λ (a : AtomsView). IsReached ts n es (term_tableau_in t a.owners b)) (sym c.self.view_is) h in
    atom_comes t c.args.id c.in-Some.sides c.in_ok-form.form os c.slack_of-made.new.meanings.owners.list b c.slack_of-made.new.assignment c.in-Some.ensures.means c.in_ok-form.ensures.exact c.in_ok-form.ensures.there
    (c.ids_are_unique.ensures, right.owners_in) ts n es there before c.in_ok-slack.ensures.came
