-- A term is watched, with room for the bounds of its literals.
use Rattle.std.proofs.Common.{◌≡◌, ◌++◌, ◌∷◌, [], refl, ap, sym, subst, ◌∙◌, arith}
use Rattle.spec_causes.specs.Counts.{counted}
use Rattle.term_core.specs.Tables.{term_at}
use Rattle.proof_log.specs.Theories.{TheoryView}
use Rattle.simplex_explain.specs.Stated.{IsKnownIn}
use Rattle.simplex_check.specs.Suspects.{KeepsFirst}
use Rattle.simplex.specs.Views.{SimplexView, IsOf, slack_count}
use Rattle.simplex.proofs.Fitting.{of_kept}
use Rattle.simplex.specs.Coming.{CameBy}
use Rattle.simplex.proofs.SlackFacts.{fits_watched, of_watched, stops_watching}
use Rattle.simplex.proofs.Coming.{came_watching}
use Rattle.simplex.proofs.simplex.Simplex.watch_term.Goals as goal

pub returns-in_err-watch-clause-with : goal.returns-in_err-watch-clause-with
returns-in_err-watch-clause-with c =
    let s = c.self.inside in
    let t = c.args.table.now in
    let v : SimplexView = record {
      theory = s.literals;
      atoms = s.atoms;
      assignment = s.assignment;
      bounds = s.bounds;
      starts = s.starts.items;
    } in
    let w : SimplexView = record { theory = c.watch.new.self; atoms = s.atoms; assignment = s.assignment; bounds = c.reserve.new.self; starts = s.starts.items } in
    of_kept t v w refl refl c.reserve.ensures.variables (ap (λ (x : TheoryView). x.watched) c.in_err-watch.ensures)
    (subst (λ (x : SimplexView). IsOf x t) (sym c.self.view_is) c.slack_term.ensures.with)

pub invariant_of-self-2 : goal.invariant_of-self-2
invariant_of-self-2 c =
    let s = c.self.inside in
    let id = c.args.id in
    let v : SimplexView = record {
      theory = s.literals;
      atoms = s.atoms;
      assignment = s.assignment;
      bounds = s.bounds;
      starts = s.starts.items;
    } in
    let w : SimplexView = record { theory = c.watch.new.self; atoms = s.atoms; assignment = s.assignment; bounds = c.reserve.new.self; starts = s.starts.items } in
    let count : c.in_ok-slack_list.slack_list ≡ slack_count s.atoms.slack_list (s.literals.watched ++ id ∷ []) =
    c.in_ok-slack_list.ensures.count ∙ ap (λ (x : SimplexView). slack_count x.atoms.slack_list (x.theory.watched ++ id ∷ [])) (sym c.self.view_is) in (
      fits_watched v w id c.marks_are_prefixes.ensures c.in_ok-watch.ensures (refl, refl, c.reserve.ensures.held, c.reserve.ensures.variables)
          (omega (arith, c.in_ok-reserve.ensures.ok, c.in-Some.ensures, count)) c.self.invariant.0,
      count ∙ ap (λ (x : TheoryView). slack_count s.atoms.slack_list x.watched) (sym c.in_ok-watch.ensures),
      subst (λ bs. KeepsFirst s.kept bs s.assignment.values) (sym c.reserve.ensures.held) c.self.invariant.2,
    )

pub returns-clause-with : goal.returns-clause-with
returns-clause-with c =
    let s = c.self.inside in
    let t = c.args.table.now in
    let v : SimplexView = record {
      theory = s.literals;
      atoms = s.atoms;
      assignment = s.assignment;
      bounds = s.bounds;
      starts = s.starts.items;
    } in
    let w : SimplexView = record { theory = c.watch.new.self; atoms = s.atoms; assignment = s.assignment; bounds = c.reserve.new.self; starts = s.starts.items } in
    of_watched t v w c.args.id refl refl c.reserve.ensures.variables (ap (λ (x : TheoryView). x.watched) c.in_ok-watch.ensures)
    (subst (λ (x : SimplexView). IsOf x t × IsKnownIn t x.atoms.slack_list c.args.id) (sym c.self.view_is) (c.slack_term.ensures.with, c.in_ok-slack_term.ensures.known))

pub returns-in_err-slack_term-clause-stops : goal.returns-in_err-slack_term-clause-stops
returns-in_err-slack_term-clause-stops c =
    stops_watching c.args.table.now c.slack_term.new.self c.args.self.now.theory c.args.id c.from_residual.result c.in_err-slack_term.field-0.0 c.from_residual.ensures.1 c.in_err-slack_term.ensures.stops

pub returns-clause-came : goal.returns-clause-came
returns-clause-came c ts n es there came =
    let s = c.self.inside in
    let t = c.args.table.now in
    let v : SimplexView = record {
      theory = s.literals;
      atoms = s.atoms;
      assignment = s.assignment;
      bounds = s.bounds;
      starts = s.starts.items;
    } in
    let w : SimplexView = record { theory = c.watch.new.self; atoms = s.atoms; assignment = s.assignment; bounds = c.reserve.new.self; starts = s.starts.items } in
    let m = counted (term_at t c.args.id) n in
    came_watching t ts m es v w (subst (CameBy t ts m es) (sym c.self.view_is) (c.in_ok-slack_term.ensures.came ts n es there came)) c.args.id there refl refl c.reserve.ensures.held c.in_ok-watch.ensures
