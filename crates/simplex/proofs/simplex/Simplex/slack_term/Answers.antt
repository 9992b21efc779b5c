-- A term may get its place.
use Rattle.std.proofs.Common.{List, Contains, Result, Err, IfErr, refl, sym, subst, ◌∙◌}
use Rattle.spec_sorts.specs.Terms.{Term}
use Rattle.spec_causes.specs.Reached.{IsReached, between}
use Rattle.spec_causes.specs.Counts.{counted}
use Rattle.term_core.specs.Tables.{term_at}
use Rattle.sat_budget.specs.Budgets.{StopsBy}
use Rattle.simplex_atoms.specs.Watching.{OnAtomOverflow, OverflowsAtom}
use Rattle.simplex_check.proofs.KeptFirst.{keeps_none}
use Rattle.simplex.specs.Views.{SimplexView}
use Rattle.simplex_atoms.specs.declared.stop.AtomStop.{AtomStop}
use Rattle.simplex_atoms.specs.TermTableauViews.{ButForMemory}
use Rattle.proof_log.specs.Theories.{CameTo}
use Rattle.simplex.specs.Coming.{term_tableau_of, CameBy, StoppedBy, IsOverflowAt}
use Rattle.simplex.proofs.Coming.{at_most, counted_few, keeps_same, stops_there}
use Rattle.simplex.proofs.SlackFacts.{GivesSlack, fits_slacked, count_stays, stop_of}
use Rattle.simplex.proofs.simplex.Simplex.slack_term.Goals as goal
use Rattle.simplex.proofs.simplex.Simplex.slack_term.Goals.{in-Ok, in-Err-Wide, in-Err-Memory}

pub invariant_of-self : goal.invariant_of-self
invariant_of-self c =
    let s = c.self.inside in
    let id = c.args.id in
    let v : SimplexView = record {
      theory = s.literals;
      atoms = s.atoms;
      assignment = s.assignment;
      bounds = s.bounds;
      starts = s.starts.items;
    } in
    let w : SimplexView = record { theory = s.literals; atoms = c.watch.new.self; assignment = c.watch.new.assignment; bounds = c.watch.new.bounds; starts = s.starts.items } in
    let new = subst (λ (x : SimplexView). Contains x.theory.watched id → ⊥) (sym c.self.view_is) c.requires.new in
    let g : GivesSlack c.args.table.now v id w = record { theory = refl; starts = refl; right = c.watch.ensures.right; bounds = c.watch.ensures.bounds; others = c.watch.ensures.others } in (
      fits_slacked c.args.table.now v id new w g c.self.invariant.0 c.are_of_watched_terms.ensures.over,
      c.self.invariant.1 ∙ sym (count_stays c.args.table.now v id new w g),
      keeps_none c.watch.new.bounds.held c.watch.new.assignment.values,
    )

pub returns-clause-stops : goal.returns-clause-stops
returns-clause-stops c =
    let s = c.self.inside in
    let t = c.args.table.now in
    let id = c.args.id in
    let w : SimplexView = record { theory = s.literals; atoms = c.watch.new.self; assignment = c.watch.new.assignment; bounds = c.watch.new.bounds; starts = s.starts.items } in
    elim c.match-watch.branch [
      | in-Ok a ↦ subst (λ r. IfErr r (StopsBy (λ s. (ts : List Term) → Contains ts (term_at t id) → IsOverflowAt t ts s w))) (sym a.result-is) tt
      | in-Err-Wide a ↦ subst (λ r. IfErr r (StopsBy (λ s. (ts : List Term) → Contains ts (term_at t id) → IsOverflowAt t ts s w))) (sym a.result-is)
          (stop_of t w id a.in-Err-Wide.wide
          (subst (OnAtomOverflow (OverflowsAtom t w.atoms.owners w.assignment id)) a.in-Err-Wide.field-0-is a.in-Err-Wide.ensures.wide) a.overflowed.result a.overflowed.ensures)
      | in-Err-Memory a ↦ subst (λ r. IfErr r (StopsBy (λ s. (ts : List Term) → Contains ts (term_at t id) → IsOverflowAt t ts s w))) (sym a.result-is) tt
    ]

pub returns-clause-came : goal.returns-clause-came
returns-clause-came c ts n es there came =
    let s = c.self.inside in
    let t = c.args.table.now in
    let u = term_at t c.args.id in
    let v : SimplexView = record { theory = s.literals; atoms = s.atoms; assignment = s.assignment; bounds = s.bounds; starts = s.starts.items } in
    let w : SimplexView = record { theory = s.literals; atoms = c.watch.new.self; assignment = c.watch.new.assignment; bounds = c.watch.new.bounds; starts = s.starts.items } in
    let old : CameBy t ts n es v = subst (CameBy t ts n es) (sym c.self.view_is) came in
    elim c.match-watch.branch [
      | in-Ok a ↦ subst (λ r. CameTo r (λ _. CameBy t ts (counted u n) es w) (StoppedBy t ts n es w)) (sym a.result-is) (record {
        watched = old.watched;
        held = old.held;
        runs = old.runs;
        reached = a.in-Ok.ensures.came ts old.runs es there old.reached;
        few = counted_few v w n old.runs u (λ plain. keeps_same v w (c.watch.ensures.plain plain) c.watch.ensures.bounds.held) old.few;
      })
      | in-Err-Wide a ↦ subst (λ r. CameTo r (λ _. CameBy t ts (counted u n) es w) (StoppedBy t ts n es w)) (sym a.result-is)
          (stops_there (λ _. CameBy t ts (counted u n) es w) (StoppedBy t ts n es w) a.overflowed.result
          (record {
            runs = old.runs;
            stopped = between old.runs es (term_tableau_of t w)
                (subst (λ (x : AtomStop). ButForMemory (IsReached ts old.runs es (term_tableau_of t w)) (let r : Result (Unit {0}) AtomStop = Err x in r)) a.in-Err-Wide.field-0-is (a.in-Err-Wide.ensures.came ts old.runs es there old.reached));
            few = at_most v n old.runs old.few;
          }))
      | in-Err-Memory a ↦ subst (λ r. CameTo r (λ _. CameBy t ts (counted u n) es w) (StoppedBy t ts n es w)) (sym a.result-is) tt
    ]
