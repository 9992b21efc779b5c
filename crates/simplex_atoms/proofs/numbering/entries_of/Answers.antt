-- One entry after the other comes.
use Rattle.std.proofs.Common.{refl}
use Rattle.term_core.specs.Tables.{IsIn}
use Rattle.simplex_atoms.specs.Grown.{VariablesAreIn}
use Rattle.simplex_atoms.proofs.Growing.{grown_same, grown_on}
use Rattle.simplex_atoms.proofs.Numbered.{numbered_none, numbered_step, is_at}
use Rattle.simplex_atoms.proofs.Coming.{variable_at, all_in}
use Rattle.simplex_atoms.proofs.numbering.entries_of.Goals as goal

pub variables-init : goal.variables-init
variables-init c = record {
  grown = grown_same c.args.meanings.now c.args.assignment.now _ _ c.requires.counted (VariablesAreIn c.args.variables.now) c.requires.sums refl refl;
  came = λ t f _ _ ts n es among h. h;
  so_far = numbered_none c.args.meanings.now.owners.list c.new-entries.result.items c.args.variables.now c.new-entries.ensures.items;
}

pub variables-preserved : goal.variables-preserved
variables-preserved c = record {
  grown =
      grown_on (VariablesAreIn c.args.variables.now) (λ t. IsIn t c.index-variables-at.result.0) (VariablesAreIn c.args.variables.now)
      c.args.meanings.now c.args.assignment.now c.variables.meanings c.variables.assignment c.entry_of.new.meanings c.entry_of.new.assignment
      (λ t all. (all, is_at t c.args.variables.now c.variables.at c.index-variables-at.result c.variables-test.true c.index-variables-at.is all)) c.variables.invariant.grown c.entry_of.ensures.grown;
  came = λ t f tells all ts n es among h.
      c.in_ok-entry.ensures.came t f (tells.0, c.variables.invariant.grown.there t (all_in t f c.args.variables.now all) tells.1)
      (variable_at t f c.args.variables.now c.variables.at c.index-variables-at.result c.variables-test.true c.index-variables-at.is all) ts n es among
      (c.variables.invariant.came t f tells all ts n es among h);
  so_far =
      numbered_step c.variables.meanings.owners.list c.entry_of.new.meanings.owners.list c.variables.entries.items c.push.new.self.items c.args.variables.now c.variables.at c.index-variables-at.result c.in_ok-entry.entry
      c.entry_of.ensures.grown.grows.more_owners c.entry_of.ensures.grown.grows.owners c.variables.invariant.so_far c.in_ok-entry.ensures.ok c.variables-test.true c.index-variables-at.is c.in_ok-push.ensures.items;
}

pub returns-clause-came : goal.returns-clause-came
returns-clause-came c = c.variables.invariant.came

pub returns-in_err-entry-clause-grown : goal.returns-in_err-entry-clause-grown
returns-in_err-entry-clause-grown c =
    grown_on (VariablesAreIn c.args.variables.now) (λ t. IsIn t c.index-variables-at.result.0) (VariablesAreIn c.args.variables.now)
    c.args.meanings.now c.args.assignment.now c.variables.meanings c.variables.assignment c.entry_of.new.meanings c.entry_of.new.assignment
    (λ t all. (all, is_at t c.args.variables.now c.variables.at c.index-variables-at.result c.variables-test.true c.index-variables-at.is all)) c.variables.invariant.grown c.entry_of.ensures.grown

pub returns-in_err-push-clause-grown : goal.returns-in_err-push-clause-grown
returns-in_err-push-clause-grown c =
    grown_on (VariablesAreIn c.args.variables.now) (λ t. IsIn t c.index-variables-at.result.0) (VariablesAreIn c.args.variables.now)
    c.args.meanings.now c.args.assignment.now c.variables.meanings c.variables.assignment c.entry_of.new.meanings c.entry_of.new.assignment
    (λ t all. (all, is_at t c.args.variables.now c.variables.at c.index-variables-at.result c.variables-test.true c.index-variables-at.is all)) c.variables.invariant.grown c.entry_of.ensures.grown
