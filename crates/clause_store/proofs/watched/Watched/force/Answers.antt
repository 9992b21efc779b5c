-- What is forced is added.
use Rattle.std.proofs.Common.{arith, List, Contains, sym, subst}
use Rattle.std.proofs.lemmas.List.Elements.{Contains-push}
use Rattle.term_core.specs.declared.ids.Lit.{Lit}
use Rattle.clause_store.specs.Entries.{bare}
use Rattle.clause_store.proofs.Adding.{adds_one, advances_none}
use Rattle.clause_store.proofs.Stored.{clause_count, entry_step}
use Rattle.clause_store.proofs.watched.Watched.force.Goals as goal

pub returns-then-not-is_true-clause-advances : goal.returns-then-not-is_true-clause-advances
returns-then-not-is_true-clause-advances c =
    let s = c.args.self.now in (
      adds_one (bare s.entries.items) c.args.trail.now _ c.args.n c.args.one _ (omega (arith, c.requires.there, clause_count s.entries.items)) c.requires.is_open.there c.requires.others
          (entry_step s.entries.items c.args.n c.index.result.now c.requires.there c.index.ensures) c.imply.ensures,
      c.imply.ensures.propagated,
    )

pub returns-then-not-is_true-clause-holds : goal.returns-then-not-is_true-clause-holds
returns-then-not-is_true-clause-holds c = subst (λ (xs : List Lit). Contains xs c.args.one) (sym c.imply.ensures.literals) (Contains-push c.args.trail.now.literals c.args.one)

pub returns-else-not-is_true-clause-advances : goal.returns-else-not-is_true-clause-advances
returns-else-not-is_true-clause-advances c = advances_none _ _
