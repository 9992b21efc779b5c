-- Nothing came before.
use Rattle.std.proofs.Common.{List, refl, sym, subst}
use Rattle.std.specs.Prelude.{All}
use Rattle.proof_log.specs.Theories.{derived}
use Rattle.proof_log.proofs.Composed.{lemmas_none}
use Rattle.case_equalities.specs.declared.lead.Lead.{Lead}
use Rattle.case_equalities.specs.Leads.{asserted_below, IsLeadOver}
use Rattle.case_equalities.proofs.equalities.equalities_of_cases.Goals as goal

pub returns-in_err-leads-clause-derives : goal.returns-in_err-leads-clause-derives
returns-in_err-leads-clause-derives c = lemmas_none (asserted_below c.args.table.now c.args.roots.now) (derived c.args.table.now c.args.log.now) c.requires.log

pub state_all-requires : goal.state_all-requires
state_all-requires c = (
  lemmas_none (asserted_below c.args.table.now c.args.roots.now) (derived c.args.table.now c.args.log.now) c.requires.log,
  (refl, (c.requires.roots, subst (λ (xs : List Lead). All (IsLeadOver c.args.table.now c.args.roots.now) xs) (sym c.deref.ensures.value) c.in_ok-leads.ensures)),
)
