-- By the literals that hold, in any order.
use Rattle.std.proofs.Common.{map, subst}
use Rattle.std.specs.Prelude.{Option, Ok, MatchOption}
use Rattle.clause_literals.specs.Literals.{lit_complement, lists}
use Rattle.congruence_explain.specs.declared.chain.Trace.{Trace}
use Rattle.congruence_explain.specs.Needing.{LeadsTo, IsRefuted}
use Rattle.congruence_explain.proofs.Starting.{refuted_same, stands_by}
use Rattle.congruence_explain.proofs.chain.needed_if_refuted.Goals as goal

pub propagate-requires : goal.propagate-requires
propagate-requires c = record { none = c.new.ensures.items }

pub returns-in_default : goal.returns-in_default
returns-in_default c =
    let premises = lists c.args.premises.items in
    let held = c.in_ok-held.held in
    let start = map lit_complement c.args.clause.now in
    λ refuted. subst (λ (found : Option Trace). MatchOption found (IsRefuted c.args.table.now premises held → ⊥) (λ r. LeadsTo premises held r.implied.items r.last.items)) c.in_default.is c.in_ok-trace.ensures
    (refuted_same held start c.in_ok-held.ensures c.args.table.now premises refuted)

pub returns : goal.returns
returns c =
    let premises = lists c.args.premises.items in
    let held = c.in_ok-held.held in
    let trace = c.in-Some.trace in
    let leads = subst (λ (found : Option Trace). MatchOption found (IsRefuted c.args.table.now premises held → ⊥) (λ r. LeadsTo premises held r.implied.items r.last.items)) c.in-Some.is c.in_ok-trace.ensures in
    stands_by held (map lit_complement c.args.clause.now) c.in_ok-held.ensures premises trace.implied.items trace.last.items leads (Ok c.in_ok-needed.needed) c.in_ok-needed.ensures
