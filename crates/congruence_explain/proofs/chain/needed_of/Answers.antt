-- There is a premise that comes to be false.
use Rattle.std.proofs.Common.{List, map, Contains, subst}
use Rattle.std.specs.Prelude.{Option, MatchOption}
use Rattle.spec_derivations.specs.ExactChains.{IsExactResolvent}
use Rattle.term_core.specs.declared.ids.Lit.{Lit}
use Rattle.clause_literals.specs.Literals.{lit_complement, lists}
use Rattle.congruence_explain.specs.Needing.{IsRefuted, standing}
use Rattle.congruence_explain.proofs.chain.needed_of.Goals as goal

pub unreachable-requires : goal.unreachable-requires
unreachable-requires c =
    let premises = lists c.args.premises.items in
    let start = map lit_complement c.args.clause.now in
    subst (λ (found : Option (List Lit)). MatchOption found (IsRefuted c.args.table.now premises start → ⊥) (λ needed. IsExactResolvent lit_complement (Contains premises) (standing start needed))) c.in_default.is c.in_ok-needed.ensures c.requires

pub returns : goal.returns
returns c =
    let premises = lists c.args.premises.items in
    let start = map lit_complement c.args.clause.now in
    subst (λ (found : Option (List Lit)). MatchOption found (IsRefuted c.args.table.now premises start → ⊥) (λ needed. IsExactResolvent lit_complement (Contains premises) (standing start needed))) c.in-Some.is c.in_ok-needed.ensures
