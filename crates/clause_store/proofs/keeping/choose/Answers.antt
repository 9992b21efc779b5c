-- One element after the other.
use Rattle.std.proofs.Common.{ap, ◌∙◌, arith}
use Rattle.std.proofs.lemmas.List.{take_all}
use Rattle.clause_store.specs.Keeping.{staying}
use Rattle.clause_store.proofs.Chosen.{chosen_first, chosen_on}
use Rattle.clause_store.proofs.keeping.choose.Goals as goal

pub items-init : goal.items-init
items-init g c = chosen_first c.args.kept.now c.args.items.now.items

pub choose_one-to-requires-clause-to : goal.choose_one-to-requires-clause-to
choose_one-to-requires-clause-to g c = c.items.invariant.within

pub items-preserved : goal.items-preserved
items-preserved g c = chosen_on c.args.kept.now c.args.items.now.items c.items.at c.items.to c.items.items.items c.choose_one-to.new.items.items c.choose_one-to.result
    (omega (arith, c.items-test.true, c.len-at-end.ensures, c.args.items.now.ok.0)) c.items.invariant c.choose_one-to.ensures

pub returns : goal.returns
returns g c = c.truncate.ensures.items ∙ c.items.invariant.first
    ∙ ap (staying c.args.kept.now) (take_all c.items.at c.args.items.now.items (omega (arith, c.items-test.false, c.len-at-end.ensures, c.args.items.now.ok.0)))
