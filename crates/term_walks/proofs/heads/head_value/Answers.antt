-- Each head gives what its own function gives.
use Rattle.std.proofs.Common.{ap}
use Rattle.std.specs.Prelude.{not, Ok}
use Rattle.spec_sorts.specs.Values.{truth}
use Rattle.term_core.specs.declared.nodes.Head.TheVariants as heads
use Rattle.term_walks.specs.Valuations.{values_meant}
use Rattle.term_walks.proofs.Fitting.{at_head}
use Rattle.term_walks.proofs.heads.head_value.Goals as goal

pub returns-in-Not-clause-exact : goal.returns-in-Not-clause-exact
returns-in-Not-clause-exact c t i tells has named = at_head i t c.args.head heads.Not (values_meant t.sorts c.args.values.now) _ c.in-Not.is (ap (λ b. Ok (truth (not b))) (c.all_true.ensures t.sorts))

pub returns-in-And-clause-exact : goal.returns-in-And-clause-exact
returns-in-And-clause-exact c t i tells has named = at_head i t c.args.head heads.And (values_meant t.sorts c.args.values.now) _ c.in-And.is (ap (λ b. Ok (truth b)) (c.all_true-in-And.ensures t.sorts))

pub returns-in-Or-clause-exact : goal.returns-in-Or-clause-exact
returns-in-Or-clause-exact c t i tells has named = at_head i t c.args.head heads.Or (values_meant t.sorts c.args.values.now) _ c.in-Or.is (ap (λ b. Ok (truth b)) (c.any_true.ensures t.sorts))

pub returns-in-Xor-clause-exact : goal.returns-in-Xor-clause-exact
returns-in-Xor-clause-exact c t i tells has named = at_head i t c.args.head heads.Xor (values_meant t.sorts c.args.values.now) _ c.in-Xor.is (ap Ok (c.is_xor.ensures t.sorts i))

pub returns-in-Implies-clause-exact : goal.returns-in-Implies-clause-exact
returns-in-Implies-clause-exact c t i tells has named = at_head i t c.args.head heads.Implies (values_meant t.sorts c.args.values.now) _ c.in-Implies.is (ap Ok (c.is_implied.ensures t.sorts i))

pub returns-in-Less-clause-exact : goal.returns-in-Less-clause-exact
returns-in-Less-clause-exact c t i tells has named = at_head i t c.args.head heads.Less (values_meant t.sorts c.args.values.now) _ c.in-Less.is (ap Ok (c.are_less.ensures t.sorts i))

pub returns-in-AtMost-clause-exact : goal.returns-in-AtMost-clause-exact
returns-in-AtMost-clause-exact c t i tells has named = at_head i t c.args.head heads.AtMost (values_meant t.sorts c.args.values.now) _ c.in-AtMost.is (ap Ok (c.are_at_most.ensures t.sorts i))

pub returns-in-Equal-clause-exact : goal.returns-in-Equal-clause-exact
returns-in-Equal-clause-exact c t i tells has named = at_head i t c.args.head heads.Equal (values_meant t.sorts c.args.values.now) _ c.in-Equal.is (ap Ok (c.are_equal.ensures t.sorts i tells.apart named))

pub returns-in-Ite-clause-exact : goal.returns-in-Ite-clause-exact
returns-in-Ite-clause-exact c t i tells has named = at_head i t c.args.head heads.Ite (values_meant t.sorts c.args.values.now) _ c.in-Ite.is (ap Ok (c.ite_value.ensures.exact t.sorts i))

pub returns-in-Minus-clause-exact : goal.returns-in-Minus-clause-exact
returns-in-Minus-clause-exact c t i tells has named = at_head i t c.args.head heads.Minus (values_meant t.sorts c.args.values.now) _ c.in-Minus.is (c.minus_value.ensures.exact t.sorts i)

pub returns-in-Plus-clause-exact : goal.returns-in-Plus-clause-exact
returns-in-Plus-clause-exact c t i tells has named = at_head i t c.args.head heads.Plus (values_meant t.sorts c.args.values.now) _ c.in-Plus.is (c.sum_value.ensures.exact t.sorts i)

pub returns-in-Times-clause-exact : goal.returns-in-Times-clause-exact
returns-in-Times-clause-exact c t i tells has named = at_head i t c.args.head heads.Times (values_meant t.sorts c.args.values.now) _ c.in-Times.is (c.product_value.ensures.exact t.sorts i)

pub returns-in-Divide-clause-exact : goal.returns-in-Divide-clause-exact
returns-in-Divide-clause-exact c t i tells has named = at_head i t c.args.head heads.Divide (values_meant t.sorts c.args.values.now) _ c.in-Divide.is (c.divide_value.ensures.exact t.sorts i)

pub returns-in-Ite-clause-named : goal.returns-in-Ite-clause-named
returns-in-Ite-clause-named c t tables named = c.ite_value.ensures.named t.sorts named

pub returns-in-Minus-clause-named : goal.returns-in-Minus-clause-named
returns-in-Minus-clause-named c t tables named = c.minus_value.ensures.named t.sorts

pub returns-in-Plus-clause-named : goal.returns-in-Plus-clause-named
returns-in-Plus-clause-named c t tables named = c.sum_value.ensures.named t.sorts named

pub returns-in-Times-clause-named : goal.returns-in-Times-clause-named
returns-in-Times-clause-named c t tables named = c.product_value.ensures.named t.sorts named

pub returns-in-Divide-clause-named : goal.returns-in-Divide-clause-named
returns-in-Divide-clause-named c t tables named = c.divide_value.ensures.named t.sorts
