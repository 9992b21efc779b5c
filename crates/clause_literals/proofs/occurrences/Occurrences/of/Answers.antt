-- That the list of the literal is given.
use Rattle.std.proofs.Common.{arith, sym, ◌∙◌, ◌<◌, length}
use Rattle.std.proofs.lemmas.List.{length-map}
use Rattle.clause_literals.specs.Literals.{lists}
use Rattle.clause_literals.proofs.Noting.{found_list, found_none, list_at, list_below}
use Rattle.clause_literals.proofs.occurrences.Occurrences.of.Goals as goal

pub returns-in-Some-clause-complete : goal.returns-in-Some-clause-complete
returns-in-Some-clause-complete c = let lt : c.in-Some.index < length c.args.self.now.lists.items = omega (arith, c.in-Some.ensures.within, c.requires.paired) in found_list c.args.self.now.literals.keys c.requires.once (lists c.args.self.now.lists.items) c.args.l c.in-Some.index (sym c.in-Some.ensures.index) c.deref.result.now (c.deref.ensures.value ∙ list_at c.args.self.now.lists.items c.in-Some.index c.index.result.now lt c.index.ensures)

pub returns-in-Some-clause-below : goal.returns-in-Some-clause-below
returns-in-Some-clause-below c n all = let lt : c.in-Some.index < length c.args.self.now.lists.items = omega (arith, c.in-Some.ensures.within, c.requires.paired) in list_below n (lists c.args.self.now.lists.items) c.in-Some.index c.deref.result.now (rw length-map lt) (c.deref.ensures.value ∙ list_at c.args.self.now.lists.items c.in-Some.index c.index.result.now lt c.index.ensures) all

pub returns-in-None-clause-complete : goal.returns-in-None-clause-complete
returns-in-None-clause-complete c k h = absurd (found_none c.args.self.now.literals.keys (lists c.args.self.now.lists.items) c.args.l c.in-None.ensures.found k h)
