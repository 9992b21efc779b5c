-- One list is cut after the other.
use Rattle.std.proofs.Common.{arith}
use Rattle.std.proofs.lemmas.List.{length-map}
use Rattle.clause_literals.specs.Literals.{lists}
use Rattle.watch_index.specs.Indexes.{numbers_below}
use Rattle.watch_index.proofs.Changes.{changed_none, changed_more, changed_all}
use Rattle.watch_index.proofs.lists.drop_all_from.Goals as goal

pub lists-init : goal.lists-init
lists-init c = changed_none _ _

pub lists-preserved : goal.lists-preserved
lists-preserved c = changed_more (numbers_below c.args.number) c.lists.place (lists c.args.all.now.items) (lists c.lists.all.items) (lists c.drop_from.new.all.items) c.lists.invariant
    (omega (arith, c.lists-test.true, c.len.ensures, length-map c.lists.all.items (λ v. v.items), c.lists.all.ok.0)) c.drop_from.ensures

pub returns : goal.returns
returns c = changed_all (numbers_below c.args.number) c.lists.place _ (lists c.lists.all.items) c.lists.invariant
    (omega (arith, c.lists-test.false, c.len.ensures, length-map c.lists.all.items (λ v. v.items), c.lists.all.ok.0))
