-- One list after the other.
use Rattle.std.proofs.Common.{◌<◌, ℕ, [], length, sym, subst, arith}
use Rattle.std.specs.Prelude.{All, List}
use Rattle.std.proofs.lemmas.List.{length-map}
use Rattle.clause_literals.specs.Literals.{lists}
use Rattle.watch_index.specs.Indexes.{renumbered}
use Rattle.watch_index.proofs.Changes.{changed_none, changed_more, changed_all}
use Rattle.watch_index.proofs.renumbering.renumber_all.Goals as goal

pub lists-init : goal.lists-init
lists-init c = changed_none _ _

pub renumber_at-requires-clause-below : goal.renumber_at-requires-clause-below
renumber_at-requires-clause-below c =
    let i = c.lists.invariant in
    subst (λ (xs : List ℕ). All (λ n. n < length c.args.kept.now) xs) (sym (i.others c.lists.place (omega arith)))
    (c.requires c.lists.place [] (omega (arith, c.lists-test.true, c.len.ensures, i.size, length-map c.lists.all.items (λ v. v.items), c.lists.all.ok.0)))

pub lists-preserved : goal.lists-preserved
lists-preserved c = changed_more (renumbered c.args.kept.now) c.lists.place (lists c.args.all.now.items) (lists c.lists.all.items) (lists c.renumber_at.new.all.items) c.lists.invariant
    (omega (arith, c.lists-test.true, c.len.ensures, length-map c.lists.all.items (λ v. v.items), c.lists.all.ok.0)) c.renumber_at.ensures

pub returns : goal.returns
returns c = changed_all (renumbered c.args.kept.now) c.lists.place _ (lists c.lists.all.items) c.lists.invariant
    (omega (arith, c.lists-test.false, c.len.ensures, length-map c.lists.all.items (λ v. v.items), c.lists.all.ok.0))
