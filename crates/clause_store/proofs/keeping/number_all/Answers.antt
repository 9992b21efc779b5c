-- One place after the other.
use Rattle.std.proofs.Common.{◌<◌, length, set, ap, arith}
use Rattle.clause_store.proofs.Chosen.{numbered_on, count_within}
use Rattle.clause_store.proofs.keeping.number_all.Goals as goal

pub next_after-next-requires : goal.next_after-next-requires
next_after-next-requires c = omega (arith, c.clauses.invariant.counted, count_within c.args.kept.now c.clauses.at, c.clauses-test.true, c.len-at-end.ensures, c.args.numbers.now.ok.0, c.args.numbers.now.ok.1, c.args.numbers.now.small)

pub clauses-preserved : goal.clauses-preserved
clauses-preserved c =
    let there : c.clauses.at < length c.args.kept.now = omega (arith, c.clauses-test.true, c.len-at-end.ensures, c.args.numbers.now.ok.0, c.requires) in
    numbered_on c.args.kept.now c.clauses.at c.clauses.next c.args.numbers.now.items c.clauses.numbers.items _ c.next_after-next.result there c.requires c.clauses.invariant
    (ap (set c.clauses.numbers.items c.clauses.at) c.number_for.ensures) c.next_after-next.ensures
