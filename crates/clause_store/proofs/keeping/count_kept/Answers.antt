-- One place after the other.
use Rattle.std.proofs.Common.{◌∙◌, get_or, None, sym, ap, arith}
use Rattle.clause_store.specs.Keeping.{next_after}
use Rattle.clause_store.proofs.Chosen.{count_at, count_within}
use Rattle.clause_store.proofs.keeping.count_kept.Goals as goal

pub next_after-next-requires : goal.next_after-next-requires
next_after-next-requires c = omega (arith, c.clauses.invariant, count_within c.args.kept.now c.clauses.at, c.clauses-test.true, c.ranges.first.fits)

pub clauses-preserved : goal.clauses-preserved
clauses-preserved c = c.next_after-next.ensures ∙ ap (next_after (get_or c.args.kept.now c.clauses.at None)) c.clauses.invariant ∙ sym (count_at c.args.kept.now c.clauses.at (omega (arith, c.clauses-test.true, c.requires)))
