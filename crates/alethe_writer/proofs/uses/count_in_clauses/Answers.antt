-- The literals of one clause more are counted, or it is not marked.
use Rattle.std.proofs.Common.{◌<◌, length, ◌∙◌, refl, arith}
use Rattle.alethe_writer.proofs.Logging.{entry_there}
use Rattle.alethe_writer.proofs.Counts.{counting_start, clauses_either, clauses_end}
use Rattle.alethe_writer.proofs.uses.count_in_clauses.Goals as goal

pub clauses-init : goal.clauses-init
clauses-init c = record { so_far = counting_start c.args.table.now _ c.args.uses.now }

pub count_clause-requires-clause-there : goal.count_clause-requires-clause-there
count_clause-requires-clause-there c = omega (arith, c.clauses-test.true, c.requires.short)

pub count_clause-requires-clause-as_many : goal.count_clause-requires-clause-as_many
count_clause-requires-clause-as_many c = c.clauses.invariant.so_far.same_length ∙ c.requires.as_many

pub clauses-preserved : goal.clauses-preserved
clauses-preserved c =
    let t = c.args.table.now in
    let log = c.args.log.now in
    let n = c.clauses.number in
    let within : n < length log = omega (arith, c.clauses-test.true, c.requires.short) in
    record { so_far = clauses_either t log c.args.support.now n _ c.args.uses.now c.clauses.uses c.count_clause.new.uses _ c.ids_are_unique.ensures c.clauses-test.true c.requires.short refl (entry_there t log n within c.requires.log) c.count_clause.ensures c.clauses.invariant.so_far }

pub returns : goal.returns
returns c = clauses_end c.args.table.now c.args.log.now c.args.support.now c.clauses.number _ c.args.uses.now c.clauses.uses (omega (arith, c.clauses-test.false)) c.clauses.invariant.so_far
