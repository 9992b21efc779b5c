use Rattle.std.proofs.lemmas.List.{take_rest}
use Rattle.term_reader.proofs.Folding.{left_starts, left_takes, left_step}
use Rattle.term_reader.proofs.chains.put_left.Goals as goal

pub arguments-init : goal.arguments-init
arguments-init c = rw take_rest (left_starts c.args.head c.args.table.now c.args.ids.now (record { 0 = 0 }) c.requires.some c.requires.folds)

pub put_pair-requires : goal.put_pair-requires
put_pair-requires c = left_takes c.args.head c.args.table.now c.arguments.table _ c.arguments.whole c.arguments.rest.now c.in-Some.after.now c.in-Some.next.now c.in-Some.ensures.cases.0 c.arguments.invariant

pub arguments-preserved : goal.arguments-preserved
arguments-preserved c =
    left_step c.args.head c.args.table.now c.arguments.table _ c.arguments.whole c.arguments.rest.now c.in-Some.after.now c.in-Some.next.now c.in-Some.ensures.cases.0 c.arguments.invariant
    c.put_pair.new.table c.in-Ok.both c.in-Ok.ensures.keeps c.in-Ok.ensures.ends
