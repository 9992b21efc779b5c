use Rattle.term_reader.proofs.Taken.{minus_fits}
use Rattle.term_reader.proofs.heads.put_differences.Goals as goal

pub put-requires : goal.put-requires
put-requires c = minus_fits c.args.table.now c.args.ids.now c.requires.numbers c.if-ids-eq1.true
