-- One number after the other comes in.
use Rattle.term_walks.specs.Counting.{no_number}
use Rattle.term_walks.proofs.NumbersAdded.{adds_none, adds_more}
use Rattle.sort_check.proofs.distinct.see_all.Goals as goal

pub ids-init : goal.ids-init
ids-init c = record { so_far = adds_none c.args.seen.now.keys }

pub ids-preserved : goal.ids-preserved
ids-preserved c = record {
  so_far = adds_more c.args.seen.now.keys c.ids.seen.keys c.insert.new.self.keys c.args.ids.now c.ids.id-index no_number c.ids-test.true c.ids.invariant.so_far c.in_ok-insert.ensures.keys;
}
