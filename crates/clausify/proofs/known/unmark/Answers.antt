-- The mark of one number more is taken away, if it has one.
use Rattle.clausify.proofs.Unmarking.{unmark_here, unmark_beyond}
use Rattle.clausify.proofs.known.unmark.Goals as goal
use Rattle.clausify.proofs.known.unmark.Goals.{then-id-marks, else-id-marks}

pub ids-preserved : goal.ids-preserved
ids-preserved c = record {
  so_far = elim c.if-id-marks.branch [
    | then-id-marks w ↦ unmark_here c.args.marks.now c.ids.marks c.if-id-marks.marks c.args.ids.now c.ids.id-index c.ids-test.true w.if-id-marks.true w.marks-is c.ids.invariant.so_far
    | else-id-marks w ↦ unmark_beyond c.args.marks.now c.ids.marks c.if-id-marks.marks c.args.ids.now c.ids.id-index c.ids-test.true w.if-id-marks.false w.marks-is c.ids.invariant.so_far
  ];
}
