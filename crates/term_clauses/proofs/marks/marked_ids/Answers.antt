-- One number more is listed, where it is marked.
use Rattle.term_clauses.proofs.Listing.{listed_more, listed_same}
use Rattle.term_clauses.proofs.marks.marked_ids.Goals as goal

pub marks-preserved-then-not-marks-number : goal.marks-preserved-then-not-marks-number
marks-preserved-then-not-marks-number c = record {
  so_far = listed_same c.args.marks.now c.marks.number c.marks.ids.items c.marks-test.true c.if-not-marks-number.true c.marks.invariant.so_far;
}

pub marks-preserved : goal.marks-preserved
marks-preserved c = record {
  so_far = listed_more c.args.marks.now c.marks.number c.marks.ids.items c.push.new.self.items c.marks-test.true c.if-not-marks-number.false c.in_ok-push.ensures.items c.marks.invariant.so_far;
}
