-- The commands before the place were answered.
use Rattle.std.proofs.Common.{◌-◌, length}
use Rattle.spec_text.specs.Places.{IsPlaceOf}
use Rattle.spec_text.specs.Readings.{kept}
use Rattle.smt_sexpr.specs.Limited.{whole_of}
use Rattle.check_evidence.specs.Evidence.{limits_meant}
use Rattle.smt_top.proofs.Answering.{AnsweredUpTo}
use Rattle.smt_top.proofs.answered.answer_all.Given as goal

abbrev pub invariant-commands : goal.invariant-commands
invariant-commands l = record {
  place : IsPlaceOf (kept (whole_of l.text)) l.place;
  answered : AnsweredUpTo (limits_meant l.fn.session.limits) (whole_of l.text) l.session l.place.offset l.out.written;
}

abbrev pub decreases-commands : goal.decreases-commands
decreases-commands l = length (kept (whole_of l.text)) - l.place.offset
