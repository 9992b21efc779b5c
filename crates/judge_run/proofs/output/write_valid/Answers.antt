-- There is room for the line where there is for the longest one.
use Rattle.std.proofs.Common.{arith}
use Rattle.world_io.proofs.Sending.{room_for_less}
use Rattle.judge_run.specs.Judgings.{valid, longest_line}
use Rattle.smt_session.proofs.Delivering.{delivered}
use Rattle.judge_run.proofs.Lengths.{fits_in}
use Rattle.judge_run.proofs.output.write_valid.Goals as goal

pub returns-clause-room : goal.returns-clause-room
returns-clause-room g c = λ room. fits_in valid c.flush.result _ _ (delivered valid c.flush.result _ _ _ c.in_ok-write_all.ensures c.flush.ensures) (omega arith) room

pub returns-clause-sends : goal.returns-clause-sends
returns-clause-sends g c = delivered valid c.flush.result _ _ _ c.in_ok-write_all.ensures c.flush.ensures

pub returns-in_err-write_all-clause-room : goal.returns-in_err-write_all-clause-room
returns-in_err-write_all-clause-room g c = λ room. absurd (c.in_err-write_all.ensures.room (room_for_less (g.K.Sink.state c.args.out.now) longest_line _ (omega arith) room))
