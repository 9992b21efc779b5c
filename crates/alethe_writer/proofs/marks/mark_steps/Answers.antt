-- One number more is marked.
use Rattle.std.specs.List.{slice_set}
use Rattle.std.proofs.Common.{take, true, ◌<◌, get_or, length, sym, subst, arith}
use Rattle.std.proofs.lemmas.List.Elements.{All-get_or}
use Rattle.proof_log.specs.declared.premises.StepId.{StepId}
use Rattle.proof_log.specs.Logs.{numbers_of}
use Rattle.alethe_writer.specs.Marks.{MarksNumbers}
use Rattle.alethe_writer.proofs.Closing.{marks_one}
use Rattle.alethe_writer.proofs.Supports.{numbers_more}
use Rattle.alethe_writer.proofs.marks.mark_steps.Goals as goal

pub ids-preserved : goal.ids-preserved
ids-preserved c =
    let n = (get_or c.args.ids.now c.ids.id-index (record { 0 = 0 })).0 in
    let within : n < length c.args.marks.now = All-get_or (λ (id : StepId). id.0 < length c.args.marks.now) c.args.ids.now c.ids.id-index (record { 0 = 0 }) c.ids-test.true c.requires in
    record { so_far = subst (λ ns. MarksNumbers c.args.marks.now ns (slice_set c.ids.marks n true)) (sym (numbers_more c.args.ids.now c.ids.id-index c.ids-test.true)) (marks_one c.args.marks.now c.ids.marks (numbers_of (take c.ids.id-index c.args.ids.now)) n (omega (arith, within, c.ids.invariant.so_far.same_length)) c.ids.invariant.so_far) }
