-- One command more, or the check, or the end of the script.
use Rattle.std.proofs.Common.{refl, ◌∙◌}
use Rattle.spec_text.specs.Readings.{kept}
use Rattle.spec_commands.specs.Stack.{done, unsupported, say}
use Rattle.spec_commands.specs.Checks.{term_limit}
use Rattle.smt_sexpr.specs.Limited.{whole_of}
use Rattle.assertion_stack.specs.declared.stack.Effect.TheVariants as effects
use Rattle.assertion_stack.specs.Stacks.{OverTable, over_table}
use Rattle.script_standing.proofs.Loading.{loading_begins, script_finishes, script_breaks, check_here, leaves_here, one_less, no_less, taken_here, refused_here}
use Rattle.script_standing.proofs.load.reaches_check.Goals.{in-Ok-Check+else-left-eq1, in-Ok-Done, in-Ok-Unsupported, in-Ok-Say, in-Err-Fault-command}
use Rattle.script_standing.proofs.load.reaches_check.Goals as goal

pub commands-init : goal.commands-init
commands-init c =
    let bytes = kept (whole_of c.args.text) in
    record {
      place = c.start-place.ensures.place bytes;
      loading = loading_begins bytes c.args.at (over_table c.args.table.now c.args.stack.now) _ c.start-place.ensures.offset c.requires;
    }

pub command-requires : goal.command-requires
command-requires c = let l = c.commands.invariant.loading in (term_limit, l.stack, l.represents)

pub returns-in-Ok-None : goal.returns-in-Ok-None
returns-in-Ok-None c = let h = rw c.in-Ok-None.field-0-is at c.in-Ok-None.ensures in script_finishes (whole_of c.args.text) _ _ c.commands.place _ c.commands.invariant.loading h.0

pub returns-in-Err-Fault : goal.returns-in-Err-Fault
returns-in-Err-Fault c = script_breaks (whole_of c.args.text) _ _ c.commands.place _ c.commands.invariant.loading _ (rw c.in-Err-Fault.field-0-is at c.in-Err-Fault.ensures)

pub returns-then-left-eq1 : goal.returns-then-left-eq1
returns-then-left-eq1 c =
    let r = rw c.in-Ok-Some.field-0-is at c.in-Ok-Some.ensures in
    let l = c.commands.invariant.loading in
    let d = rw c.in-Ok-Check.field-0-is at (c.in-Ok-Check.ensures.steps term_limit l.stack l.represents) in
    check_here (whole_of c.args.text) _ _ c.commands.place _ l c.in-Ok-Some.read.0 c.in-Ok-Some.read.1 r c.in-Ok-Check.field-0-0 c.in-Ok-Check.assumed (over_table c.command.new.table c.command.new.self) c.if-left-eq1.true d (c.each_text_is_read.ensures (kept (whole_of c.args.text)) c.in-Ok-Some.read.1.offset 0)

pub returns-in-Ok-Exit : goal.returns-in-Ok-Exit
returns-in-Ok-Exit c =
    let r = rw c.in-Ok-Some.field-0-is at c.in-Ok-Some.ensures in
    let l = c.commands.invariant.loading in
    let d = rw c.in-Ok-Exit.field-0-is at (c.in-Ok-Exit.ensures.steps term_limit l.stack l.represents) in
    leaves_here (whole_of c.args.text) _ _ c.commands.place _ l c.in-Ok-Some.read.0 c.in-Ok-Some.read.1 r (over_table c.command.new.table c.command.new.self) d (c.each_text_is_read.ensures (kept (whole_of c.args.text)) c.in-Ok-Some.read.1.offset 0)

pub commands-preserved : goal.commands-preserved
commands-preserved c =
    let r = rw c.in-Ok-Some.field-0-is at c.in-Ok-Some.ensures in
    let l = c.commands.invariant.loading in
    let new : OverTable = over_table c.command.new.table c.command.new.self in
    record {
      place = r.is.place;
      loading = elim c.match-command.branch [
        | in-Ok-Check+else-left-eq1 w ↦
            let d = rw w.in-Ok-Check.field-0-is at (w.in-Ok-Check.ensures.steps term_limit l.stack l.represents) in
            taken_here (whole_of c.args.text) _ _ c.commands.place _ l c.in-Ok-Some.read.0 c.in-Ok-Some.read.1 r (effects.Check w.in-Ok-Check.field-0-0 w.in-Ok-Check.assumed) c.match-command.left new (one_less new.table w.in-Ok-Check.field-0-0 w.in-Ok-Check.assumed c.commands.left c.match-command.left w.if-left-eq1.false (w.left-is ∙ w.saturating_sub-left.ensures)) d
        | in-Ok-Done w ↦
            let d = rw w.in-Ok-Done.field-0-is at (w.in-Ok-Done.ensures.steps term_limit l.stack l.represents) in
            taken_here (whole_of c.args.text) _ _ c.commands.place _ l c.in-Ok-Some.read.0 c.in-Ok-Some.read.1 r effects.Done c.match-command.left new (no_less done c.commands.left c.match-command.left (λ s rest. refl) w.left-is) d
        | in-Ok-Unsupported w ↦
            let d = rw w.in-Ok-Unsupported.field-0-is at (w.in-Ok-Unsupported.ensures.steps term_limit l.stack l.represents) in
            taken_here (whole_of c.args.text) _ _ c.commands.place _ l c.in-Ok-Some.read.0 c.in-Ok-Some.read.1 r effects.Unsupported c.match-command.left new (no_less unsupported c.commands.left c.match-command.left (λ s rest. refl) w.left-is) d
        | in-Ok-Say w ↦
            let d = rw w.in-Ok-Say.field-0-is at (w.in-Ok-Say.ensures.steps term_limit l.stack l.represents) in
            taken_here (whole_of c.args.text) _ _ c.commands.place _ l c.in-Ok-Some.read.0 c.in-Ok-Some.read.1 r (effects.Say w.in-Ok-Say.field-0-0) c.match-command.left new (no_less (say w.in-Ok-Say.field-0-0.now) c.commands.left c.match-command.left (λ s rest. refl) w.left-is) d
        | in-Err-Fault-command w ↦ rw w.left-is (
            let d = rw w.in-Err-Fault-command.field-0-is at (w.in-Err-Fault-command.ensures.steps term_limit l.stack l.represents) in
            let same = w.in-Err-Fault-command.ensures.same in
            refused_here (whole_of c.args.text) _ _ c.commands.place _ l c.in-Ok-Some.read.0 c.in-Ok-Some.read.1 r _ new (λ i. over_table (same.1 i) (same.0 i)) d)
      ];
    }
