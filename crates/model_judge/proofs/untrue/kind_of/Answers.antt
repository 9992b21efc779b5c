-- By its value, or by the operation that leaves the bound.
use Rattle.std.proofs.Common.{sym, ap, ◌∙◌}
use Rattle.spec_model_files.specs.Verdicts.{untrue_by}
use Rattle.model_judge.proofs.Firsts.{kind_by_truth}
use Rattle.model_judge.proofs.untrue.kind_of.Goals as goal

pub returns-in-Ok : goal.returns-in-Ok
returns-in-Ok c i at h =
    kind_by_truth at c.unless.result c.is_true.result c.args.table.now.sorts c.in-Ok.found c.unless.ensures (c.is_true.ensures c.args.table.now.sorts) ∙ ap (untrue_by at) (sym (c.in-Ok.ensures.exact i h))

pub returns-in-Err-Wide : goal.returns-in-Err-Wide
returns-in-Err-Wide c i at h = ap (untrue_by at) (sym (rw c.in-Err-Wide.field-0-is at (c.in-Err-Wide.ensures.exact i h)))
