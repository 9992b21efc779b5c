-- One operation more is pending, or the number is read.
use Rattle.std.proofs.Common.{sym, ap, ◌∙◌}
use Rattle.spec_model_files.specs.Values.{number_read}
use Rattle.smt_sexpr.specs.Items.{tree_meant}
use Rattle.model_read.specs.Numbers.{made_by_all}
use Rattle.model_read.proofs.NumberTexts.{one_pending, fails_by_all}
use Rattle.model_read.proofs.numbers.innermost.Goals as goal

pub returns-in-Ok-Number : goal.returns-in-Ok-Number
returns-in-Ok-Number c =
    let r = rw c.in-Ok-Number.field-0-is at c.in-Ok-Number.ensures in
    record { number = r.value; means = r.means; same = ap (made_by_all c.texts.pending.items) (sym r.is) ∙ c.texts.invariant }

pub texts-preserved : goal.texts-preserved
texts-preserved c =
    let h = rw c.in-Ok-Made.field-0-is at c.in-Ok-Made.ensures in
    one_pending _ (number_read (tree_meant c.texts.inner)) (number_read (tree_meant c.in-Ok-Made.first)) c.texts.pending.items _ c.in-Ok-Made.operation c.texts.invariant h.0 c.in_ok-push-in-Ok-Made.ensures.items

pub texts-smaller : goal.texts-smaller
texts-smaller c = let h = rw c.in-Ok-Made.field-0-is at c.in-Ok-Made.ensures in h.1

pub returns-in-Err : goal.returns-in-Err
returns-in-Err c = sym c.texts.invariant ∙ ap (made_by_all c.texts.pending.items) c.in-Err.ensures ∙ fails_by_all c.texts.pending.items _
