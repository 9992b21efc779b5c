-- A list that begins with a reserved word.
use Rattle.std.proofs.Common.{sym, ◌∙◌, subst}
use Rattle.spec_model_files.specs.Faults.{ReadModel}
use Rattle.spec_model_files.specs.Values.{Written}
use Rattle.model_read.specs.Answers.{Answers}
use Rattle.model_read.specs.Shapes.{triple_view}
use Rattle.model_read.specs.Values.{IsWritten}
use Rattle.model_read.proofs.WrittenValues.{reserved_as, reserved_other}
use Rattle.model_read.proofs.values.reserved.Goals as goal

pub returns-then-same_bytes : goal.returns-then-same_bytes
returns-then-same_bytes c =
    subst (λ (r : ReadModel Written). Answers IsWritten c.element.result r) (sym (reserved_as c.args.at (triple_view c.args.parts) (sym c.same_bytes.ensures ∙ c.if-same_bytes.true))) c.element.ensures

pub returns : goal.returns
returns c = reserved_other c.args.at (triple_view c.args.parts) c.fault_at.result (sym c.same_bytes.ensures ∙ c.if-same_bytes.false) c.fault_at.ensures
