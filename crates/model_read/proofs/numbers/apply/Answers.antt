-- What an operation makes of a number.
use Rattle.std.proofs.Common.{sym, subst}
use Rattle.spec_model_files.specs.Faults.{ReadModel}
use Rattle.spec_model_files.specs.Values.{WrittenNumber, negation}
use Rattle.model_read.specs.Answers.{Answers}
use Rattle.model_read.specs.Numbers.{IsNumber}
use Rattle.model_read.proofs.NumberTexts.{negated_ok, divided_ok}
use Rattle.model_read.proofs.numbers.apply.Goals as goal

pub returns-in-Negate : goal.returns-in-Negate
returns-in-Negate c x hx = rw c.in-Negate.is (record { value = negation x; is = negated_ok x; means = c.negation.ensures x hx })

pub returns-in-Divide : goal.returns-in-Divide
returns-in-Divide c x hx =
    rw c.in-Divide.is (subst (λ (r : ReadModel WrittenNumber). Answers IsNumber c.divided.result r) (sym (divided_ok c.in-Divide.at c.in-Divide.text x)) (c.divided.ensures x hx))
