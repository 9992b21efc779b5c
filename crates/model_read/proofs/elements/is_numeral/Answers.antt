-- Whether digits are a numeral.
use Rattle.std.proofs.Common.{◌==◌, ℕ, List, length, sym, ap, ◌∙◌}
use Rattle.std.proofs.lemmas.Bool.{false≢true, eqb-true}
use Rattle.std.proofs.lemmas.List.{nil_from_length}
use Rattle.model_read.proofs.ElementWords.{nothing_numeral, zero_numeral, digits_numeral, tested_digits}
use Rattle.model_read.proofs.elements.is_numeral.Goals as goal

pub returns-then-first-eq48 : goal.returns-then-first-eq48
returns-then-first-eq48 c =
    let others = c.in-Some.others.now in
    zero_numeral c.args.digits.now others c.in-Some.first.now c.is_empty.result c.in-Some.ensures.cases.0 c.if-first-eq48.true
    (λ f. nil_from_length others (eqb-true (length others) 0 (sym c.is_empty.ensures ∙ f)))
    (λ f e. false≢true (sym f ∙ c.is_empty.ensures ∙ ap (λ (xs : List ℕ). length xs == 0) e))

pub returns-else-first-eq48 : goal.returns-else-first-eq48
returns-else-first-eq48 c =
    let t = tested_digits c.are_digits.result c.args.digits.now c.are_digits.ensures in
    digits_numeral c.args.digits.now c.in-Some.others.now c.in-Some.first.now c.are_digits.result c.in-Some.ensures.cases.0 c.if-first-eq48.false t.0 t.1

pub returns-in-None : goal.returns-in-None
returns-in-None c = nothing_numeral c.args.digits.now (nil_from_length c.args.digits.now c.in-None.ensures.cases)
