-- That no texts write no numbers.
use Rattle.std.proofs.Common.{Option, sym, ap, ◌∙◌}
use Rattle.spec_arithmetic.specs.Coefficients.{coefficients_of}
use Rattle.smt_sexpr.specs.declared.items.Trees.{Trees}
use Rattle.linear_form.specs.Coefficients.{coefficients_meant}
use Rattle.alethe_reader.specs.Shapes.{given_view}
use Rattle.alethe_reader.proofs.CoefficientTexts.{none_read}
use Rattle.alethe_reader.proofs.coefficients.coefficients_of.Goals as goal

pub returns-in-None : goal.returns-in-None
returns-in-None c = ap coefficients_meant c.new.ensures.items ∙ none_read ∙ ap (λ (g : Option Trees). coefficients_of (given_view g)) (sym c.in-None.is)
