-- No parameters, and Bool.
use Rattle.std.proofs.Common.{refl, sym, ap, ◌∙◌}
use Rattle.spec_sorts.specs.Terms.{Number, Declared}
use Rattle.term_core.specs.Symbols.{sort_name, sort_meant, sorts_meant}
use Rattle.assertion_stack.proofs.ReadLiterals.{has_rank, truth_alone, other_values}
use Rattle.assertion_stack.proofs.literals.is_of_proposition.Goals as goal

pub returns-in-Bool : goal.returns-in-Bool
returns-in-Bool c =
    let ps = c.args.parameters.now in
    λ sorts. truth_alone sorts ps c.is_empty.result c.is_empty.ensures ∙ ap (λ r. has_rank (sorts_meant sorts ps) (sort_meant sorts r)) (sym c.in-Bool.is)

pub returns-in-Real : goal.returns-in-Real
returns-in-Real c =
    let ps = c.args.parameters.now in
    λ sorts. other_values (sorts_meant sorts ps) Number refl ∙ ap (λ r. has_rank (sorts_meant sorts ps) (sort_meant sorts r)) (sym c.in-Real.is)

pub returns-in-Declared : goal.returns-in-Declared
returns-in-Declared c =
    let ps = c.args.parameters.now in
    λ sorts. other_values (sorts_meant sorts ps) (Declared (sort_name sorts c.in-Declared.field-0)) refl ∙ ap (λ r. has_rank (sorts_meant sorts ps) (sort_meant sorts r)) (sym c.in-Declared.is)
