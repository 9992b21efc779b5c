-- The value of the conjunction that was put.
use Rattle.std.proofs.Common.{[], sym, ap, ◌∙◌}
use Rattle.spec_sorts.specs.BoundedValues.{bounded_value}
use Rattle.term_walks.specs.Valuations.{value_meant}
use Rattle.model_judge.proofs.AllTrue.{represents_kept}
use Rattle.model_judge.proofs.conjunctions.is_true.Goals as goal

pub returns-in-Ok-clause-shown : goal.returns-in-Ok-clause-shown
returns-in-Ok-clause-shown c i h e =
    let new = c.conjunction.new.table in
    let put = rw c.in-Ok-Some.field-0-is at c.in-Ok-Some.ensures.there in (
      value_meant new.sorts c.in-Ok.found,
      sym (ap (bounded_value i []) put.1) ∙ c.in-Ok.ensures.exact i (represents_kept c.args.table.now new c.in-Ok-Some.ensures.keeps c.args.interp.now i h),
      sym (c.is_true.ensures new.sorts) ∙ e,
    )
