-- What the tree of an s-expression asks, or a fault that is in it.
use Rattle.std.proofs.Common.{Some, sym, ap, ◌∙◌}
use Rattle.std.specs.Prelude.{Err, option_map}
use Rattle.spec_text.specs.declared.Fault.TheVariants.{BadShape}
use Rattle.smt_question.specs.Questions.{question_view, asked}
use Rattle.smt_question.proofs.QuestionTrees.{nothing_asked, question_asked, misshapen_question, asked_in}
use Rattle.smt_question.proofs.reading.question.Goals as goal

pub returns-in-None : goal.returns-in-None
returns-in-None c = nothing_asked _ (c.in-None.ensures ∙ ap asked c.trees.ensures.tree)

pub returns-in-Some-found : goal.returns-in-Some-found
returns-in-Some-found c =
    question_asked _ c.in-Some.at _ ((λ i. Some (c.in-Some.at, option_map question_view (sym c.in-Some-found.is i))) ∙ c.in-Some.ensures ∙ ap asked c.trees.ensures.tree)

pub place-requires-clause-behind : goal.place-requires-clause-behind
place-requires-clause-behind c = (asked_in c.args.sexpr.now _ _ (c.in-Some.ensures ∙ ap asked c.trees.ensures.tree) c.offsets_have_places.ensures).0

pub place-requires-clause-within : goal.place-requires-clause-within
place-requires-clause-within c = (asked_in c.args.sexpr.now _ _ (c.in-Some.ensures ∙ ap asked c.trees.ensures.tree) c.offsets_have_places.ensures).1

pub returns-in-None-found : goal.returns-in-None-found
returns-in-None-found c = (
  misshapen_question _ c.in-Some.at ((λ i. Some (c.in-Some.at, option_map question_view (sym c.in-None-found.is i))) ∙ c.in-Some.ensures ∙ ap asked c.trees.ensures.tree)
      ∙ (λ i. Some (Err (record { offset = sym c.place.ensures.offset i; fault = BadShape }))),
  c.place.ensures.place,
)
