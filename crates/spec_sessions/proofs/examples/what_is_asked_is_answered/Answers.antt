-- What is written where a model and values are asked for.
use Rattle.std.proofs.Common.{None, [], ◌∷◌, All, refl, arith}
use Rattle.std.specs.Fmt.{digits}
use Rattle.std.proofs.lemmas.List.Elements.{All-from_recursion}
use Rattle.spec_text.specs.Readings.{IsReadUpTo}
use Rattle.spec_numbers.specs.Fractions.{compare}
use Rattle.spec_numbers.proofs.Field.{zero-reduced}
use Rattle.spec_sorts.specs.BoundedValues.{folded, bounded_value}
use Rattle.spec_sorts.specs.Written.{trees_in}
use Rattle.spec_sorts.specs.Values.{IsTableOf}
use Rattle.spec_sorts.specs.Signatures.{symbols_in}
use Rattle.spec_commands.specs.Stack.{signature_of}
use Rattle.spec_commands.specs.OnLiterals.{commands_on_literals}
use Rattle.spec_models.specs.Values.{numeral}
use Rattle.spec_sessions.specs.States.{first_state}
use Rattle.spec_sessions.specs.Evidence.{Checked, model, IsModelOf}
use Rattle.spec_sessions.specs.Questions.{value_question, only_keyword}
use Rattle.spec_sessions.specs.Replies.{valued}
use Rattle.spec_sessions.specs.Responses.{solve}
use Rattle.spec_sessions.specs.Transcripts.{checks_in}
use Rattle.spec_sessions.specs.Examples.{limits, answers_of, tables, asked_for}
use Rattle.spec_sessions.proofs.Computed.{IsJustified, bare, first_of, one_check, transcript_of}
use Rattle.spec_sessions.proofs.examples.what_is_asked_is_answered.Goals as goal

read : IsReadUpTo asked_for (trees_in asked_for) None
unfolding commands_on_literals
read = record { rest = []; trees = refl; stop = None; stops = refl; is = refl }

-- the check, with its model
abbrev here : Checked
here = first_of (checks_in (answers_of limits first_state (trees_in asked_for) (model tables ∷ [])))

model_here : IsModelOf here.check tables
unfolding commands_on_literals answers_of value_question only_keyword valued bounded_value folded numeral compare digits
model_here = record {
  interprets = All-from_recursion (λ s. IsTableOf s (tables.table s.name)) (symbols_in (signature_of here.check.stack)) (bare zero-reduced, tt);
  each = λ k d l. absurd (omega (arith, l));
}

justified : All (IsJustified limits) (checks_in (answers_of limits first_state (trees_in asked_for) (model tables ∷ [])))
unfolding commands_on_literals answers_of value_question only_keyword valued bounded_value folded numeral compare digits
justified = one_check limits (checks_in (answers_of limits first_state (trees_in asked_for) (model tables ∷ []))) refl model_here

pub returns : goal.returns
unfolding commands_on_literals answers_of value_question only_keyword valued bounded_value folded numeral compare digits
returns c = transcript_of limits solve asked_for (trees_in asked_for) (model tables ∷ []) read justified
