-- What is written for declared sorts, functions and constants.
use Rattle.std.proofs.Common.{true, None, [], ◌∷◌, All, refl}
use Rattle.std.proofs.lemmas.List.Elements.{All-from_recursion}
use Rattle.spec_text.specs.Readings.{IsReadUpTo}
use Rattle.spec_numbers.proofs.Field.{zero-reduced}
use Rattle.spec_sorts.specs.Written.{trees_in}
use Rattle.spec_sorts.specs.Values.{truth, IsTableOf}
use Rattle.spec_sorts.specs.Signatures.{symbols_in}
use Rattle.spec_sorts.specs.Meaning.{value_of}
use Rattle.spec_commands.specs.Stack.{signature_of}
use Rattle.spec_commands.specs.Checks.{asked, IsTrueAssertion}
use Rattle.spec_commands.specs.OnLiterals.{commands_on_literals}
use Rattle.spec_models.specs.Values.{numeral}
use Rattle.spec_sessions.specs.States.{first_state}
use Rattle.spec_sessions.specs.Evidence.{Checked, model, IsModelOf}
use Rattle.spec_sessions.specs.Responses.{certify}
use Rattle.spec_sessions.specs.Transcripts.{checks_in}
use Rattle.spec_sessions.specs.Examples.{limits, answers_of, tables, functions}
use Rattle.spec_sessions.proofs.Computed.{IsJustified, bare, first_of, one_check, transcript_of}
use Rattle.spec_sessions.proofs.examples.models_have_each_symbol.Goals as goal

read : IsReadUpTo functions (trees_in functions) None
unfolding commands_on_literals
read = record { rest = []; trees = refl; stop = None; stops = refl; is = refl }

-- the check, with its model
abbrev here : Checked
here = first_of (checks_in (answers_of limits first_state (trees_in functions) (model tables ∷ [])))

model_here : IsModelOf here.check tables
unfolding commands_on_literals answers_of value_of
model_here = record {
  interprets = All-from_recursion (λ s. IsTableOf s (tables.table s.name)) (symbols_in (signature_of here.check.stack)) (bare zero-reduced, (bare tt, (bare refl, (bare tt, tt))));
  each = All-from_recursion (IsTrueAssertion tables (signature_of here.check.stack)) (asked here.check) (refl {a = truth true}, (refl {a = truth true}, tt));
}

justified : All (IsJustified limits) (checks_in (answers_of limits first_state (trees_in functions) (model tables ∷ [])))
unfolding commands_on_literals answers_of
justified = one_check limits (checks_in (answers_of limits first_state (trees_in functions) (model tables ∷ []))) refl model_here

pub returns : goal.returns
unfolding commands_on_literals answers_of numeral
returns c = transcript_of limits certify functions (trees_in functions) (model tables ∷ []) read justified
