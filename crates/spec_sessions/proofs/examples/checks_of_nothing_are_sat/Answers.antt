-- What is written for checks of nothing.
use Rattle.std.proofs.Common.{None, [], ◌∷◌, All, refl}
use Rattle.std.proofs.lemmas.List.Elements.{All-nil, All-cons}
use Rattle.spec_text.specs.Readings.{IsReadUpTo}
use Rattle.spec_sorts.specs.Written.{trees_in}
use Rattle.spec_commands.specs.OnLiterals.{commands_on_literals}
use Rattle.spec_sessions.specs.States.{first_state}
use Rattle.spec_sessions.specs.Evidence.{model}
use Rattle.spec_sessions.specs.Responses.{solve, certify}
use Rattle.spec_sessions.specs.Transcripts.{checks_in}
use Rattle.spec_sessions.specs.Examples.{limits, answers_of, tables, checks_alone}
use Rattle.spec_sessions.proofs.Computed.{IsJustified, nothing, nothing_asked, transcript_of}
use Rattle.spec_sessions.proofs.examples.checks_of_nothing_are_sat.Goals as goal

empty_read : IsReadUpTo [] (trees_in []) None
unfolding commands_on_literals
empty_read = record { rest = []; trees = refl; stop = None; stops = refl; is = refl }

pub returns-clause-nothing : goal.returns-clause-nothing
unfolding commands_on_literals answers_of
returns-clause-nothing c = transcript_of limits solve [] (trees_in []) [] empty_read (All-nil (IsJustified limits))

read : IsReadUpTo checks_alone (trees_in checks_alone) None
unfolding commands_on_literals
read = record { rest = []; trees = refl; stop = None; stops = refl; is = refl }

justified : All (IsJustified limits) (checks_in (answers_of limits first_state (trees_in checks_alone) (model tables ∷ model tables ∷ [])))
unfolding commands_on_literals answers_of
justified = All-cons (IsJustified limits) nothing (nothing ∷ []) nothing_asked (All-cons (IsJustified limits) nothing [] nothing_asked (All-nil (IsJustified limits)))

pub returns-clause-checks : goal.returns-clause-checks
unfolding commands_on_literals answers_of
returns-clause-checks c = transcript_of limits certify checks_alone (trees_in checks_alone) (model tables ∷ model tables ∷ []) read justified
