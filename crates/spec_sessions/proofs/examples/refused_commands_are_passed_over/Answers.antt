-- What is written for refused commands.
use Rattle.std.proofs.Common.{true, None, List, [], ◌∷◌, All, refl, arith}
use Rattle.std.specs.Fmt.{digits}
use Rattle.std.proofs.lemmas.List.Elements.{All-from_recursion}
use Rattle.spec_text.specs.Readings.{IsReadUpTo}
use Rattle.spec_sorts.specs.Written.{trees_in}
use Rattle.spec_numbers.specs.Fractions.{gcd, times, inverse, opposite, compare}
use Rattle.spec_numbers.proofs.Field.{zero-reduced}
use Rattle.spec_sorts.specs.Values.{truth, IsTableOf}
use Rattle.spec_sorts.specs.Signatures.{symbols_in}
use Rattle.spec_sorts.specs.Meaning.{value_of}
use Rattle.spec_commands.specs.Stack.{signature_of}
use Rattle.spec_commands.specs.Checks.{asked, IsTrueAssertion}
use Rattle.spec_commands.specs.OnLiterals.{commands_on_literals}
use Rattle.spec_sessions.specs.States.{first_state}
use Rattle.spec_sessions.specs.Evidence.{Found, Checked, model, IsModelOf}
use Rattle.spec_sessions.specs.Responses.{solve}
use Rattle.spec_sessions.specs.Transcripts.{checks_in}
use Rattle.spec_sessions.specs.Examples.{limits, four, answers_of, tables, refusals, numbers, large}
use Rattle.spec_sessions.proofs.Computed.{IsJustified, bare, first_of, after_first, one_check, transcript_of}
use Rattle.spec_sessions.proofs.examples.refused_commands_are_passed_over.Goals as goal

refusals_read : IsReadUpTo refusals (trees_in refusals) None
unfolding commands_on_literals
refusals_read = record { rest = []; trees = refl; stop = None; stops = refl; is = refl }

-- its check, where nothing is asserted
abbrev refusals_check : Checked
refusals_check = first_of (checks_in (answers_of limits first_state (trees_in refusals) (model tables ∷ [])))

refusals_model : IsModelOf refusals_check.check tables
unfolding commands_on_literals answers_of
refusals_model = record { interprets = λ k d l. absurd (omega (arith, l)); each = λ k d l. absurd (omega (arith, l)) }

refusals_justified : All (IsJustified limits) (checks_in (answers_of limits first_state (trees_in refusals) (model tables ∷ [])))
unfolding commands_on_literals answers_of
refusals_justified = one_check limits (checks_in (answers_of limits first_state (trees_in refusals) (model tables ∷ []))) refl refusals_model

pub returns-clause-names : goal.returns-clause-names
unfolding commands_on_literals answers_of digits
returns-clause-names c = transcript_of limits solve refusals (trees_in refusals) (model tables ∷ []) refusals_read refusals_justified

numbers_read : IsReadUpTo numbers (trees_in numbers) None
unfolding commands_on_literals
numbers_read = record { rest = []; trees = refl; stop = None; stops = refl; is = refl }

-- what was found at its three checks
abbrev numbers_found : List Found
numbers_found = model tables ∷ model tables ∷ model tables ∷ []

abbrev numbers_checks : List Checked
numbers_checks = checks_in (answers_of limits first_state (trees_in numbers) numbers_found)

-- at the first a number is declared
abbrev numbers_first : Checked
numbers_first = first_of numbers_checks

first_model : IsModelOf numbers_first.check tables
unfolding commands_on_literals answers_of
first_model = record {
  interprets = All-from_recursion (λ s. IsTableOf s (tables.table s.name)) (symbols_in (signature_of numbers_first.check.stack)) (bare zero-reduced, tt);
  each = λ k d l. absurd (omega (arith, l));
}

-- at the second it is compared
abbrev numbers_second : Checked
numbers_second = first_of (after_first numbers_checks)

second_model : IsModelOf numbers_second.check tables
unfolding commands_on_literals answers_of value_of gcd times inverse opposite compare
second_model = record {
  interprets = All-from_recursion (λ s. IsTableOf s (tables.table s.name)) (symbols_in (signature_of numbers_second.check.stack)) (bare zero-reduced, tt);
  each = All-from_recursion (IsTrueAssertion tables (signature_of numbers_second.check.stack)) (asked numbers_second.check) (refl {a = truth true}, tt);
}

-- at the third a function gives one
abbrev numbers_third : Checked
numbers_third = first_of (after_first (after_first numbers_checks))

third_model : IsModelOf numbers_third.check tables
unfolding commands_on_literals answers_of value_of gcd times inverse opposite compare
third_model = record {
  interprets = All-from_recursion (λ s. IsTableOf s (tables.table s.name)) (symbols_in (signature_of numbers_third.check.stack)) (bare zero-reduced, (bare zero-reduced, tt));
  each = All-from_recursion (IsTrueAssertion tables (signature_of numbers_third.check.stack)) (asked numbers_third.check) (refl {a = truth true}, (refl {a = truth true}, tt));
}

numbers_justified : All (IsJustified limits) numbers_checks
unfolding commands_on_literals answers_of
numbers_justified = All-from_recursion (IsJustified limits) numbers_checks (first_model, (second_model, (third_model, tt)))

pub returns-clause-numbers : goal.returns-clause-numbers
unfolding commands_on_literals answers_of digits
returns-clause-numbers c = transcript_of limits solve numbers (trees_in numbers) numbers_found numbers_read numbers_justified

large_read : IsReadUpTo large (trees_in large) None
unfolding commands_on_literals
large_read = record { rest = []; trees = refl; stop = None; stops = refl; is = refl }

-- its check, of what fits in
abbrev large_check : Checked
large_check = first_of (checks_in (answers_of four first_state (trees_in large) (model tables ∷ [])))

large_model : IsModelOf large_check.check tables
unfolding commands_on_literals answers_of value_of
large_model = record {
  interprets = All-from_recursion (λ s. IsTableOf s (tables.table s.name)) (symbols_in (signature_of large_check.check.stack)) (bare tt, (bare tt, tt));
  each = All-from_recursion (IsTrueAssertion tables (signature_of large_check.check.stack)) (asked large_check.check) (refl {a = truth true}, tt);
}

large_justified : All (IsJustified four) (checks_in (answers_of four first_state (trees_in large) (model tables ∷ [])))
unfolding commands_on_literals answers_of
large_justified = one_check four (checks_in (answers_of four first_state (trees_in large) (model tables ∷ []))) refl large_model

pub returns-clause-large : goal.returns-clause-large
unfolding commands_on_literals answers_of digits
returns-clause-large c = transcript_of four solve large (trees_in large) (model tables ∷ []) large_read large_justified
