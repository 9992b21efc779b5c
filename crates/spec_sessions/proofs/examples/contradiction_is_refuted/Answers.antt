-- What is written for a contradiction.
use Rattle.std.proofs.Common.{◌≡◌, true, [], ◌∷◌, All, Option, Some, None, refl, sym, subst}
use Rattle.spec_sorts.specs.Written.{trees_in}
use Rattle.spec_sorts.specs.Signatures.{is_some}
use Rattle.spec_commands.specs.Stack.{empty_stack}
use Rattle.spec_commands.specs.Checks.{Check, term_limit, current_at}
use Rattle.spec_commands.specs.OnLiterals.{commands_on_literals}
use Rattle.spec_checking.specs.Examples.{contradiction, check_or_none, the_check}
use Rattle.spec_checking.specs.ProofTexts.{contradiction_is_read}
use Rattle.spec_models.specs.Values.{numeral}
use Rattle.spec_proof_texts.specs.Lines.{proof_text}
use Rattle.spec_proof_texts.specs.Examples.{refutation}
use Rattle.spec_sessions.specs.States.{first_state}
use Rattle.spec_sessions.specs.Evidence.{Found, proof}
use Rattle.spec_sessions.specs.Responses.{certify}
use Rattle.spec_sessions.specs.Transcripts.{checks_in}
use Rattle.spec_sessions.specs.Examples.{limits, answers_of}
use Rattle.spec_sessions.proofs.Computed.{IsJustified, one_check, first_check, transcript_of}
use Rattle.spec_sessions.proofs.Refuted.{shown}
use Rattle.spec_sessions.proofs.examples.contradiction_is_refuted.Goals as goal

-- what was found
abbrev found : Found
found = proof (proof_text refutation)

-- the check is there
there : (o : Option Check) → is_some o ≡ true → o ≡ Some (check_or_none o)
there (Some c) e = refl
there None e = cc

is_there : is_some (current_at term_limit empty_stack 1 (trees_in contradiction)) ≡ true
unfolding commands_on_literals
is_there = refl

justified : All (IsJustified limits) (checks_in (answers_of limits first_state (trees_in contradiction) (found ∷ [])))
unfolding commands_on_literals answers_of
justified =
    let first = first_check limits first_state (trees_in contradiction) (found ∷ []) the_check (there (current_at term_limit empty_stack 1 (trees_in contradiction)) is_there) in
    one_check limits (checks_in (answers_of limits first_state (trees_in contradiction) (found ∷ []))) refl (subst (IsJustified limits) (sym first) shown)

pub returns : goal.returns
unfolding commands_on_literals answers_of numeral
returns c = transcript_of limits certify contradiction (trees_in contradiction) (found ∷ []) contradiction_is_read justified
