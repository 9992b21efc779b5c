-- That each answer says what is so of its check.
use Rattle.std.proofs.Common.{ℕ, suc, length, List, Option, subst, arith}
use Rattle.spec_text.specs.Faults.{Located}
use Rattle.spec_text.specs.Trees.{Trees}
use Rattle.spec_text.specs.Readings.{IsReadUpTo}
use Rattle.spec_commands.specs.Checks.{IsCurrent}
use Rattle.spec_sessions.specs.States.{first_state}
use Rattle.spec_sessions.specs.Evidence.{Limits, Checked, Justifies}
use Rattle.spec_sessions.specs.Responses.{Answered}
use Rattle.spec_sessions.specs.Transcripts.{Begins, checks_in}
use Rattle.spec_sessions.specs.Meaning.{AnswerSays, AllSay}
use Rattle.spec_sessions.proofs.Running.{begins_all}
use Rattle.spec_sessions.proofs.Checks.{each_is_its_check, all_say}
use Rattle.spec_sessions.proofs.laws.answers_say_what_is_so.Goals as goal

-- of what the first of the commands are answered
begun : (limits : Limits) (text : List ℕ) → ((k : ℕ) (c : Checked) → IsCurrent limits.terms text k c.check → Justifies limits c.check c.found → AnswerSays limits text k c)
    → (commands : Trees) (end : Option Located) → IsReadUpTo text commands end → (given : List Answered) → Begins limits first_state commands given → AllSay limits text 0 (checks_in given)
begun limits text says commands end read given begins = all_say limits text (checks_in given) 0 (λ before c after e.
    let is = each_is_its_check limits commands first_state given begins before c after e in
    subst (λ n. AnswerSays limits text n c) (omega arith) (says (suc (length before)) c (record { commands = commands; end = end; read = read; here = is.0 }) is.1))

pub returns-clause-whole : goal.returns-clause-whole
returns-clause-whole c = λ limits mode text out refused t. begun limits text (c.what_is_shown_is_so.ensures.text limits text) t.commands t.end t.read t.answers (begins_all limits first_state t.commands t.answers t.runs)

pub returns-clause-begun : goal.returns-clause-begun
returns-clause-begun c = λ limits mode text out t. begun limits text (c.what_is_shown_is_so.ensures.text limits text) t.commands t.end t.read t.answers t.begins
