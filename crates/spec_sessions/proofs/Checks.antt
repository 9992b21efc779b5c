-- That the checks that are answered are those of the script.
use Rattle.std.proofs.Common.{◌≡◌, ℕ, suc, Bool, List, [], ◌∷◌, ◌++◌, length, ◌+◌, Option, Some, None, refl, sym, ap, ◌∙◌, subst, arith}
use Rattle.std.specs.Prelude.{Ok, Err}
use Rattle.spec_text.specs.Answers.{Answer}
use Rattle.spec_text.specs.Trees.{Tree, Trees, none, more, offset_of}
use Rattle.spec_commands.specs.Commands.{command_of}
use Rattle.spec_commands.specs.Stack.{Stack, Effect, done, unsupported, check, say, leave, Taken, step}
use Rattle.spec_commands.specs.Checks.{Check, after_effect, after_command, current_at}
use Rattle.spec_sessions.specs.Evidence.{Limits, Checked, Justifies}
use Rattle.spec_sessions.specs.States.{State, states_nothing}
use Rattle.spec_sessions.specs.Questions.{Question, question_of}
use Rattle.spec_sessions.specs.Replies.{Reply, says, not_known}
use Rattle.spec_sessions.specs.Responses.{Response, state_after, Answered, AnswersBy, Responds, response_of, answer_to, AnswersTree}
use Rattle.spec_sessions.specs.Transcripts.{Follows, Begins, with_check, checks_in}
use Rattle.spec_sessions.specs.Meaning.{AnswerSays, AllSay}
use Rattle.spec_sessions.proofs.NoCommands.{question_is_no_command}

-- nothing has no part
no_part : (before : List Checked) (c : Checked) (after : List Checked) → [] ≡ before ++ c ∷ after → ⊥
no_part [] c after e = cc
no_part (b ∷ before) c after e = cc

module _ (limits : Limits) where
  -- after a stack, the k-th check among commands is this one, and shows what it should
  abbrev Is : Stack → ℕ → Trees → Checked → Type 0
  Is s k ts c = (current_at limits.terms s k ts ≡ Some c.check) × Justifies limits c.check c.found

  -- so is each check
  abbrev AreAll : Trees → Type 0
  AreAll ts = (s : State) (given : List Answered) → Begins limits s ts given → (before : List Checked) (c : Checked) (after : List Checked) → checks_in given ≡ before ++ c ∷ after → Is s.stack (suc (length before)) ts c

  module _ (ts : Trees) (rest : AreAll ts) (given : List Answered) where
    -- the check is among what follows
    abbrev Later : Effect → Stack → List Checked → Checked → Type 0
    Later effect s before c = (after_effect effect s (suc (length before)) (λ next n. current_at limits.terms next n ts) ≡ Some c.check) × Justifies limits c.check c.found

    at_found : (place : ℕ) (n : State) (x : Checked) → x.check.stack ≡ n.stack → Justifies limits x.check x.found → (before : List Checked) (c : Checked) (after : List Checked) → Begins limits n ts given → x ∷ checks_in given ≡ before ++ c ∷ after → Later (check place x.check.assumptions) n.stack before c
    at_found place n x same shown [] c after runs e =
        let is : x ≡ c = cc in
        let over : Stack → Option Check = λ m. Some (record { stack = m; assumptions = x.check.assumptions }) in
        (ap over (sym same) ∙ ap (λ (y : Checked). Some y.check) is, subst (λ (y : Checked). Justifies limits y.check y.found) is shown)
    at_found place n x same shown (b ∷ before) c after runs e = rest n given runs before c after cc

    -- by the effect of a command that was taken
    at_effect : (effect : Effect) (n : State) (r : Response) → Responds limits n.stack effect r → (before : List Checked) (c : Checked) (after : List Checked) → Follows r (Begins limits n ts) given → with_check r (checks_in given) ≡ before ++ c ∷ after → Later effect n.stack before c
    at_effect done n r is before c after = subst (λ x. Follows x (Begins limits n ts) given → with_check x (checks_in given) ≡ before ++ c ∷ after → Later done n.stack before c) (sym is) (λ follows e. rest n given follows before c after e)
    at_effect unsupported n r is before c after = subst (λ x. Follows x (Begins limits n ts) given → with_check x (checks_in given) ≡ before ++ c ∷ after → Later unsupported n.stack before c) (sym is) (λ follows e. rest n given follows before c after e)
    at_effect (check place assumptions) n r (f, shown, is) before c after =
        let x : Checked = record { check = record { stack = n.stack; assumptions = assumptions }; found = f } in
        subst (λ y. Follows y (Begins limits n ts) given → with_check y (checks_in given) ≡ before ++ c ∷ after → Later (check place assumptions) n.stack before c) (sym is) (λ follows e. at_found place n x refl shown before c after follows e)
    at_effect (say text) n r is before c after = subst (λ x. Follows x (Begins limits n ts) given → with_check x (checks_in given) ≡ before ++ c ∷ after → Later (say text) n.stack before c) (sym is) (λ follows e. rest n given follows before c after e)
    at_effect leave n r is before c after = subst (λ x. Follows x (Begins limits n ts) given → with_check x (checks_in given) ≡ before ++ c ∷ after → Later leave n.stack before c) (sym is) (λ nothing e. absurd (no_part before c after (sym (ap checks_in nothing) ∙ e)))

    -- by what a command comes to
    at_command : (s : State) (keeps : Bool) (o : Answer Taken) (a : Answered) → AnswersBy limits s keeps o a → (before : List Checked) (c : Checked) (after : List Checked) → Follows a.response (Begins limits a.state ts) given → with_check a.response (checks_in given) ≡ before ++ c ∷ after
        → (after_command s.stack (suc (length before)) o (λ next n. current_at limits.terms next n ts) ≡ Some c.check) × Justifies limits c.check c.found
    at_command s keeps (Ok d) a (responds, is) before c after =
        subst (λ n. Follows a.response (Begins limits n ts) given → with_check a.response (checks_in given) ≡ before ++ c ∷ after → Later d.effect d.stack before c) (sym is) (at_effect d.effect (state_after keeps s d.stack a.response) a.response responds before c after)
    at_command s keeps (Err f) a (is, same) before c after =
        subst (λ x. Follows x (Begins limits a.state ts) given → with_check x (checks_in given) ≡ before ++ c ∷ after → Is s.stack (suc (length before)) ts c) (sym is)
        (subst (λ n. Begins limits n ts given → checks_in given ≡ before ++ c ∷ after → Is s.stack (suc (length before)) ts c) (sym same) (λ runs e. rest s given runs before c after e))

    -- after a question all else is as before it
    at_reply : (x : Answer Reply) (s : State) (before : List Checked) (c : Checked) (after : List Checked) → Follows (response_of x) (Begins limits s ts) given → with_check (response_of x) (checks_in given) ≡ before ++ c ∷ after → Is s.stack (suc (length before)) ts c
    at_reply (Ok (says lines)) s before c after runs e = rest s given runs before c after e
    at_reply (Ok not_known) s before c after runs e = rest s given runs before c after e
    at_reply (Err f) s before c after runs e = rest s given runs before c after e

    -- by what a tree is
    at_tree : (s : State) (t : Tree) (asked : Option (Answer Question)) → question_of t ≡ asked → (a : Answered) → AnswersTree limits s t asked a → (before : List Checked) (c : Checked) (after : List Checked) → Follows a.response (Begins limits a.state ts) given → with_check a.response (checks_in given) ≡ before ++ c ∷ after
        → (after_command s.stack (suc (length before)) (step limits.terms s.stack t) (λ next n. current_at limits.terms next n ts) ≡ Some c.check) × Justifies limits c.check c.found
    at_tree s t None is a answers before c after = at_command s (states_nothing (command_of t)) (step limits.terms s.stack t) a answers before c after
    at_tree s t (Some asked) is a (response, same) before c after =
        let x = answer_to limits s (offset_of t) asked in
        let no = question_is_no_command limits.terms s.stack t asked is in
        subst (λ (o : Answer Taken). Follows a.response (Begins limits a.state ts) given → with_check a.response (checks_in given) ≡ before ++ c ∷ after → (after_command s.stack (suc (length before)) o (λ next n. current_at limits.terms next n ts) ≡ Some c.check) × Justifies limits c.check c.found) (sym no.1)
        (subst (λ r. Follows r (Begins limits a.state ts) given → with_check r (checks_in given) ≡ before ++ c ∷ after → Is s.stack (suc (length before)) ts c) (sym response)
        (subst (λ m. Follows (response_of x) (Begins limits m ts) given → with_check (response_of x) (checks_in given) ≡ before ++ c ∷ after → Is s.stack (suc (length before)) ts c) (sym same) (at_reply x s before c after)))

  -- each check that is answered is that of its number
  pub each_is_its_check : (ts : Trees) → AreAll ts
  unfolding Begins current_at
  each_is_its_check none s [] runs before c after e = absurd (no_part before c after e)
  each_is_its_check none s (a ∷ given) runs before c after e = absurd runs
  each_is_its_check (more t ts) s [] runs before c after e = absurd (no_part before c after e)
  each_is_its_check (more t ts) s (a ∷ given) runs before c after e = at_tree ts (each_is_its_check ts) given s t (question_of t) refl a runs.0 before c after runs.1 e

-- what each of the checks says by its place, all of them say
pub all_say : (limits : Limits) (text : List ℕ) (cs : List Checked) (k : ℕ) → ((before : List Checked) (c : Checked) (after : List Checked) → cs ≡ before ++ c ∷ after → AnswerSays limits text (suc (k + length before)) c) → AllSay limits text k cs
all_say limits text [] k h = tt
all_say limits text (c ∷ cs) k h = (subst (λ n. AnswerSays limits text n c) (omega arith) (h [] c cs refl), all_say limits text cs (suc k) (λ before d after e. subst (λ n. AnswerSays limits text n d) (omega arith) (h (c ∷ before) d after (ap (λ xs. c ∷ xs) e))))
