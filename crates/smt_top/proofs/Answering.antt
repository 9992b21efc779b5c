-- The commands of a text that were answered up to an offset, of which no other than the last had anything written for it.
use Rattle.std.proofs.Common.{◌≡◌, ◌∙◌, refl, sym, ap, subst, ℕ, ◌+◌, Bool, true, false, ◌||◌, List, [], ◌∷◌, ◌++◌, length, Option, Some, None, Ok, Err, append-nil, arith}
use Rattle.std.specs.Prelude.{◌==◌}
use Rattle.std.proofs.lemmas.Bool.Decides.{nat_tests}
use Rattle.std.specs.List.{list_any}
use Rattle.spec_text.specs.Answers.{Answer}
use Rattle.spec_text.specs.declared.Place.{Place}
use Rattle.spec_text.specs.Lexemes.{lexemes, lexemes_from}
use Rattle.spec_text.specs.Trees.{Tree, Trees, none, more, spelled}
use Rattle.spec_text.specs.Readings.{kept, is_long, limited, AreTrees}
use Rattle.spec_commands.specs.Stack.{Taken, step}
use Rattle.spec_commands.specs.Commands.{command_of}
use Rattle.spec_sessions.specs.Evidence.{Limits, Found, model, proof, spent, overflowed, Checked}
use Rattle.spec_sessions.specs.States.{State, first_state, answer_kept, states_nothing}
use Rattle.spec_sessions.specs.Questions.{Question, question_of}
use Rattle.spec_sessions.specs.Replies.{Reply, says, not_known}
use Rattle.spec_sessions.specs.Responses.{certify, Response, success, not_supported, answered, echoed, ended, replied, rejected, Answered, Answers, AnswersTree, AnswersBy, answer_after, response_of, answer_text, evidence_text, text_for, response_text, is_rejected, is_end}
use Rattle.spec_sessions.specs.Transcripts.{Follows, Runs, state_left, answers_text, closing_by, closing, closing_text, is_fault, with_check, checks_in}
use Rattle.spec_sessions.proofs.Running.{going_after, left_by_last, answers_more, told_more, ends_more}
use Rattle.smt_sexpr.specs.declared.sexpr.Sexpr.{Sexpr}
use Rattle.smt_sexpr.specs.Items.{text_of, tree_of}
use Rattle.smt_sexpr.specs.Reads.{ReadsSexpr}
use Rattle.check_evidence.specs.Evidence.{limits_meant, HasLearned}
use Rattle.smt_session.specs.declared.session.After.TheVariants as afters
use Rattle.smt_session.specs.Sessions.{mode_meant, SessionView, IsSession, IsAnswered, HasLists, after_meant, written_for}
use Rattle.smt_top.specs.Generated.{IsAnsweredAll}

-- the check that a response answers
abbrev answer_of : Response → Option Checked
answer_of (answered c) = Some c
answer_of _ = None

-- no question is a check
reply_is_none : (r : Answer Reply) → answer_of (response_of r) ≡ None
reply_is_none (Ok (says lines)) = refl
reply_is_none (Ok not_known) = refl
reply_is_none (Err f) = refl

kept_none : (keeps : Bool) → answer_kept keeps None ≡ None
kept_none true = refl
kept_none false = refl

-- after no answer there is that of the response
after_none : (keeps : Bool) (old : Option Checked) (r : Response) → old ≡ None → answer_after keeps old r ≡ answer_of r
after_none keeps old success e = ap (answer_kept keeps) e ∙ kept_none keeps
after_none keeps old not_supported e = ap (answer_kept keeps) e ∙ kept_none keeps
after_none keeps old (answered c) e = refl
after_none keeps old (echoed s) e = ap (answer_kept keeps) e ∙ kept_none keeps
after_none keeps old ended e = ap (answer_kept keeps) e ∙ kept_none keeps
after_none keeps old (replied lines) e = ap (answer_kept keeps) e ∙ kept_none keeps
after_none keeps old (rejected f) e = e

module _ (limits : Limits) (s : State) (a : Answered) (e : s.answer ≡ None) where
  by_command : (keeps : Bool) (d : Answer Taken) → AnswersBy limits s keeps d a → a.state.answer ≡ answer_of a.response
  by_command keeps (Ok d) h = ap (λ (x : State). x.answer) h.1 ∙ after_none keeps s.answer a.response e
  by_command keeps (Err f) h = ap (λ (x : State). x.answer) h.1 ∙ e ∙ sym (ap answer_of h.0)

  -- the last answer is then that of the response
  by_tree : (t : Tree) (asked : Option (Answer Question)) → AnswersTree limits s t asked a → a.state.answer ≡ answer_of a.response
  by_tree t (Some asked) h = ap (λ (x : State). x.answer) h.1 ∙ e ∙ sym (ap answer_of h.0 ∙ reply_is_none _)
  by_tree t None h = by_command (states_nothing (command_of t)) (step limits.terms s.stack t) h

-- what is answered is the check that the response answers
is_check : (r : Response) (c : Checked) → answer_of r ≡ Some c → r ≡ answered c
is_check success c e = cc
is_check not_supported c e = cc
is_check (answered d) c e = ap (λ (o : Option Checked). answered (or_else d o)) e
  where
    or_else : Checked → Option Checked → Checked
    or_else d None = d
    or_else d (Some c) = c
is_check (echoed s) c e = cc
is_check ended c e = cc
is_check (replied lines) c e = cc
is_check (rejected f) c e = cc

is_no_check : (r : Response) → answer_of r ≡ None → with_check r [] ≡ []
is_no_check success e = refl
is_no_check not_supported e = refl
is_no_check (answered c) e = cc
is_no_check (echoed s) e = refl
is_no_check ended e = refl
is_no_check (replied lines) e = refl
is_no_check (rejected f) e = refl

-- the checks of answers after which come others
with_more : (r : Response) (cs ds : List Checked) → with_check r (cs ++ ds) ≡ with_check r cs ++ ds
with_more success cs ds = refl
with_more not_supported cs ds = refl
with_more (answered c) cs ds = refl
with_more (echoed s) cs ds = refl
with_more ended cs ds = refl
with_more (replied lines) cs ds = refl
with_more (rejected f) cs ds = refl

checks_later : (given later : List Answered) → checks_in (given ++ later) ≡ checks_in given ++ checks_in later
checks_later [] later = refl
checks_later (a ∷ given) later = ap (with_check a.response) (checks_later given later) ∙ with_more a.response (checks_in given) (checks_in later)

-- the line of an answer has bytes
answer_has_bytes : (f : Found) (rest : List ℕ) → answer_text f ++ rest ≡ [] → ⊥
answer_has_bytes (model i) rest e = cc
answer_has_bytes (proof text) rest e = cc
answer_has_bytes (spent n d learned) rest e = cc
answer_has_bytes (overflowed o k) rest e = cc

-- a command that was taken, and does not end the script
goes : (r : Response) → afters.Went ≡ after_meant r → (is_end r ≡ false) × (is_rejected r ≡ false)
goes success e = (refl, refl)
goes not_supported e = (refl, refl)
goes (answered c) e = (refl, refl)
goes (echoed s) e = (refl, refl)
goes ended e = cc
goes (replied lines) e = (refl, refl)
goes (rejected f) e = cc

nothing_follows : (r : Response) (P : List Answered → Type 0) → is_end r ≡ false → P [] → Follows r P []
nothing_follows success P e h = h
nothing_follows not_supported P e h = h
nothing_follows (answered c) P e h = h
nothing_follows (echoed s) P e h = h
nothing_follows ended P e h = refl
nothing_follows (replied lines) P e h = h
nothing_follows (rejected f) P e h = h

-- one command alone
alone : (limits : Limits) (s : State) (t : Tree) (a : Answered) → Answers limits s t a → is_end a.response ≡ false → Runs limits s (more t none) (a ∷ [])
unfolding Runs
alone limits s t a h e = (h, nothing_follows a.response (Runs limits a.state none) e refl)

no_closing : (b : Bool) → closing_by b None ≡ None
no_closing true = refl
no_closing false = refl

-- no bytes are none
pub no_bytes : (bytes : List ℕ) → (length bytes == 0) ≡ true → bytes ≡ []
no_bytes [] e = refl
no_bytes (b ∷ bytes) e =
    let none : length (b ∷ bytes) ≡ 0 = grind (arith, nat_tests, e) in
    absurd (omega (arith, none))

neither : (x y : Bool) → x ≡ false → y ≡ false → (x || y) ≡ false
neither true y e h = cc
neither false y e h = h

-- The commands of a text up to an offset were answered, and all of them were taken.
pub record AnsweredUpTo (limits : Limits) (text : List ℕ) (x : SessionView) (at : ℕ) (out : List ℕ) : Type 0 where
  pub commands : Trees
  pub trees : AreTrees (lexemes 0 0 (kept text)) commands (lexemes_from (kept text) at)
  pub given : List Answered
  pub runs : Runs limits first_state commands given
  pub goes_on : list_any (λ (a : Answered). is_end a.response) given ≡ false
  pub taken : list_any (λ (a : Answered). is_rejected a.response) given ≡ false
  pub represents : IsSession x (state_left first_state given)
  pub limits_are : limits_meant x.limits ≡ limits
  pub mode_is : mode_meant x.mode ≡ certify
  pub written : out ≡ answers_text certify (kept text) given
  -- where no answer counts, there was no check
  pub unanswered : (state_left first_state given).answer ≡ None → checks_in given ≡ []
  -- else it is that of the one check
  pub one : (c : Checked) → (state_left first_state given).answer ≡ Some c → (checks_in given ≡ c ∷ []) × (out ≡ answer_text c.found ++ evidence_text c)
      × HasLearned limits x.script.table c.check c.found x.script.budget

-- before the first command
pub none_answered : (text : List ℕ) (x : SessionView) (at : ℕ) (out : List ℕ) → at ≡ 0 → IsSession x first_state → mode_meant x.mode ≡ certify → out ≡ [] → AnsweredUpTo (limits_meant x.limits) text x at out
unfolding Runs
none_answered text x at out e represents mode empty = record {
  commands = none;
  trees = ap (lexemes_from (kept text)) (sym e);
  given = [];
  runs = refl;
  goes_on = refl;
  taken = refl;
  represents = represents;
  limits_are = refl;
  mode_is = mode;
  written = empty;
  unanswered = λ _. refl;
  one = λ c h. cc;
}

module _ (limits : Limits) (text : List ℕ) (x : SessionView) (at : ℕ) (out : List ℕ) (g : AnsweredUpTo limits text x at out) where
  abbrev before : State
  before = state_left first_state g.given

  -- all commands were answered
  pub all_answered : lexemes_from (kept text) at ≡ [] → is_long text ≡ false → IsAnsweredAll limits text x out
  all_answered end short =
      let ends : closing g.given None ≡ None = no_closing (list_any (λ (a : Answered). is_end a.response) g.given) in
      record {
        transcript = record {
          commands = g.commands;
          end = None;
          read = record { rest = lexemes_from (kept text) at; trees = g.trees; stop = None; stops = end; is = sym (ap (λ long. limited long None) short) };
          answers = g.given;
          runs = g.runs;
          written = g.written ∙ sym (append-nil (answers_text certify (kept text) g.given)) ∙ ap (λ end. answers_text certify (kept text) g.given ++ closing_text (kept text) end) (sym ends);
          told = sym (neither (list_any (λ (a : Answered). is_rejected a.response) g.given) (is_fault (closing g.given None)) g.taken (ap is_fault ends));
        };
        state = before;
        represents = g.represents;
        one = g.one;
      }

  module _ (empty : out ≡ []) where
    -- nothing was written, so there was no check
    not_answered : before.answer ≡ None
    not_answered = go before.answer refl
      where
        go : (o : Option Checked) → before.answer ≡ o → before.answer ≡ None
        go None e = e
        go (Some c) e = absurd (answer_has_bytes c.found (evidence_text c) (sym (g.one c e).1 ∙ empty))

    module _ (c : Sexpr) (from after : Place) (reads : ReadsSexpr (kept text) from c after) (here : from.offset ≡ at) (y : SessionView) (a : Answered) (answer : IsAnswered before c x y a) (went : afters.Went ≡ after_meant a.response) where
      answers : Answers limits before (tree_of c) a
      answers = subst (λ l. Answers l before (tree_of c) a) g.limits_are answer.answers

      -- it is the next tree
      first : lexemes_from (kept text) at ≡ spelled (tree_of c) ++ lexemes_from (kept text) after.offset
      first = subst (λ n. lexemes_from (kept text) n ≡ spelled (tree_of c) ++ lexemes_from (kept text) after.offset) here reads.is.first

      one_tree : AreTrees (lexemes_from (kept text) at) (more (tree_of c) none) (lexemes_from (kept text) after.offset)
      one_tree = first ∙ ap (λ xs. xs ++ lexemes_from (kept text) after.offset) (sym (append-nil (spelled (tree_of c))))

      left : (state_left first_state (g.given ++ a ∷ [])).answer ≡ answer_of a.response
      left = ap (λ (s : State). s.answer) (left_by_last first_state g.given a) ∙ by_tree limits before a not_answered (tree_of c) (question_of (tree_of c)) answers

      checks : checks_in (g.given ++ a ∷ []) ≡ with_check a.response []
      checks = checks_later g.given (a ∷ []) ∙ ap (λ cs. cs ++ with_check a.response []) (g.unanswered not_answered)

      response : written_for x c a ≡ response_text certify (kept text) a
      response = ap (λ m. response_text m (text_of c) a) g.mode_is ∙ ap (λ bs. response_text certify bs a) reads.is.text_is

      -- the next command was answered
      pub answered_next : (y.limits ≡ x.limits) × (y.mode ≡ x.mode) → (new : List ℕ) → new ≡ out ++ written_for x c a → AnsweredUpTo limits text y after.offset new
      answered_next same new wrote =
          let g2 = going_after limits (kept text) at g.commands g.given g.trees g.runs g.goes_on in
          let o = g2.onward (more (tree_of c) none) (lexemes_from (kept text) after.offset) one_tree in
          let on = goes a.response went in
          let is : new ≡ response_text certify (kept text) a = wrote ∙ ap (λ bs. bs ++ written_for x c a) empty ∙ response in
          record {
            commands = o.0;
            trees = o.1;
            given = g.given ++ a ∷ [];
            runs = o.2 (a ∷ []) (alone limits before (tree_of c) a answers on.0);
            goes_on = ends_more g.given a false g.goes_on on.0;
            taken = told_more g.given a ∙ neither (list_any (λ (q : Answered). is_rejected q.response) g.given) (is_rejected a.response) g.taken on.1;
            represents = subst (IsSession y) (sym (left_by_last first_state g.given a)) answer.represents;
            limits_are = ap limits_meant same.0 ∙ g.limits_are;
            mode_is = ap mode_meant same.1 ∙ g.mode_is;
            written = is ∙ ap (λ bs. bs ++ response_text certify (kept text) a) (sym empty ∙ g.written) ∙ sym (answers_more certify (kept text) g.given a);
            unanswered = λ e. checks ∙ is_no_check a.response (sym left ∙ e);
            one = λ d e.
                let r : a.response ≡ answered d = is_check a.response d (sym left ∙ e) in (
                  checks ∙ ap (λ (q : Response). with_check q []) r,
                  is ∙ ap (text_for certify (kept text) a.state.stack.options.print_success) r,
                  subst (λ l. HasLearned l y.script.table d.check d.found y.script.budget) g.limits_are (subst (λ (q : Response). HasLists q x y) r answer.lists),
                );
          }
