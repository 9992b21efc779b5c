-- What a command is answered, from what taking it came to.
use Rattle.std.proofs.Common.{◌≡◌, ℕ, Bool, true, false, ◌++◌, List, [], length, All, Option, Some, None, refl, sym, ap, ◌∙◌, subst}
use Rattle.std.specs.Prelude.{Result, Ok, Err, OnErr}
use Rattle.std.proofs.lemmas.List.{length-map}
use Rattle.std.proofs.lemmas.Bool.{false≢true}
use Rattle.std.proofs.lemmas.Option.{none-some, same_Some}
use Rattle.spec_text.specs.declared.Fault.TheVariants.{WrongMode}
use Rattle.spec_text.specs.Answers.{Answer, require, ◌>>=◌}
use Rattle.spec_text.specs.Printed.{printed}
use Rattle.spec_text.proofs.AnswerLaws.{answer, went}
use Rattle.spec_text.specs.Faults.{Located}
use Rattle.spec_text.specs.Places.{IsPlaceOf}
use Rattle.spec_text.specs.Lexemes.{Lexeme, lexemes_from}
use Rattle.spec_text.specs.Trees.{Tree, spelled, offset_of}
use Rattle.spec_commands.specs.Commands.{Command, SetLogic, SetOption, SetInfo, DeclareSort, DefineSort, DeclareFun, DefineFun, Assert, Push, Pop, CheckSat, CheckSatAssuming, ResetAssertions, Reset, Echo, Exit, command_of}
use Rattle.spec_commands.specs.Stack.{Assertion, Stack, Key, key_named, truth_in, with_option, may_set, option_set, Effect, unsupported, check, say, leave, Taken, did, empty_stack, signature_of, assertions_of, performed, step}
use Rattle.spec_commands.specs.Checks.{Check}
use Rattle.spec_commands.specs.Kept.{IsAsserted, IsSoundStack}
use Rattle.spec_proof_texts.specs.ReadBack.{HaveScriptNames}
use Rattle.spec_sessions.specs.Evidence.{Limits, Checked}
use Rattle.spec_sessions.specs.States.{State, keeps_answer, states_nothing, answer_kept}
use Rattle.spec_sessions.specs.Questions.{Question, question_of}
use Rattle.spec_sessions.specs.Replies.{Reply, says, not_known, reply_to}
use Rattle.spec_sessions.specs.Responses.{Response, answered, rejected, answer_after, state_after, Answered, Responds, AnswersBy, AnswersTree, Answers, response_of, answer_to}
use Rattle.spec_sessions.specs.Meaning.{IsKeptCheck}
use Rattle.no_memory.specs.declared.NoMemory.{NoMemory}
use Rattle.smt_lexer.specs.declared.Refusal.{Refusal}
use Rattle.smt_lexer.specs.declared.Refused.{Refused}
use Rattle.smt_lexer.specs.declared.Refused.TheVariants as refusals
use Rattle.smt_sexpr.specs.declared.sexpr.Sexpr.{Sexpr}
use Rattle.smt_sexpr.specs.Items.{text_of, start_of, tree_of}
use Rattle.term_core.specs.declared.ids.TermId.{TermId}
use Rattle.term_core.specs.Tables.{TableView, term_at}
use Rattle.term_reader.specs.Building.{KeepsTable}
use Rattle.sat_budget.specs.Budgets.{BudgetView}
use Rattle.assertion_stack.specs.declared.stack.Stack.{Stack as CodeStack}
use Rattle.assertion_stack.specs.declared.assuming.Assumed.{Assumed}
use Rattle.assertion_stack.specs.declared.stack.Effect.TheVariants as effects
use Rattle.assertion_stack.specs.Assertions.{texts_printed}
use Rattle.assertion_stack.specs.Stacks.{OverTable, over_table, AreAssumed, EffectMeans, IsStack, Steps, KeepsTableAt}
use Rattle.assertion_stack.proofs.ReadLiterals.{assumed_kept}
use Rattle.check_evidence.specs.declared.evidence.Evidence.{Evidence}
use Rattle.spec_proof_texts.specs.Readable.{HaveReadableDefinitions}
use Rattle.check_evidence.specs.Evidence.{IsHeld, IsHeldCheck, IsEvidence}
use Rattle.smt_reply.specs.declared.replies.Reply.{Reply as CodeReply}
use Rattle.smt_reply.specs.Replies.{OnAnswer, IsLastAnswer, HoldsAnswer, IsReply}
use Rattle.smt_reply.specs.Cores.{IsAskedIn, KeepsAsked, HoldsAssumed}
use Rattle.smt_session.specs.declared.script.Script.{Script}
use Rattle.smt_session.specs.declared.responses.Response.{Response as CodeResponse}
use Rattle.smt_session.specs.declared.responses.Response.TheVariants as responses
use Rattle.smt_session.specs.Sessions.{stated, context, answer_left, IsScript, IsResponse, IsAskedOf, IsKeptAnswer, LearnsBy, KeepsBudget, KeepsScript, AnswersCommand, HasFound, Rejects, TakesScriptCommand}

-- nothing is stated at first
pub first_held : (limit : ℕ) (t : TableView) (x : CodeStack) → t ≡ record { sorts = []; symbols = []; terms = [] } → ((u : TableView) → u.sorts ≡ [] → u.symbols ≡ [] → IsStack limit (over_table u x) empty_stack) → IsSoundStack limit empty_stack → HaveScriptNames empty_stack → HaveReadableDefinitions empty_stack → IsHeld limit (over_table t x) empty_stack
first_held limit t x e represents sound names readable = record {
  stack = represents t (ap (λ (u : TableView). u.sorts) e) (ap (λ (u : TableView). u.symbols) e);
  sound = sound;
  names = names;
  readable = readable;
}

-- the laws on commands: what they leave is sound, its names can be printed, and its definitions read back
abbrev pub NextIsKept : Type 0
NextIsKept = (limit : ℕ) (s : Stack) (t : Tree) (d : Taken) → step limit s t ≡ Ok d → IsSoundStack limit s → IsSoundStack limit d.stack

abbrev pub NextHasNames : Type 0
NextHasNames = (limit : ℕ) (s : Stack) (text : List ℕ) (from : ℕ) (t : Tree) (rest : List (ℕ × Lexeme)) (d : Taken) → lexemes_from text from ≡ spelled t ++ rest → step limit s t ≡ Ok d → HaveScriptNames s → HaveScriptNames d.stack

abbrev pub NextIsReadable : Type 0
NextIsReadable = (limit : ℕ) (s : Stack) (t : Tree) (d : Taken) → step limit s t ≡ Ok d → HaveReadableDefinitions s → HaveReadableDefinitions d.stack

-- so what a stack of the code represents after a command that was taken, commands left
pub held_next : NextIsKept → NextHasNames → NextIsReadable → (limit : ℕ) (s : Stack) (x : Sexpr) (d : Taken) (y z : OverTable) → step limit s (tree_of x) ≡ Ok d → IsHeld limit y s → IsStack limit z d.stack → IsHeld limit z d.stack
held_next sound names readable limit s x d y z e h stack = record {
  stack = stack;
  sound = sound limit s (tree_of x) d e h.sound;
  names = names limit s (text_of x) (start_of x) (tree_of x) _ d x.read.1 e h.names;
  readable = readable limit s (tree_of x) d e h.readable;
}

abbrev pub AssumedIsRead : Type 0
AssumedIsRead = (limit : ℕ) (s : Stack) (t : Tree) (d : Taken) (place : ℕ) (assumptions : List Assertion) → step limit s t ≡ Ok d → d.effect ≡ check place assumptions → All (IsAsserted limit (signature_of d.stack)) assumptions

-- and the check that it asks for, with the numbers of the terms that it assumes
pub check_held : AssumedIsRead → (limit : ℕ) (s : Stack) (x : Sexpr) (d : Taken) (place : ℕ) (a : Assumed) (z : OverTable) → step limit s (tree_of x) ≡ Ok d → (m : EffectMeans z.table (effects.Check place a) d.effect) → IsHeld limit z d.stack → IsHeldCheck limit z a.ids.items (record { stack = d.stack; assumptions = m.0 })
check_held read limit s x d place a z e m h = record { held = h; assumed_are = m.2; read = read limit s (tree_of x) d place m.0 e (sym m.1) }

-- which commands left
pub kept_check : (limit : ℕ) (z : OverTable) (ids : List TermId) (c : Check) → IsHeldCheck limit z ids c → IsKeptCheck limit c
kept_check limit z ids c h = record { stack = h.held.sound; assumptions = h.read; names = h.held.names }

-- what a command that was taken in a state is answered, with the state after it
abbrev pub answered_so : State → Tree → Response → Taken → Answered
answered_so s t r d = record { response = r; state = state_after (states_nothing (command_of t)) s d.stack r }

-- a command that asks nothing was taken, and is answered by its effect
pub taken_as : (limits : Limits) (s : State) (t : Tree) (r : Response) (effect : Effect) (d : Taken) → question_of t ≡ None → step limits.terms s.stack t ≡ Ok d → effect ≡ d.effect → Responds limits d.stack effect r → Answers limits s t (answered_so s t r d)
taken_as limits s t r effect d none e same responds =
    subst (λ q. AnswersTree limits s t q (answered_so s t r d)) (sym none)
    (subst (λ y. AnswersBy limits s (states_nothing (command_of t)) y (answered_so s t r d)) (sym e) (subst (λ f. Responds limits d.stack f r) same responds, refl))

-- what the last check found counts still, where the command leaves the table, or else there is nothing
pub left_is : (keeps : Bool) (old new : TableView) (budget : BudgetView) (e : Option Evidence) (last : Option Checked) → (keeps ≡ true → new ≡ old) → IsLastAnswer old budget e last → IsLastAnswer new budget (answer_left keeps e) (answer_kept keeps last)
left_is true old new budget e last same h = subst (λ t. IsLastAnswer t budget e last) (sym (same refl)) h
left_is false old new budget e last same h = refl

-- a command that states nothing leaves the table
pub nothing_stated : (c : Answer Command) (old new : TableView) → KeepsTableAt c old new → states_nothing c ≡ true → new ≡ old
nothing_stated (Ok (SetLogic x)) old new k e = cc
nothing_stated (Ok (SetOption key v)) old new k e = k
nothing_stated (Ok SetInfo) old new k e = k
nothing_stated (Ok (DeclareSort x)) old new k e = cc
nothing_stated (Ok (DefineSort x t)) old new k e = cc
nothing_stated (Ok (DeclareFun x ts t)) old new k e = cc
nothing_stated (Ok (DefineFun d)) old new k e = cc
nothing_stated (Ok (Assert t)) old new k e = cc
nothing_stated (Ok (Push n)) old new k e = cc
nothing_stated (Ok (Pop n)) old new k e = cc
nothing_stated (Ok (CheckSat place)) old new k e = cc
nothing_stated (Ok (CheckSatAssuming place ts)) old new k e = cc
nothing_stated (Ok ResetAssertions) old new k e = cc
nothing_stated (Ok Reset) old new k e = cc
nothing_stated (Ok (Echo text)) old new k e = k
nothing_stated (Ok Exit) old new k e = k
nothing_stated (Err f) old new k e = cc

-- a command that states nothing leaves what is asserted
assertions_kept : (limit : ℕ) (s : Stack) (t : Tree) (d : Taken) → step limit s t ≡ Ok d → states_nothing (command_of t) ≡ true → assertions_of d.stack ≡ assertions_of s
unfolding step
assertions_kept limit s t d e nothing =
    let a = went (command_of t) _ d e in
    by a.first a.then (ap states_nothing (sym a.was) ∙ nothing)
  where
    by_option : (at : ℕ) (k : Option Key) (v : Option Bool) → option_set at s k v ≡ Ok d → assertions_of d.stack ≡ assertions_of s
    by_option at (Some k) (Some b) h = let r = went (require (may_set k s) at WrongMode) _ d h in ap (λ (y : Taken). assertions_of y.stack) (sym (answer (Ok (did (record s { options = with_option k b s.options }))) d r.then))
    by_option at (Some k) None h = cc
    by_option at None v h = ap (λ (y : Taken). assertions_of y.stack) (sym (answer (Ok (record { effect = unsupported; stack = s })) d h))

    by : (c : Command) → performed limit (offset_of t) s c ≡ Ok d → keeps_answer c ≡ true → assertions_of d.stack ≡ assertions_of s
    by (SetOption k v) h f = by_option (offset_of t) (key_named k) (truth_in v) h
    by SetInfo h f = ap (λ (y : Taken). assertions_of y.stack) (sym (answer (Ok (did s)) d h))
    by (Echo text) h f = ap (λ (y : Taken). assertions_of y.stack) (sym (answer (Ok (record { effect = say text; stack = s })) d h))
    by Exit h f = ap (λ (y : Taken). assertions_of y.stack) (sym (answer (Ok (record { effect = leave; stack = s })) d h))
    by (SetLogic w) h f = absurd (false≢true f)
    by (DeclareSort w) h f = absurd (false≢true f)
    by (DefineSort w u) h f = absurd (false≢true f)
    by (DeclareFun w ts u) h f = absurd (false≢true f)
    by (DefineFun p) h f = absurd (false≢true f)
    by (Assert u) h f = absurd (false≢true f)
    by (Push n) h f = absurd (false≢true f)
    by (Pop n) h f = absurd (false≢true f)
    by (CheckSat place) h f = absurd (false≢true f)
    by (CheckSatAssuming place ts) h f = absurd (false≢true f)
    by ResetAssertions h f = absurd (false≢true f)
    by Reset h f = absurd (false≢true f)

-- so what the last check asked about is kept
asked_kept_on : (old new : TableView) (a b : Assumed) (s t : State) (c : Checked) → new ≡ old → b ≡ a → assertions_of t.stack ≡ assertions_of s.stack → IsAskedIn old a s c → IsAskedIn new b t c
asked_kept_on old new a b s t c e f g h = subst (λ y. IsAskedIn y b t c) (sym e) (subst (λ z. IsAskedIn old z t c) (sym f) (record { assertions = h.assertions ∙ sym g; literals = h.literals; texts = h.texts }))

-- what a check that was answered asked about
found_asked : (old new : TableView) (a b : Assumed) (s : State) (c : Checked) → KeepsTable old new → b ≡ a → s.answer ≡ Some c → c.check.stack ≡ s.stack → AreAssumed old a.ids.items c.check.assumptions → a.texts ≡ texts_printed c.check.assumptions → KeepsAsked new b s
found_asked old new a b s c grows e is same literals texts k at =
    let one : c ≡ k = same_Some c k (sym is ∙ at) in
    subst (IsAskedIn new b s) one (subst (λ z. IsAskedIn new z s c) (sym e) (record {
      assertions = ap assertions_of same;
      literals = assumed_kept old new a.ids.items c.check.assumptions grows literals;
      texts = texts;
    }))

module _ (limits : Limits) (s : State) (x : Sexpr) (old new : Script) (d : Taken) (none : question_of (tree_of x) ≡ None) (taken : step limits.terms s.stack (tree_of x) ≡ Ok d) (held : IsHeld limits.terms (stated new) d.stack) (i : IsScript limits.terms old s) where
  -- a command that is no check is answered by its effect; `told` is whether it states nothing
  pub done_so : (told : Bool) → told ≡ states_nothing (command_of (tree_of x)) → KeepsTableAt (command_of (tree_of x)) old.table new.table → new.budget ≡ old.budget → new.answer ≡ answer_left told old.answer → new.assumed ≡ old.assumed → (code : CodeResponse) (r : Response) (effect : Effect) → effect ≡ d.effect → Responds limits d.stack effect r
      → (answer_after told s.answer r ≡ answer_kept told s.answer) → IsResponse new (text_of x) code r → IsAskedOf r (state_after told s d.stack r) → IsKeptAnswer limits.terms r → LearnsBy limits new r → AnswersCommand limits s x code new
  done_so told is settings budget left assumed code r effect same responds after response asked kept learned = record {
    a = answered_so s (tree_of x) r d;
    answers = taken_as limits s (tree_of x) r effect d none taken same responds;
    is = response;
    asked = subst (λ b. IsAskedOf r (state_after b s d.stack r)) is asked;
    kept = kept;
    represents = record {
      stack = held;
      answer =
          let keeps : told ≡ true → new.table ≡ old.table = λ e. nothing_stated (command_of (tree_of x)) old.table new.table settings (sym is ∙ e) in
          let kept_so : IsLastAnswer new.table old.budget (answer_left told old.answer) (answer_kept told s.answer) = left_is told old.table new.table old.budget old.answer s.answer keeps i.answer in
          subst (λ b. IsLastAnswer new.table new.budget new.answer (answer_after b s.answer r)) is
          (subst (λ last. IsLastAnswer new.table new.budget new.answer last) (sym after)
          (subst (λ e. IsLastAnswer new.table new.budget e (answer_kept told s.answer)) (sym left)
          (subst (λ b. IsLastAnswer new.table b (answer_left told old.answer) (answer_kept told s.answer)) (sym budget) kept_so)));
      asked = still_asked;
    };
    learned = learned;
  }
    where
      same_told : told ≡ true → new.table ≡ old.table
      same_told e = nothing_stated (command_of (tree_of x)) old.table new.table settings (sym is ∙ e)

      after_is : answer_after (states_nothing (command_of (tree_of x))) s.answer r ≡ answer_kept told s.answer
      after_is = ap (λ b. answer_after b s.answer r) (sym is) ∙ after

      still_asked : KeepsAsked new.table new.assumed (answered_so s (tree_of x) r d).state
      still_asked c e = by told refl (sym after_is ∙ e)
        where
          by : (b : Bool) → told ≡ b → answer_kept told s.answer ≡ Some c → IsAskedIn new.table new.assumed (answered_so s (tree_of x) r d).state c
          by true t kept_c = asked_kept_on old.table new.table old.assumed new.assumed s (answered_so s (tree_of x) r d).state c (same_told t) assumed
              (assertions_kept limits.terms s.stack (tree_of x) d taken (sym is ∙ t)) (i.asked c (ap (λ b. answer_kept b s.answer) (sym t) ∙ kept_c))
          by false t kept_c = absurd (none-some c (ap (λ b. answer_kept b s.answer) (sym t) ∙ kept_c))

-- a check is answered by what was found at it, which is kept
pub found_so : (limits : Limits) (s : State) (x : Sexpr) (new : Script) (d : Taken) (place : ℕ) (a : Assumed) (z : OverTable) → question_of (tree_of x) ≡ None → step limits.terms s.stack (tree_of x) ≡ Ok d → (m : EffectMeans z.table (effects.Check place a) d.effect) → IsHeldCheck limits.terms z a.ids.items (record { stack = d.stack; assumptions = m.0 }) → HasFound limits (record { stack = d.stack; assumptions = m.0 }) new → KeepsTable z.table new.table → new.assumed ≡ a → AnswersCommand limits s x responses.Answered new
found_so limits s x new d place a z none taken m held k grows assumed =
    let asked : Check = record { stack = d.stack; assumptions = m.0 } in
    let shown = k.checked.shown in
    let found : Checked = record { check = asked; found = shown.0 } in
    let evidence : IsEvidence new.table new.budget k.evidence shown.0 = subst (λ b. IsEvidence new.table b k.evidence shown.0) (sym k.checked.budget_is) shown.2 in
    record {
      a = answered_so s (tree_of x) (answered found) d;
      answers = taken_as limits s (tree_of x) (answered found) (check place m.0) d none taken m.1 (shown.0, shown.1, refl {a = answered found});
      is = subst (λ o. OnAnswer o (λ e. (c : Checked) × IsEvidence new.table new.budget e c.found × (answered found ≡ answered c))) (sym k.kept) (found, evidence, refl {a = answered found});
      asked = refl;
      kept = kept_check limits.terms z a.ids.items asked held;
      represents = record {
        stack = k.checked.held;
        answer = subst (λ o. IsLastAnswer new.table new.budget o (Some found)) (sym k.kept) (found, refl {a = Some found}, evidence, shown.4);
        asked = found_asked z.table new.table a new.assumed (answered_so s (tree_of x) (answered found) d).state found grows assumed refl refl m.2 m.4;
      };
      learned = (k.checked.outcome, k.checked.decided, shown.3, k.checked.budget_is);
    }

-- a command that asks nothing, and was not taken
pub refused_as : (limits : Limits) (s : State) (x : Sexpr) (stop : Refused) (old new : Script) (result : Result CodeResponse NoMemory) → question_of (tree_of x) ≡ None → IsScript limits.terms old s → new ≡ old → Steps limits.terms (step limits.terms s.stack (tree_of x)) x (stated new) (Err stop) → Rejects stop result → TakesScriptCommand limits s x result new
refused_as limits s x (refusals.Fault r) old new result none i same d is =
    let a : Answered = record { response = rejected (record { offset = r.place.offset; fault = r.fault }); state = s } in
    subst (λ y. TakesScriptCommand limits s x y new) (sym is) (record {
      a = a;
      answers = subst (λ q. AnswersTree limits s (tree_of x) q a) (sym none) (subst (λ y. AnswersBy limits s (states_nothing (command_of (tree_of x))) y a) (sym d.0) (refl, refl));
      is = (refl, d.1);
      asked = tt;
      kept = tt;
      represents = subst (λ y. IsScript limits.terms y s) (sym same) i;
      learned = tt;
    })
refused_as limits s x refusals.Memory old new (Ok r) none i same d is = cc
refused_as limits s x refusals.Memory old new (Err e) none i same d is = tt

-- what is so is so on an error
pub on_error : {A E : Type 0} (r : Result A E) (P : Type 0) → P → OnErr r P
on_error (Ok x) P h = tt
on_error (Err e) P h = h

-- nor does it change anything, or the budget
pub refused_keeps : (stop : Refused) (old new : Script) (result : Result CodeResponse NoMemory) → new ≡ old → Rejects stop result → KeepsBudget result old new
refused_keeps (refusals.Fault r) old new result same is = subst (λ y. KeepsBudget y old new) (sym is) (ap (λ (y : Script). y.budget) same)
refused_keeps refusals.Memory old new (Ok r) same is = cc
refused_keeps refusals.Memory old new (Err e) same is = ap (λ (y : Script). y.budget) same

pub refused_script : (stop : Refused) (old new : Script) (result : Result CodeResponse NoMemory) → new ≡ old → Rejects stop result → KeepsScript result old new
refused_script (refusals.Fault r) old new result same is = subst (λ y. KeepsScript y old new) (sym is) same
refused_script refusals.Memory old new (Ok r) same is = cc
refused_script refusals.Memory old new (Err e) same is = tt

-- what is asked is answered, or refused with the fault of its shape or of its parts; the script is as it was
pub misshapen_as : (limits : Limits) (s : State) (x : Sexpr) (r : Refusal) (y : Script) → question_of (tree_of x) ≡ Some (Err (record { offset = r.place.offset; fault = r.fault })) → IsPlaceOf (text_of x) r.place → IsScript limits.terms y s → AnswersCommand limits s x (responses.Rejected r) y
unfolding ◌>>=◌
misshapen_as limits s x r y is placed i =
    let a : Answered = record { response = rejected (record { offset = r.place.offset; fault = r.fault }); state = s } in
    record { a = a; answers = subst (λ q. AnswersTree limits s (tree_of x) q a) (sym is) (refl, refl); is = (refl, placed); asked = tt; kept = tt; represents = i; learned = tt }

-- the fault of a question that has its shape
pub asked_fault : (limits : Limits) (s : State) (at : ℕ) (q : Question) (f : Located) → reply_to limits.terms at s q ≡ Err f → answer_to limits s at (Ok q) ≡ Err f
unfolding ◌>>=◌
asked_fault limits s at q f e = e

module _ (limits : Limits) (s : State) (x : Sexpr) (q : Question) (y : Script) (is : question_of (tree_of x) ≡ Some (Ok q)) (i : IsScript limits.terms y s) where
  -- in the words of the definitions
  abbrev wanted : Answer Reply
  wanted = reply_to limits.terms (offset_of (tree_of x)) s q

  as_asked : (o : Answer Reply) → wanted ≡ o → Answers limits s (tree_of x) (record { response = response_of o; state = s })
  unfolding ◌>>=◌
  as_asked o e = subst (λ z. AnswersTree limits s (tree_of x) z (record { response = response_of o; state = s })) (sym is) (ap response_of (sym e), refl)

  -- it is answered
  pub replied_as : (reply : CodeReply) (r : Reply) → wanted ≡ Ok r → IsReply (context y) reply r → AnswersCommand limits s x (responses.Replied reply) y
  replied_as reply r e of = record {
    a = record { response = response_of (Ok r); state = s };
    answers = as_asked (Ok r) e;
    is = (r, of, refl);
    asked = asked_of r;
    kept = kept_of r;
    represents = i;
    learned = learned_of r;
  }
    where
      asked_of : (z : Reply) → IsAskedOf (response_of (Ok z)) s
      asked_of (says lines) = tt
      asked_of not_known = tt

      kept_of : (z : Reply) → IsKeptAnswer limits.terms (response_of (Ok z))
      kept_of (says lines) = tt
      kept_of not_known = tt

      learned_of : (z : Reply) → LearnsBy limits y (response_of (Ok z))
      learned_of (says lines) = tt
      learned_of not_known = tt

  -- it is refused
  pub unanswered_as : (r : Refusal) (f : Located) → wanted ≡ Err f → f ≡ record { offset = r.place.offset; fault = r.fault } → IsPlaceOf (text_of x) r.place → AnswersCommand limits s x (responses.Rejected r) y
  unanswered_as r f e same placed = record {
    a = record { response = response_of (Err f); state = s };
    answers = as_asked (Err f) e;
    is = (ap rejected same, placed);
    asked = tt;
    kept = tt;
    represents = i;
    learned = tt;
  }

-- what is kept of the last check is evidence of something
pub holds_answer : (t : TableView) (budget : BudgetView) (o : Option Evidence) (last : Option Checked) → IsLastAnswer t budget o last → HoldsAnswer t o
holds_answer t budget None last h = tt
holds_answer t budget (Some e) last h = (budget, h.0.found, h.2)

-- and so does what it assumed, where there is an answer
pub holds_assumed : (t : TableView) (budget : BudgetView) (o : Option Evidence) (a : Assumed) (s : State) → IsLastAnswer t budget o s.answer → KeepsAsked t a s → HoldsAssumed t o a
holds_assumed t budget None a s h asked = tt
holds_assumed t budget (Some e) a s h asked =
    let k = asked h.0 h.1 in
    let ls = h.0.check.assumptions in
    let texts : length a.texts ≡ length ls = ap length k.texts ∙ length-map ls (λ (l : Assertion). printed l.text) in
    let ids : length a.ids.items ≡ length ls = sym (length-map a.ids.items (term_at t)) ∙ ap length k.literals.terms ∙ length-map ls (λ (l : Assertion). l.term) in
    (k.literals.inside, texts ∙ sym ids)

-- at first nothing was
pub nothing_asked : (t : TableView) (a : Assumed) (s : State) → s.answer ≡ None → KeepsAsked t a s
nothing_asked t a s bare c e = absurd (none-some c (sym bare ∙ e))
