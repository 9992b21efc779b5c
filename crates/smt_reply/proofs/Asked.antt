-- What answers each question, and its faults.
use Rattle.std.proofs.Common.{◌≡◌, ℕ, Bool, true, false, List, [], ◌∷◌, Option, Some, None, refl, sym, ap, ◌∙◌, subst}
use Rattle.std.specs.Prelude.{Ok, Err, Vec, length, map}
use Rattle.std.specs.declared.alloc.Global.{Global}
use Rattle.spec_text.specs.declared.Fault.{Fault}
use Rattle.spec_text.specs.declared.Fault.TheVariants.{WrongMode, NotEnabled, Full}
use Rattle.spec_text.specs.Answers.{Answer, ◌>>=◌, refused, require}
use Rattle.spec_text.specs.Trees.{Tree, Trees}
use Rattle.spec_text.specs.Printed.{printed}
use Rattle.spec_sorts.specs.Terms.{Term}
use Rattle.spec_sorts.specs.Values.{Interpretation}
use Rattle.spec_sorts.specs.Signatures.{symbols_in, is_some}
use Rattle.spec_sorts.specs.Subterms.{has_room}
use Rattle.spec_reading.specs.Names.{elsewhere}
use Rattle.spec_reading.specs.Reading.{Readings, readings}
use Rattle.spec_commands.specs.Stack.{Assertion, signature_of, assertions_of}
use Rattle.spec_models.specs.Values.{in_list}
use Rattle.spec_models.specs.Models.{model_text}
use Rattle.spec_models.specs.Replies.{Reason, reason_info}
use Rattle.spec_sessions.specs.Evidence.{Found, model, proof, Checked}
use Rattle.spec_sessions.specs.Responses.{evidence_text}
use Rattle.spec_sessions.specs.States.{State}
use Rattle.spec_sessions.specs.Questions.{for_model, for_proof, for_assertions, for_values}
use Rattle.spec_sessions.specs.Replies.{Reply, says, model_found, proof_found, reason_found, in_mode, assertions_line, tree_line, valued, unknown_info, info_reply, reply_to}
use Rattle.term_core.specs.Tables.{TableView}
use Rattle.term_reader.specs.declared.faults.ReadError.{ReadError}
use Rattle.term_reader.specs.declared.faults.ReadError.TheVariants as errors
use Rattle.sat_budget.specs.Budgets.{BudgetView}
use Rattle.assertion_stack.specs.declared.stack.Stack.{Stack as CodeStack}
use Rattle.assertion_stack.specs.Assertions.{all_written}
use Rattle.assertion_stack.specs.Views.{Fails}
use Rattle.assertion_stack.specs.Stacks.{over_table, IsStack}
use Rattle.check_evidence.specs.declared.evidence.Evidence.{Evidence}
use Rattle.smt_reply.specs.declared.values.TermValue.{TermValue}
use Rattle.smt_reply.specs.declared.replies.Reply.TheVariants as replies
use Rattle.smt_reply.specs.Replies.{IsLastAnswer, found_in, fault_of, Context, in_context, OnAnswer, ShowsFound, TellsReason, texts_of, listed_line, Replies}
use Rattle.smt_reply.specs.Pairs.{EndsPairs, pairs_after, pairs_of}
use Rattle.smt_reply.proofs.Kept.{model_is, proof_is, none_there, some_there, is_none, is_one}
use Rattle.smt_reply.proofs.Listed.{printed_list}

-- a fault is answered
pub refuses : {A : Type 0} (wanted : Answer A) (stop : ReadError) (at : ℕ) (f : Fault) → stop ≡ fault_of at f → wanted ≡ refused at f → Fails stop wanted
refuses wanted stop at f e h = subst (λ p. Fails p wanted) (sym e) h

-- one answer after the other
assoc : {A B C : Type 0} (a : Answer A) (f : A → Answer B) (g : B → Answer C) → ((a >>= f) >>= g) ≡ (a >>= λ x. f x >>= g)
unfolding ◌>>=◌
assoc (Ok x) f g = refl
assoc (Err e) f g = refl

-- a test, by its outcome
module _ {B : Type 0} (b : Bool) (at : ℕ) (f : Fault) (then : Unit {0} → Answer B) where
  pub test_fails : b ≡ false → (require b at f >>= then) ≡ refused at f
  unfolding ◌>>=◌ require
  test_fails e = ap (λ c. require c at f >>= then) e

  pub test_holds : b ≡ true → (require b at f >>= then) ≡ then tt
  unfolding ◌>>=◌ require
  test_holds e = ap (λ c. require c at f >>= then) e

module _ (limit at : ℕ) (s : State) where
  -- a model
  abbrev show_model : Interpretation → Answer Reply
  show_model i = require s.stack.options.models at NotEnabled >>= λ on. Ok (says (model_text i (symbols_in (signature_of s.stack))))

  pub no_model : is_some (found_in model_found s.answer) ≡ false → reply_to limit at s for_model ≡ refused at WrongMode
  no_model e = none_there at model_found s.answer show_model (is_none (found_in model_found s.answer) e)

  pub models_off : is_some (found_in model_found s.answer) ≡ true → s.stack.options.models ≡ false → reply_to limit at s for_model ≡ refused at NotEnabled
  models_off e off =
      let m = is_one (found_in model_found s.answer) e in
      some_there at model_found s.answer show_model m.0 m.1 ∙ test_fails s.stack.options.models at NotEnabled _ off

  models_on : (i : Interpretation) → found_in model_found s.answer ≡ Some i → s.stack.options.models ≡ true → reply_to limit at s for_model ≡ Ok (says (model_text i (symbols_in (signature_of s.stack))))
  models_on i e on = some_there at model_found s.answer show_model i e ∙ test_holds s.stack.options.models at NotEnabled _ on

  -- a proof
  abbrev show_proof : List ℕ → Answer Reply
  show_proof text = require s.stack.options.proofs at NotEnabled >>= λ on. Ok (says text)

  pub no_proof : is_some (found_in proof_found s.answer) ≡ false → reply_to limit at s for_proof ≡ refused at WrongMode
  no_proof e = none_there at proof_found s.answer show_proof (is_none (found_in proof_found s.answer) e)

  pub proofs_off : is_some (found_in proof_found s.answer) ≡ true → s.stack.options.proofs ≡ false → reply_to limit at s for_proof ≡ refused at NotEnabled
  proofs_off e off =
      let m = is_one (found_in proof_found s.answer) e in
      some_there at proof_found s.answer show_proof m.0 m.1 ∙ test_fails s.stack.options.proofs at NotEnabled _ off

  proofs_on : (text : List ℕ) → found_in proof_found s.answer ≡ Some text → s.stack.options.proofs ≡ true → reply_to limit at s for_proof ≡ Ok (says text)
  proofs_on text e on = some_there at proof_found s.answer show_proof text e ∙ test_holds s.stack.options.proofs at NotEnabled _ on

  -- a reason
  abbrev show_reason : Reason → Answer Reply
  show_reason r = Ok (says (reason_info r))

  pub no_reason : is_some (found_in reason_found s.answer) ≡ false → info_reply at s (Some unknown_info) ≡ refused at WrongMode
  no_reason e = none_there at reason_found s.answer show_reason (is_none (found_in reason_found s.answer) e)

  -- the assertions
  pub assertions_off : s.stack.options.assertions ≡ false → reply_to limit at s for_assertions ≡ refused at NotEnabled
  assertions_off off = test_fails s.stack.options.assertions at NotEnabled _ off

  pub assertions_on : s.stack.options.assertions ≡ true → reply_to limit at s for_assertions ≡ Ok (says (assertions_line (assertions_of s.stack)))
  assertions_on on = test_holds s.stack.options.assertions at NotEnabled _ on

  -- over what the code keeps
  module _ (t : TableView) (budget : BudgetView) (x : CodeStack) (o : Option Evidence) (kept : IsLastAnswer t budget o s.answer) where
    module _ (held : symbols_in (signature_of s.stack) ≡ t.symbols) where
      abbrev checked : Found → Checked
      checked f = record { check = record { stack = s.stack; assumptions = [] }; found = f }

      shown : (p : Option Evidence) (last : Option Checked) → IsLastAnswer t budget p last → {A : Type 0} (of : Found → Option A) (a : A) (g : Found) → found_in of last ≡ Some a → ((f : Found) → of f ≡ Some a → f ≡ g)
          → OnAnswer p (λ e. ShowsFound t e (says (evidence_text (checked g))))
      shown None last h of a g e is = absurd (let no : None ≡ Some a = ap (found_in of) (sym h) ∙ e in cc)
      shown (Some ev) last h of a g e is = record {
        checked = checked h.0.found;
        symbols = held;
        budget = budget;
        evidence = h.2;
        text = ap (λ f. says (evidence_text (checked f))) (sym (is h.0.found (ap (found_in of) (sym h.1) ∙ e)));
      }

      pub model_shown : is_some (found_in model_found s.answer) ≡ true → s.stack.options.models ≡ true → Replies (reply_to limit at s for_model) (in_context t x o) (Ok replies.Evidence)
      model_shown e on =
          let m = is_one (found_in model_found s.answer) e in
          (says (model_text m.0 (symbols_in (signature_of s.stack))), models_on m.0 m.1 on, shown o s.answer kept model_found m.0 (model m.0) m.1 (λ f. model_is f m.0))

      pub proof_shown : is_some (found_in proof_found s.answer) ≡ true → s.stack.options.proofs ≡ true → Replies (reply_to limit at s for_proof) (in_context t x o) (Ok replies.Evidence)
      proof_shown e on =
          let m = is_one (found_in proof_found s.answer) e in
          (says m.0, proofs_on m.0 m.1 on, shown o s.answer kept proof_found m.0 (proof m.0) m.1 (λ f. proof_is f m.0))

    told : (p : Option Evidence) (last : Option Checked) → IsLastAnswer t budget p last → (r : Reason) → found_in reason_found last ≡ Some r → OnAnswer p (λ e. TellsReason t e (says (reason_info r)))
    told None last h r e = absurd (let no : None ≡ Some r = ap (found_in reason_found) (sym h) ∙ e in cc)
    told (Some ev) last h r e = record {
      found = h.0.found;
      budget = budget;
      evidence = h.2;
      reason = r;
      reason_is = ap (found_in reason_found) (sym h.1) ∙ e;
      text = refl;
    }

    pub reason_told : is_some (found_in reason_found s.answer) ≡ true → Replies (info_reply at s (Some unknown_info)) (in_context t x o) (Ok replies.Reason)
    reason_told e =
        let m = is_one (found_in reason_found s.answer) e in
        (says (reason_info m.0), some_there at reason_found s.answer show_reason m.0 m.1, told o s.answer kept m.0 m.1)

  -- the assertions as they are written
  texts_written : (asserted : List Assertion) → texts_of (all_written asserted) ≡ map printed (map (λ (a : Assertion). a.text) asserted)
  texts_written [] = refl
  texts_written (a ∷ others) = ap (λ r. printed a.text ∷ r) (texts_written others)

  pub assertions_told : (t : TableView) (x : CodeStack) (o : Option Evidence) → IsStack limit (over_table t x) s.stack → length x.assertions.written ≡ length x.assertions.ids → s.stack.options.assertions ≡ true
      → Replies (reply_to limit at s for_assertions) (in_context t x o) (Ok replies.Assertions)
  assertions_told t x o h long on =
      let trees = map (λ (a : Assertion). a.text) (assertions_of s.stack) in
      let lines : assertions_line (assertions_of s.stack) ≡ listed_line (texts_of x.assertions.written) = printed_list trees ∙ ap listed_line (sym (texts_written (assertions_of s.stack)) ∙ ap texts_of (sym h.states.written)) in
      (says (assertions_line (assertions_of s.stack)), assertions_on on, (long, ap says lines))

  -- values
  module _ (ts : Trees) where
    abbrev line_of : List Tree → Answer Reply
    line_of pairs = Ok (says (tree_line (in_list pairs)))

    abbrev by_test : Interpretation → List Term → Unit {0} → Answer (List Tree)
    by_test i us on = require (has_room limit (signature_of s.stack) us) at Full >>= λ room. valued i ts us

    after_by : (i : Interpretation) (us : List Term) → (pairs_after limit at s.stack i ts us >>= line_of)
        ≡ (require s.stack.options.models at NotEnabled >>= λ on. require (has_room limit (signature_of s.stack) us) at Full >>= λ room. valued i ts us >>= line_of)
    after_by i us = assoc (require s.stack.options.models at NotEnabled) (by_test i us) line_of ∙ (λ k. require s.stack.options.models at NotEnabled >>= λ on. assoc (require (has_room limit (signature_of s.stack) us) at Full) (λ room. valued i ts us) line_of k)

    abbrev by_model : Readings → Interpretation → Answer (List Tree)
    by_model rs i = pairs_after limit at s.stack i ts rs.terms

    abbrev by_terms : Readings → Answer (List Tree)
    by_terms rs = in_mode at model_found s.answer >>= by_model rs

    model_by : (rs : Readings) → (by_terms rs >>= line_of)
        ≡ (in_mode at model_found s.answer >>= λ i. require s.stack.options.models at NotEnabled >>= λ on. require (has_room limit (signature_of s.stack) rs.terms) at Full >>= λ room. valued i ts rs.terms >>= line_of)
    model_by rs = assoc (in_mode at model_found s.answer) (by_model rs) line_of ∙ (λ k. in_mode at model_found s.answer >>= λ i. after_by i rs.terms k)

    pub values_by : (pairs_of limit at s ts >>= line_of) ≡ reply_to limit at s (for_values ts)
    values_by = assoc (readings elsewhere (signature_of s.stack) [] ts) by_terms line_of ∙ (λ k. readings elsewhere (signature_of s.stack) [] ts >>= λ rs. model_by rs k)

    pub values_told : (x : Context) (vs : Vec TermValue Global) → EndsPairs x.table.sorts (pairs_of limit at s ts) (Ok vs) → Replies (reply_to limit at s (for_values ts)) x (Ok (replies.Values vs))
    unfolding ◌>>=◌
    values_told x vs h =
        (says (tree_line (in_list h.0)), sym values_by ∙ ap (λ a. a >>= line_of) h.1, (h.2.named, ap says (printed_list h.0 ∙ ap listed_line (sym h.2.texts))))

    pub values_fail : (x : Context) (stop : ReadError) → Fails stop (pairs_of limit at s ts) → Replies (reply_to limit at s (for_values ts)) x (Err stop)
    unfolding ◌>>=◌
    values_fail x (errors.Fault f) h = sym values_by ∙ ap (λ a. a >>= line_of) h
    values_fail x errors.Memory h = tt
