-- What is answered where an unsat core, or the assumptions that a proof rests on, are asked for.
use Rattle.std.proofs.Common.{◌≡◌, ℕ, true, false, List, [], ◌∷◌, length, map, Option, Some, None, refl, sym, ap, ◌∙◌}
use Rattle.std.specs.Prelude.{Ok}
use Rattle.spec_text.specs.declared.Fault.TheVariants.{WrongMode, NotEnabled}
use Rattle.spec_text.specs.Bytes.{Name}
use Rattle.spec_text.specs.Printed.{printed, printed_symbol}
use Rattle.spec_text.specs.Answers.{Answer, refused, require, ◌>>=◌}
use Rattle.spec_sorts.specs.Terms.{Term}
use Rattle.spec_sorts.specs.Signatures.{is_some}
use Rattle.spec_commands.specs.Stack.{Assertion, assertions_of}
use Rattle.spec_commands.specs.Checks.{Check}
use Rattle.spec_models.specs.Values.{symbol_tree}
use Rattle.spec_sessions.specs.Evidence.{Found, model, proof, spent, overflowed, Checked}
use Rattle.spec_sessions.specs.States.{State}
use Rattle.spec_sessions.specs.Questions.{for_core, for_assumptions}
use Rattle.spec_sessions.specs.Cores.{core_names, core_literals, core_of, assumptions_of}
use Rattle.spec_sessions.specs.Replies.{Reply, says, proof_found, core_found, assumptions_found, held, of_check, names_line, assertions_line, reply_to}
use Rattle.term_core.specs.Tables.{TableView, AreIn}
use Rattle.sat_budget.specs.Budgets.{BudgetView}
use Rattle.assertion_stack.specs.declared.assuming.Assumed.{Assumed}
use Rattle.assertion_stack.specs.Assertions.{texts_printed}
use Rattle.check_evidence.specs.declared.evidence.Evidence.{Evidence}
use Rattle.smt_reply.specs.declared.replies.Reply.TheVariants as replies
use Rattle.smt_reply.specs.Replies.{IsLastAnswer, found_in, Context, listed_line, Replies}
use Rattle.smt_reply.specs.Cores.{KeepsAsked, HoldsAssumed, FindsProof}
use Rattle.smt_reply.proofs.Asked.{test_fails, test_holds}
use Rattle.smt_reply.proofs.Listed.{printed_list}

-- where a proof was found, what was assumed is in the table, with its texts
pub assumed_there : (t : TableView) (answer : Option Evidence) (a : Assumed) (terms : List Term) → HoldsAssumed t answer a
    → ((budget : BudgetView) (last : Option Checked) → IsLastAnswer t budget answer last → FindsProof last terms)
    → AreIn t a.ids.items × (length a.texts ≡ length a.ids.items)
assumed_there t None a terms h found =
    let f = found (record { limit = 0; learned = []; exchanges = [] }) None refl in
    absurd (let bad : None ≡ Some (record { check = f.check; found = proof f.text }) = f.is in cc)
assumed_there t (Some e) a terms h found = h

-- without a proof there is neither
core_by : (at : ℕ) (c : Check) (f : Found) → is_some (proof_found f) ≡ false → held at (core_found (record { check = c; found = f })) ≡ refused at WrongMode
core_by at c (model i) e = refl
core_by at c (proof text) e = absurd cc
core_by at c (spent n d learned) e = refl
core_by at c (overflowed o k) e = refl

core_none : (at : ℕ) (last : Option Checked) → is_some (found_in proof_found last) ≡ false → of_check at core_found last ≡ refused at WrongMode
core_none at None e = refl
core_none at (Some c) e = core_by at c.check c.found e

assumptions_by : (at : ℕ) (c : Check) (f : Found) → is_some (proof_found f) ≡ false → held at (assumptions_found (record { check = c; found = f })) ≡ refused at WrongMode
assumptions_by at c (model i) e = refl
assumptions_by at c (proof text) e = absurd cc
assumptions_by at c (spent n d learned) e = refl
assumptions_by at c (overflowed o k) e = refl

assumptions_none : (at : ℕ) (last : Option Checked) → is_some (found_in proof_found last) ≡ false → of_check at assumptions_found last ≡ refused at WrongMode
assumptions_none at None e = refl
assumptions_none at (Some c) e = assumptions_by at c.check c.found e

-- names and texts, as they are printed
names_printed : (names : List Name) → map printed (map symbol_tree names) ≡ map printed_symbol names
names_printed [] = refl
names_printed (n ∷ names) = ap (λ r. printed_symbol n ∷ r) (names_printed names)

texts_are : (ls : List Assertion) → map printed (map (λ (a : Assertion). a.text) ls) ≡ texts_printed ls
texts_are [] = refl
texts_are (l ∷ ls) = ap (λ r. printed l.text ∷ r) (texts_are ls)

module _ (limit at : ℕ) (s : State) where
  -- the core, where the option is on
  abbrev show_core : List Name → Answer Reply
  show_core names = require s.stack.options.unsat_cores at NotEnabled >>= λ on. Ok (says (names_line names))

  pub no_core : is_some (found_in proof_found s.answer) ≡ false → reply_to limit at s for_core ≡ refused at WrongMode
  unfolding ◌>>=◌
  no_core e = ap (λ a. a >>= show_core) (core_none at s.answer e)

  -- the assumptions, where theirs is on
  abbrev show_assumptions : List Assertion → Answer Reply
  show_assumptions literals = require s.stack.options.unsat_assumptions at NotEnabled >>= λ on. Ok (says (assertions_line literals))

  pub no_assumptions : is_some (found_in proof_found s.answer) ≡ false → reply_to limit at s for_assumptions ≡ refused at WrongMode
  unfolding ◌>>=◌
  no_assumptions e = ap (λ a. a >>= show_assumptions) (assumptions_none at s.answer e)

  module _ (assumed : List Term) (f : FindsProof s.answer assumed) where
    core_by_test : reply_to limit at s for_core ≡ show_core (core_of f.check f.text)
    unfolding ◌>>=◌
    core_by_test = ap (λ last. of_check at core_found last >>= show_core) f.is

    pub cores_off : s.stack.options.unsat_cores ≡ false → reply_to limit at s for_core ≡ refused at NotEnabled
    cores_off off = core_by_test ∙ test_fails s.stack.options.unsat_cores at NotEnabled _ off

    assumptions_by_test : reply_to limit at s for_assumptions ≡ show_assumptions (assumptions_of f.check f.text)
    unfolding ◌>>=◌
    assumptions_by_test = ap (λ last. of_check at assumptions_found last >>= show_assumptions) f.is

    pub assumptions_off : s.stack.options.unsat_assumptions ≡ false → reply_to limit at s for_assumptions ≡ refused at NotEnabled
    assumptions_off off = assumptions_by_test ∙ test_fails s.stack.options.unsat_assumptions at NotEnabled _ off

    module _ (t : TableView) (a : Assumed) (x : Context) (asked : KeepsAsked t a s) where
      pub core_told : (names : List Name) → names ≡ core_names assumed (assertions_of s.stack) → s.stack.options.unsat_cores ≡ true → Replies (reply_to limit at s for_core) x (Ok (replies.Names names))
      core_told names e on =
          let of = core_of f.check f.text in
          let is : of ≡ names = (λ i. core_names (f.assumes i) ((asked _ f.is).assertions i)) ∙ sym e in (
            says (names_line of),
            core_by_test ∙ test_holds s.stack.options.unsat_cores at NotEnabled _ on,
            ap says (printed_list (map symbol_tree of) ∙ ap listed_line (names_printed of) ∙ ap (λ ns. listed_line (map printed_symbol ns)) is),
          )

      pub assumptions_told : (texts : List (List ℕ)) → texts ≡ texts_printed (core_literals assumed (assertions_of s.stack) f.check.assumptions) → s.stack.options.unsat_assumptions ≡ true → Replies (reply_to limit at s for_assumptions) x (Ok (replies.Texts texts))
      assumptions_told texts e on =
          let of = assumptions_of f.check f.text in
          let is : of ≡ core_literals assumed (assertions_of s.stack) f.check.assumptions = λ i. core_literals (f.assumes i) ((asked _ f.is).assertions i) f.check.assumptions in (
            says (assertions_line of),
            assumptions_by_test ∙ test_holds s.stack.options.unsat_assumptions at NotEnabled _ on,
            ap says (printed_list (map (λ (l : Assertion). l.text) of) ∙ ap listed_line (texts_are of ∙ ap texts_printed is ∙ sym e)),
          )
