-- The fault of a question is at an offset of its text.
use Rattle.std.proofs.Common.{◌≡◌, ℕ, List, [], ◌∷◌, Option, Some, None, subst}
use Rattle.std.specs.Prelude.{Result, Ok, Err}
use Rattle.spec_text.specs.declared.Fault.TheVariants.{NotEnabled, Full}
use Rattle.spec_text.specs.Bytes.{Name}
use Rattle.spec_text.specs.Faults.{Located}
use Rattle.spec_text.specs.Answers.{Answer, require}
use Rattle.spec_text.specs.Trees.{Tree, Trees, atom, list, none, more, offset_of}
use Rattle.spec_text.specs.Offsets.{AllOffsets, AllOffsetsOf, HasOffset, own_offsets}
use Rattle.spec_text.proofs.AnswerLaws.{Gives, gives_in_turn, IsFaultWithin, within_in_turn, require_within, own_offset}
use Rattle.spec_text.proofs.ShapeLaws.{Holds, holds_in_turn}
use Rattle.spec_numbers.specs.Bounds.{Overflow}
use Rattle.spec_sorts.specs.Terms.{Term}
use Rattle.spec_sorts.specs.Values.{Value, Interpretation}
use Rattle.spec_sorts.specs.BoundedValues.{bounded_value}
use Rattle.spec_sorts.specs.Subterms.{has_room}
use Rattle.spec_sorts.specs.Signatures.{Signature, with_definitions}
use Rattle.spec_reading.specs.Names.{Setting, elsewhere}
use Rattle.spec_reading.specs.Reading.{Bound, reading, readings}
use Rattle.spec_reading.proofs.Offsets.{text_within}
use Rattle.spec_commands.specs.Commands.{shaped}
use Rattle.spec_commands.specs.Stack.{signature_of}
use Rattle.spec_sessions.specs.Evidence.{Limits, Found, Checked}
use Rattle.spec_sessions.specs.States.{State}
use Rattle.spec_sessions.specs.Questions.{Question, for_model, for_proof, for_assertions, for_values, for_option, for_info, for_core, for_assumptions, QuestionWord, gets_model, gets_value, gets_proof, gets_assertions, gets_core, gets_assumptions, gets_option, gets_info, bare_question, value_question, only_keyword, question_by, question_named, asked_by, question_of}
use Rattle.spec_sessions.specs.Replies.{model_found, proof_found, reason_found, core_found, assumptions_found, held, in_mode, of_check, value_there, valued, Info, name_info, version_info, authors_info, behavior_info, unknown_info, levels_info, info_named, info_reply, reply_to}
use Rattle.spec_sessions.specs.Responses.{answer_to}

module _ (P : ℕ → Type 0) where
  -- the terms of a question are in the text
  abbrev QuestionWithin : Question → Type 0
  QuestionWithin (for_values ts) = AllOffsetsOf P ts
  QuestionWithin q = Unit {0}

  value_within : (ts : Trees) → AllOffsetsOf P ts → Holds QuestionWithin (value_question ts)
  unfolding value_question
  value_within none h = tt
  value_within (more (atom at k n) ts) h = tt
  value_within (more (list at none end) none) h = tt
  value_within (more (list at none end) (more t ts)) h = tt
  value_within (more (list at (more u us) end) none) h = h.0.1
  value_within (more (list at (more u us) end) (more t ts)) h = tt

  bare_within : (q : Question) (ts : Trees) → QuestionWithin q → Holds QuestionWithin (bare_question q ts)
  bare_within q none h = h
  bare_within q (more t ts) h = tt

  -- nothing is asked of a name
  any_name : (o : Option Name) → Holds (λ _. Unit {0}) o
  any_name None = tt
  any_name (Some n) = tt

  by_within : (w : QuestionWord) (ts : Trees) → AllOffsetsOf P ts → Holds QuestionWithin (question_by w ts)
  by_within gets_model ts h = bare_within for_model ts tt
  by_within gets_value ts h = value_within ts h
  by_within gets_proof ts h = bare_within for_proof ts tt
  by_within gets_assertions ts h = bare_within for_assertions ts tt
  by_within gets_core ts h = bare_within for_core ts tt
  by_within gets_assumptions ts h = bare_within for_assumptions ts tt
  by_within gets_option ts h = holds_in_turn (λ _. Unit {0}) QuestionWithin (only_keyword ts) _ (any_name (only_keyword ts)) λ k _. tt
  by_within gets_info ts h = holds_in_turn (λ _. Unit {0}) QuestionWithin (only_keyword ts) _ (any_name (only_keyword ts)) λ k _. tt

  -- a question has its shape, or a fault at its start
  shaped_within : (at : ℕ) (o : Option Question) → P at → Holds QuestionWithin o → Gives P QuestionWithin (shaped at o)
  shaped_within at (Some q) here h = h
  shaped_within at None here h = here

  -- what is asked, where something is
  abbrev AskedWithin : Option (Answer Question) → Type 0
  AskedWithin None = Unit {0}
  AskedWithin (Some asked) = Gives P QuestionWithin asked

  asked_within : (at : ℕ) (ts : Trees) (o : Option QuestionWord) → P at → AllOffsetsOf P ts → AskedWithin (asked_by at ts o)
  asked_within at ts None here h = tt
  asked_within at ts (Some w) here h = shaped_within at (question_by w ts) here (by_within w ts h)

  question_within : (t : Tree) → AllOffsets P t → AskedWithin (question_of t)
  question_within (atom at k n) h = tt
  question_within (list at none end) h = tt
  question_within (list at (more (list from us to) ts) end) h = tt
  question_within (list at (more (atom place k n) ts) end) h = asked_within at ts (question_named k n) h.0 h.1.1

  -- terms are read, or the fault is in their texts
  terms_within : (w : Setting) (s : Signature) (b : Bound) (ts : Trees) → AllOffsetsOf P ts → IsFaultWithin P (readings w s b ts)
  unfolding readings
  terms_within w s b none h = tt
  terms_within w s b (more t ts) h =
      within_in_turn P (reading w s b t) _ (text_within P w s b t h.0) λ r.
      within_in_turn P (readings w (with_definitions s r.made) b ts) _ (terms_within w (with_definitions s r.made) b ts h.1) λ rs. tt

  held_within : {A : Type 0} (at : ℕ) (o : Option A) → P at → IsFaultWithin P (held at o)
  held_within at (Some a) h = tt
  held_within at None h = h

  mode_within : {A : Type 0} (at : ℕ) (of : Found → Option A) (last : Option Checked) → P at → IsFaultWithin P (in_mode at of last)
  mode_within at of None h = h
  mode_within at of (Some c) h = held_within at (of c.found) h

  check_within : {A : Type 0} (at : ℕ) (of : Checked → Option A) (last : Option Checked) → P at → IsFaultWithin P (of_check at of last)
  check_within at of None h = h
  check_within at of (Some c) h = held_within at (of c) h

  there_within : (at : ℕ) (v : Result Value Overflow) → P at → IsFaultWithin P (value_there at v)
  there_within at (Ok v) h = tt
  there_within at (Err o) h = h

  values_within : (i : Interpretation) (ts : Trees) (us : List Term) → AllOffsetsOf P ts → IsFaultWithin P (valued i ts us)
  unfolding valued
  values_within i none us h = tt
  values_within i (more t ts) [] h = tt
  values_within i (more t ts) (u ∷ us) h =
      within_in_turn P (value_there (offset_of t) (bounded_value i [] u)) _ (there_within (offset_of t) (bounded_value i [] u) (own_offset P t h.0)) λ v.
      within_in_turn P (valued i ts us) _ (values_within i ts us h.1) λ rest. tt

  info_within : (at : ℕ) (s : State) (o : Option Info) → P at → IsFaultWithin P (info_reply at s o)
  info_within at s None h = tt
  info_within at s (Some name_info) h = tt
  info_within at s (Some version_info) h = tt
  info_within at s (Some authors_info) h = tt
  info_within at s (Some behavior_info) h = tt
  info_within at s (Some unknown_info) h = within_in_turn P (in_mode at reason_found s.answer) _ (mode_within at reason_found s.answer h) λ r. tt
  info_within at s (Some levels_info) h = tt

  reply_within : (limit at : ℕ) (s : State) (q : Question) → P at → QuestionWithin q → IsFaultWithin P (reply_to limit at s q)
  reply_within limit at s for_model here h =
      within_in_turn P (in_mode at model_found s.answer) _ (mode_within at model_found s.answer here) λ i.
      within_in_turn P (require s.stack.options.models at NotEnabled) _ (require_within P _ at NotEnabled here) λ on. tt
  reply_within limit at s for_proof here h =
      within_in_turn P (in_mode at proof_found s.answer) _ (mode_within at proof_found s.answer here) λ i.
      within_in_turn P (require s.stack.options.proofs at NotEnabled) _ (require_within P _ at NotEnabled here) λ on. tt
  reply_within limit at s for_assertions here h =
      within_in_turn P (require s.stack.options.assertions at NotEnabled) _ (require_within P _ at NotEnabled here) λ on. tt
  reply_within limit at s for_core here h =
      within_in_turn P (of_check at core_found s.answer) _ (check_within at core_found s.answer here) λ names.
      within_in_turn P (require s.stack.options.unsat_cores at NotEnabled) _ (require_within P _ at NotEnabled here) λ on. tt
  reply_within limit at s for_assumptions here h =
      within_in_turn P (of_check at assumptions_found s.answer) _ (check_within at assumptions_found s.answer here) λ literals.
      within_in_turn P (require s.stack.options.unsat_assumptions at NotEnabled) _ (require_within P _ at NotEnabled here) λ on. tt
  reply_within limit at s (for_values ts) here h =
      within_in_turn P (readings elsewhere (signature_of s.stack) [] ts) _ (terms_within elsewhere (signature_of s.stack) [] ts h) λ rs.
      within_in_turn P (in_mode at model_found s.answer) _ (mode_within at model_found s.answer here) λ i.
      within_in_turn P (require s.stack.options.models at NotEnabled) _ (require_within P _ at NotEnabled here) λ on.
      within_in_turn P (require (has_room limit (signature_of s.stack) rs.terms) at Full) _ (require_within P _ at Full here) λ room.
      within_in_turn P (valued i ts rs.terms) _ (values_within i ts rs.terms h) λ pairs. tt
  reply_within limit at s (for_option k) here h = tt
  reply_within limit at s (for_info k) here h = info_within at s (info_named k) here

  answer_within : (limits : Limits) (at : ℕ) (s : State) (asked : Answer Question) → P at → Gives P QuestionWithin asked → IsFaultWithin P (answer_to limits s at asked)
  answer_within limits at s asked here h = gives_in_turn P QuestionWithin (λ _. Unit {0}) asked _ h λ q k. reply_within limits.terms at s q here k

-- so the fault of what is asked is in its tree
pub asked_fault_within : (limits : Limits) (s : State) (t : Tree) (asked : Answer Question) (f : Located) → question_of t ≡ Some asked → answer_to limits s (offset_of t) asked ≡ Err f → HasOffset t f.offset
asked_fault_within limits s t asked f is e =
    let P = HasOffset t in
    let own = own_offsets t in
    subst (IsFaultWithin P) e (answer_within P limits (offset_of t) s asked (own_offset P t own) (subst (AskedWithin P) is (question_within P t own)))
