-- From a text whose commands were all answered to the line of its script.
use Rattle.std.proofs.Common.{◌≡◌, ◌∙◌, refl, sym, ap, subst, ℕ, ◌+◌, ◌≤◌, Bool, true, false, cond, List, [], ◌∷◌, ◌++◌, length, drop, Option, Some, None, Result, Ok, Err, arith, decimal}
use Rattle.std.specs.Prelude.{codes, ◌==◌, IsErr}
use Rattle.std.proofs.lemmas.Bool.{false≢true}
use Rattle.world_io.specs.declared.fault.Failed.{Failed}
use Rattle.world_io.specs.Writing.{SinkView, NotSent}
use Rattle.std.proofs.lemmas.List.{length-append}
use Rattle.std.proofs.Math.Seq.{drop-append_seam}
use Rattle.spec_commands.specs.Checks.{Check}
use Rattle.spec_proofs.specs.Faults.{Fault}
use Rattle.spec_checking.specs.Limits.{LeaveRoom}
use Rattle.spec_checking.specs.Accepted.{IsAccepted, IsVerdict}
use Rattle.spec_sessions.specs.Evidence.{Limits, Found, model, proof, spent, overflowed, Checked}
use Rattle.spec_sessions.specs.States.{State, ExecutionMode, start_mode, assert_mode, sat_mode, unsat_mode, unknown_mode, mode_found, mode_answered, mode_of}
use Rattle.spec_sessions.specs.Responses.{certify, answer_text, evidence_text}
use Rattle.spec_sessions.specs.Transcripts.{IsTranscript, checks_in}
use Rattle.spec_sessions.specs.Meaning.{AllSay, AnswerSays, FindingMeans}
use Rattle.alethe_reader.specs.declared.errors.ProofStop.{ProofStop}
use Rattle.alethe_reader.specs.declared.errors.ProofStop.TheVariants as stops
use Rattle.alethe_check.specs.Verdicts.{AnswersVerdict}
use Rattle.check_evidence.specs.Evidence.{HasLearned}
use Rattle.smt_session.specs.declared.mode.ExecutionMode.{ExecutionMode as CodeExecution}
use Rattle.smt_session.specs.Sessions.{SessionView, execution_meant, Delivers}
use Rattle.script_run.proofs.Saying.{WholeSays}
use Rattle.gen_script.specs.Scripts.{script}
use Rattle.smt_top.specs.Generated.{usual_limits, letters_of, generated_line, IsAnsweredAll, IsChecked, IsLineOf, Solves, IsAnsweredMode, IsNoFault}

-- in an answered mode there is an answer
pub has_answer : (s : State) → IsAnsweredMode (mode_of s) → (c : Checked) × (s.answer ≡ Some c)
has_answer s h = go s.stack.started s.answer refl h
  where
    go : (started : Bool) (o : Option Checked) → s.answer ≡ o → IsAnsweredMode (cond started (mode_answered o) start_mode) → (c : Checked) × (s.answer ≡ Some c)
    go true None e h = absurd h
    go true (Some c) e h = (c, e)
    go false o e h = absurd h

-- the mode is that of what was found
pub mode_is_found : (s : State) (c : Checked) → s.answer ≡ Some c → IsAnsweredMode (mode_of s) → mode_of s ≡ mode_found c.found
mode_is_found s c e h = go s.stack.started h
  where
    go : (started : Bool) → IsAnsweredMode (cond started (mode_answered s.answer) start_mode) → cond started (mode_answered s.answer) start_mode ≡ mode_found c.found
    go true h = ap mode_answered e
    go false h = absurd h

-- they are those of the answer, where the same mode is that of another state with an answer
pub letters_are : (m : ExecutionMode) (s0 s : State) (c : Checked) → m ≡ mode_of s0 → IsAnsweredMode (mode_of s0) → m ≡ mode_of s → s.answer ≡ Some c → letters_of m ≡ letters_of (mode_found c.found)
letters_are m s0 s c e0 h0 e answer = ap letters_of (e ∙ mode_is_found s c answer (subst IsAnsweredMode (sym e0 ∙ e) h0))

-- with letters it is an answer's
pub answered_by : (m : ExecutionMode) (letters : List ℕ) → letters ≡ letters_of m → (length letters == 0) ≡ false → IsAnsweredMode m
answered_by m letters e some = go m (ap (λ xs. length xs == 0) (sym e) ∙ some)
  where
    go : (m : ExecutionMode) → (length (letters_of m) == 0) ≡ false → IsAnsweredMode m
    go start_mode e = cc
    go assert_mode e = cc
    go sat_mode e = tt
    go unsat_mode e = tt
    go unknown_mode e = tt

-- the line of an answer has its letters and a line feed
line_len : (f : Found) → length (letters_of (mode_found f)) + 1 ≡ length (answer_text f)
line_len (model i) = refl
line_len (proof text) = refl
line_len (spent n d learned) = refl
line_len (overflowed o k) = refl

-- the pieces of the line
abbrev pub pieces : (size word conflicts pivots bytes : List ℕ) → List ℕ
pieces size word conflicts pivots bytes = size ++ (codes " " ++ (word ++ (codes " conflicts " ++ (conflicts ++ (codes " pivots " ++ (pivots ++ (codes " bytes " ++ (bytes ++ codes "\n"))))))))

pub line_is : (n : ℕ) (f : Found) (c p b : ℕ) (size word conflicts pivots bytes : List ℕ) → size ≡ decimal n → word ≡ letters_of (mode_found f) → conflicts ≡ decimal c → pivots ≡ decimal p → bytes ≡ decimal b → pieces size word conflicts pivots bytes ≡ generated_line n f c p b
line_is n f c p b size word conflicts pivots bytes es ew ec ep eb =
    ap (λ x. pieces x word conflicts pivots bytes) es ∙ ap (λ x. pieces (decimal n) x conflicts pivots bytes) ew ∙ ap (λ x. pieces (decimal n) (letters_of (mode_found f)) x pivots bytes) ec
    ∙ ap (λ x. pieces (decimal n) (letters_of (mode_found f)) (decimal c) x bytes) ep ∙ ap (λ x. pieces (decimal n) (letters_of (mode_found f)) (decimal c) (decimal p) x) eb

-- a prefix of it was written
pub delivers_failed : (line : List ℕ) (r : Result (Unit {0}) Failed) (a b : SinkView) → IsErr r → NotSent line a b → Delivers line r a b
delivers_failed line (Ok u) a b h s = absurd (false≢true h)
delivers_failed line (Err e) a b h s = s

-- what is no longer than a text may be
-- that without a fault a proof is accepted, and the other way round, and that there is one verdict
abbrev pub AcceptedLaw : Type 0
AcceptedLaw = (script proof : List ℕ) (k : ℕ) → (IsVerdict script k proof None → IsAccepted script k proof) × (IsAccepted script k proof → IsVerdict script k proof None)

abbrev pub OneLaw : Type 0
OneLaw = (script proof : List ℕ) (k : ℕ) (a b : Option Fault) → IsVerdict script k proof a → IsVerdict script k proof b → a ≡ b

-- the proof of the script's check is accepted
pub is_no_fault : AcceptedLaw → OneLaw → (text evidence : List ℕ) (c : Checked) → AnswerSays usual_limits text 1 c → unsat_mode ≡ mode_found c.found → evidence ≡ evidence_text c → LeaveRoom text evidence
    → (r : Result (Unit {0}) ProofStop) → AnswersVerdict text 1 evidence r → IsNoFault r
is_no_fault accepts one text evidence c say mode is room r h = go c.check c.found say.means mode is r h
  where
    go : (check : Check) (f : Found) → FindingMeans usual_limits text 1 check f → unsat_mode ≡ mode_found f → evidence ≡ evidence_text (record { check = check; found = f }) → (r : Result (Unit {0}) ProofStop) → AnswersVerdict text 1 evidence r → IsNoFault r
    go check (model i) m mode is r h = cc
    go check (spent n d learned) m mode is r h = cc
    go check (overflowed o k) m mode is r h = cc
    go check (proof p) m mode is (Ok u) h = tt
    go check (proof p) m mode is (Err stops.Memory) h = tt
    go check (proof p) m mode is (Err (stops.Fault f)) h =
        let accepted = subst (IsAccepted text 1) (sym is) (m.accepted refl (subst (LeaveRoom text) is room)) in
        let same = one text evidence 1 None _ ((accepts text evidence 1).1 accepted) h.0 in
        cc

module _ (say : WholeSays) (n : ℕ) (limits : Limits) (text : List ℕ) (x : SessionView) (out : List ℕ) (i : IsAnsweredAll limits text x out) (usual : limits ≡ usual_limits) (is : text ≡ script n) (m : CodeExecution) (mode : execution_meant m ≡ mode_of i.state) (answered : IsAnsweredMode (execution_meant m)) where
  here : IsAnsweredMode (mode_of i.state)
  here = subst IsAnsweredMode mode answered

  pub found : (c : Checked) × (i.state.answer ≡ Some c)
  found = has_answer i.state here

  pub mode_found_is : execution_meant m ≡ mode_found found.0.found
  mode_found_is = mode ∙ mode_is_found i.state found.0 found.1 here

  -- what is told of the text is told of the script
  abbrev Told : Limits → List ℕ → List ℕ → Type 0
  Told l t o = (w : IsTranscript l certify t o false) × (checks_in w.answers ≡ found.0 ∷ []) × AllSay l t 0 (checks_in w.answers)

  told : Told usual_limits (script n) (answer_text found.0.found ++ evidence_text found.0)
  told =
      let one = i.one found.0 found.1 in
      let all : Told limits text out = (i.transcript, one.0, say limits certify text out false i.transcript) in
      subst (λ l. Told l (script n) (answer_text found.0.found ++ evidence_text found.0)) usual (subst (λ t. Told limits t (answer_text found.0.found ++ evidence_text found.0)) is (subst (Told limits text) one.1 all))

  checked : IsChecked n found.0
  checked = record { transcript = told.0; only = told.1; says = told.2 }

  -- the check is the first of the script
  pub says_first : AnswerSays usual_limits (script n) 1 found.0
  says_first = (subst (AllSay usual_limits (script n) 0) told.1 told.2).0

  module _ (word : List ℕ) (letters : word ≡ letters_of (execution_meant m)) where
    abbrev start : ℕ
    start = length word + 1

    starts : start ≡ length (answer_text found.0.found)
    starts = ap (λ w. length w + 1) (letters ∙ ap letters_of mode_found_is) ∙ line_len found.0.found

    pub start_within : start ≤ length out
    start_within =
        let size = ap length (i.one found.0 found.1).1 ∙ length-append (answer_text found.0.found) (evidence_text found.0) in
        omega (arith, size, starts)

    pub evidence_is : drop start out ≡ evidence_text found.0
    evidence_is =
        ap (λ k. drop k out) starts ∙ ap (drop (length (answer_text found.0.found))) (i.one found.0 found.1).1 ∙ drop-append_seam (answer_text found.0.found) (evidence_text found.0)

    pub solves : (bytes : ℕ) → bytes ≡ length (drop start out) → Solves n bytes x
    solves bytes size = record {
      state = i.state;
      represents = i.represents;
      checked = found.0;
      answer = found.1;
      mode = here;
      is_checked = checked;
      learned = subst (λ l. HasLearned l x.script.table found.0.check found.0.found x.script.budget) usual (i.one found.0 found.1).2;
      size = size ∙ ap length evidence_is;
    }

    -- so judging it found no fault
    pub judged : (A : Type 0) (stop : ProofStop) (bytes evidence : List ℕ) → bytes ≡ script n → evidence ≡ drop start out
        → ((d : Checked) → AnswerSays usual_limits bytes 1 d → execution_meant m ≡ mode_found d.found → evidence ≡ evidence_text d → IsNoFault {A = Unit {0}} (Err stop)) → IsNoFault {A = A} (Err stop)
    judged A stop bytes evidence script_is drop_is law = go stop (law found.0 (subst (λ b. AnswerSays usual_limits b 1 found.0) (sym script_is) says_first) mode_found_is (drop_is ∙ evidence_is))
      where
        go : (stop : ProofStop) → IsNoFault {A = Unit {0}} (Err stop) → IsNoFault {A = A} (Err stop)
        go (stops.Fault f) h = h
        go stops.Memory h = tt

-- the line of the script
pub line_of : (n bytes : ℕ) (x : SessionView) (s : Solves n bytes x) → IsLineOf n (generated_line n s.checked.found (length x.script.budget.learned) (length x.script.budget.exchanges) bytes)
line_of n bytes x s = record {
  checked = s.checked;
  is_checked = s.is_checked;
  table = x.script.table;
  budget = x.script.budget;
  learned = s.learned;
  is = ap (generated_line n s.checked.found (length x.script.budget.learned) (length x.script.budget.exchanges)) s.size;
}
