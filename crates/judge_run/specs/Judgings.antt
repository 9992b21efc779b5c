-- What a text is judged as against a check of a script, what a verdict on it means, and its line.
use Rattle.std.specs.Prelude.{◌≡◌, ◌⊎◌, ℕ, List, codes, None, Some}
use Rattle.spec_text.specs.Places.{line_of, column_of}
use Rattle.spec_sorts.specs.Values.{Interpretation}
use Rattle.spec_commands.specs.Stack.{signature_of}
use Rattle.spec_commands.specs.Checks.{HasNoModel, MakesTrue, term_limit}
use Rattle.spec_proofs.specs.Faults.{Fault, fault_name}
use Rattle.spec_checking.specs.Accepted.{IsAccepted, IsVerdict}
use Rattle.spec_models.specs.Replies.{error_text}
use Rattle.spec_model_files.specs.Faults.{ModelFault, faulty_text, kind_name}
use Rattle.spec_model_files.specs.Verdicts.{SaysInterpretation, IsModelVerdict}

-- What a text is judged as.
pub data Judging : Type 0 where
  -- a proof of a check
  a_proof : Judging
  -- a model of a check
  a_model : Judging

-- A text, and the check of a script against which it is judged.
pub record JudgedTexts : Type 0 where
  -- what the text is judged as
  pub judging : Judging
  -- the script
  pub script : List ℕ
  -- which of the script's checks is meant, from 1
  pub at : ℕ
  -- the text
  pub text : List ℕ

-- the verdict on the texts is that the proof is accepted, with all that this means: no interpretation makes true what
-- is
-- asserted at that check of the script
pub record IsValid (script : List ℕ) (at : ℕ) (proof : List ℕ) : Type 0 where
  -- the verdict has no fault
  pub verdict : IsVerdict script at proof None
  -- the proof is accepted, of that check
  pub accepted : IsAccepted script at proof
  -- no interpretation makes true what is asserted there
  pub no_model : HasNoModel term_limit script at

-- The verdict on the texts is that the model is one, with all that this means.
pub record IsValidModel (script : List ℕ) (at : ℕ) (model : List ℕ) : Type 0 where
  -- the verdict has no fault
  pub verdict : IsModelVerdict script at model None
  -- an interpretation makes true what is asserted and assumed at that check of the script
  pub interpretation : Interpretation
  pub true : MakesTrue term_limit interpretation script at
  -- it is what the model file says of the check's symbols
  pub says : SaysInterpretation (signature_of true.here.stack) model interpretation
  -- no proof of that check is accepted
  pub no_proof : (proof : List ℕ) → IsAccepted script at proof → ⊥

-- the line of a text that is accepted
abbrev pub valid : List ℕ
valid = codes "valid\n"

-- a fault of a proof, with the line and column that it is at
abbrev pub error_line : List ℕ → Fault → List ℕ
error_line proof f = error_text (line_of proof f.offset) (column_of proof f.offset) (fault_name f.kind)

-- a fault of a model, with the line and column that it is at, in the script or in the model file
abbrev pub model_error_line : (script model : List ℕ) → ModelFault → List ℕ
model_error_line script model f =
    let text = faulty_text script model f.kind in
    error_text (line_of text f.offset) (column_of text f.offset) (kind_name f.kind)

-- the text is accepted
abbrev pub AcceptsBy : Judging → List ℕ → ℕ → List ℕ → Type 0
AcceptsBy a_proof script at text = IsValid script at text
AcceptsBy a_model script at text = IsValidModel script at text

-- the verdict is a fault, and this is its line
abbrev pub RefusesBy : Judging → List ℕ → ℕ → (text line : List ℕ) → Type 0
RefusesBy a_proof script at text line =
    (f : Fault) × IsVerdict script at text (Some f) × (line ≡ error_line text f)
RefusesBy a_model script at text line =
    (f : ModelFault) × IsModelVerdict script at text (Some f) × (line ≡ model_error_line script text f)

-- the text is accepted, as what it is judged
abbrev pub Accepts : JudgedTexts → Type 0
Accepts t = AcceptsBy t.judging t.script t.at t.text

-- the verdict on the text, as what it is judged, is a fault of this line
abbrev pub Refuses : JudgedTexts → List ℕ → Type 0
Refuses t line = RefusesBy t.judging t.script t.at t.text line

-- the line is that of a verdict on the text
abbrev pub IsVerdictLine : JudgedTexts → List ℕ → Type 0
IsVerdictLine t line = (Accepts t × (line ≡ valid)) ⊎ Refuses t line

-- no line of a verdict has more bytes
abbrev pub longest_line : ℕ
longest_line = 256
