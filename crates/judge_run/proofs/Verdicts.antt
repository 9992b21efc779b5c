-- From what is answered of the prefixes of two texts to the verdict on the whole texts.
use Rattle.std.proofs.Common.{◌≡◌, ◌≤◌, ◌+◌, ℕ, Bool, true, false, List, length, take, Option, Some, None, ap, ap₂, ◌∙◌, subst, arith, length-take}
use Rattle.std.specs.Prelude.{count_by, ◌==◌, if◌then◌else◌}
use Rattle.std.proofs.lemmas.List.{take-take}
use Rattle.spec_text.specs.declared.Place.{Place}
use Rattle.spec_text.specs.Places.{since_break, IsPlaceOf}
use Rattle.spec_text.specs.Readings.{text_limit, prefix}
use Rattle.spec_sorts.specs.Values.{Interpretation}
use Rattle.spec_commands.specs.Stack.{signature_of}
use Rattle.spec_commands.specs.Checks.{HasNoModel, MakesTrue, term_limit}
use Rattle.spec_proofs.specs.Faults.{Fault, fault_at, fault_name}
use Rattle.spec_proofs.specs.declared.ProofKind.{ProofKind}
use Rattle.spec_checking.specs.Accepted.{IsAccepted, IsVerdict}
use Rattle.spec_models.specs.Replies.{error_text}
use Rattle.spec_model_files.specs.declared.ModelKind.{ModelKind}
use Rattle.spec_model_files.specs.Faults.{ModelFault, model_fault, is_of_script, faulty_text, kind_name}
use Rattle.spec_model_files.specs.Verdicts.{SaysInterpretation, IsModelVerdict}
use Rattle.judge_run.specs.Judgings.{IsValid, IsValidModel, a_proof, a_model, RefusesBy}

-- that a verdict needs the prefixes alone, that without a fault the proof is accepted, and that nothing is then true
abbrev pub PrefixLaw : Type 0
PrefixLaw = (script proof : List ℕ) (k : ℕ) (found : Option Fault) → IsVerdict (prefix script) k (prefix proof) found → IsVerdict script k proof found

abbrev pub AcceptedLaw : Type 0
AcceptedLaw = (script proof : List ℕ) (k : ℕ) → (IsVerdict script k proof None → IsAccepted script k proof) × (IsAccepted script k proof → IsVerdict script k proof None)

abbrev pub SoundLaw : Type 0
SoundLaw = (script proof : List ℕ) (k : ℕ) → IsAccepted script k proof → HasNoModel term_limit script k

-- that a verdict on a model needs the prefixes alone, and what one without a fault means
abbrev pub ModelPrefixLaw : Type 0
ModelPrefixLaw = (script model : List ℕ) (k : ℕ) (found : Option ModelFault) → IsModelVerdict (prefix script) k (prefix model) found → IsModelVerdict script k model found

abbrev pub ModelLaw : Type 0
ModelLaw = (script model : List ℕ) (k : ℕ) → IsModelVerdict script k model None → (i : Interpretation) × (m : MakesTrue term_limit i script k) × SaysInterpretation (signature_of m.here.stack) model i

abbrev pub NoProofLaw : Type 0
NoProofLaw = (script model proof : List ℕ) (k : ℕ) → IsModelVerdict script k model None → IsAccepted script k proof → ⊥

-- within a prefix each byte is where it is in the text
same_front : (n at : ℕ) (text : List ℕ) → at ≤ length (take n text) → take at (take n text) ≡ take at text
same_front n at text within = take-take at n text (omega (arith, within, length-take n text))

-- what the line and the column of a byte count in the bytes before it
abbrev lines : List ℕ → ℕ
lines bytes = 1 + count_by (λ b. b == 10) bytes

abbrev columns : List ℕ → ℕ
columns bytes = 1 + since_break 0 bytes

place_in_text : (n : ℕ) (text : List ℕ) (p : Place) → IsPlaceOf (take n text) p → IsPlaceOf text p
place_in_text n text p h =
    let same = same_front n p.offset text h.within in
    record { within = omega (arith, h.within, length-take n text); line = h.line ∙ ap lines same; col = h.col ∙ ap columns same }

-- the line of a fault by its place
line_of_place : (text name : List ℕ) (p : Place) → IsPlaceOf text p → error_text p.line p.col name ≡ error_text (lines (take p.offset text)) (columns (take p.offset text)) name
line_of_place text name p h = ap₂ (λ l c. error_text l c name) h.line h.col

module _ (at : ℕ) (a b script text : List ℕ) (e : a ≡ prefix script) (f : b ≡ prefix text) where
  -- the proof is accepted
  pub proof_accepted : PrefixLaw → AcceptedLaw → SoundLaw → IsVerdict a at b None → IsValid script at text
  proof_accepted fronts accepts sound h =
      let verdict = fronts script text at None (subst (λ (x : List ℕ). IsVerdict (prefix script) at x None) f (subst (λ (x : List ℕ). IsVerdict x at b None) e h)) in
      let accepted = (accepts script text at).0 verdict in
      record { verdict = verdict; accepted = accepted; no_model = sound script text at accepted }

  -- it has a fault
  pub proof_refused : PrefixLaw → (k : ProofKind) (p : Place) → IsVerdict a at b (Some (fault_at p.offset k)) → IsPlaceOf b p → RefusesBy a_proof script at text (error_text p.line p.col (fault_name k))
  proof_refused fronts k p h place =
      let fault = fault_at p.offset k in
      let verdict = subst (λ (x : List ℕ). IsVerdict (prefix script) at x (Some fault)) f (subst (λ (x : List ℕ). IsVerdict x at b (Some fault)) e h) in
      let there = place_in_text (text_limit + 1) text p (subst (λ (x : List ℕ). IsPlaceOf x p) f place) in
      (fault, fronts script text at (Some fault) verdict, line_of_place text (fault_name k) p there)

  -- the model is one
  pub model_accepted : ModelPrefixLaw → ModelLaw → NoProofLaw → IsModelVerdict a at b None → IsValidModel script at text
  model_accepted fronts means none h =
      let verdict = fronts script text at None (subst (λ (x : List ℕ). IsModelVerdict (prefix script) at x None) f (subst (λ (x : List ℕ). IsModelVerdict x at b None) e h)) in
      let m = means script text at verdict in
      record { verdict = verdict; interpretation = m.0; true = m.1; says = m.2; no_proof = λ proof. none script text proof at verdict }

  -- the text that a fault is in
  in_text : (p : Place) (of_script : Bool) → IsPlaceOf (if of_script then prefix script else prefix text) p → IsPlaceOf (if of_script then script else text) p
  in_text p true h = place_in_text (text_limit + 1) script p h
  in_text p false h = place_in_text (text_limit + 1) text p h

  -- it has a fault, or is none
  pub model_refused : ModelPrefixLaw → (k : ModelKind) (p : Place) → IsModelVerdict a at b (Some (model_fault p.offset k)) → IsPlaceOf (faulty_text a b k) p → RefusesBy a_model script at text (error_text p.line p.col (kind_name k))
  model_refused fronts k p h place =
      let fault = model_fault p.offset k in
      let verdict = subst (λ (x : List ℕ). IsModelVerdict (prefix script) at x (Some fault)) f (subst (λ (x : List ℕ). IsModelVerdict x at b (Some fault)) e h) in
      let here = subst (λ (x : List ℕ). IsPlaceOf (faulty_text (prefix script) x k) p) f (subst (λ (x : List ℕ). IsPlaceOf (faulty_text x b k) p) e place) in
      let there = in_text p (is_of_script k) here in
      (fault, fronts script text at (Some fault) verdict, line_of_place (faulty_text script text k) (kind_name k) p there)
