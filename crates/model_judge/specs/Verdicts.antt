-- What judging a model file comes to.
use Rattle.std.specs.Prelude.{◌≡◌, ℕ, List, Some, None, Result, Ok, Err}
use Rattle.spec_text.specs.Places.{IsPlaceOf}
use Rattle.spec_sorts.specs.Values.{Interpretation}
use Rattle.spec_commands.specs.Stack.{signature_of}
use Rattle.spec_commands.specs.Checks.{term_limit, MakesTrue}
use Rattle.spec_model_files.specs.declared.ModelKind.{ModelKind}
use Rattle.spec_model_files.specs.Faults.{ModelFault, model_fault, faulty_text}
use Rattle.spec_model_files.specs.Verdicts.{SaysInterpretation, IsModelVerdict}
use Rattle.script_standing.specs.declared.standing.Standing.{Standing}
use Rattle.script_standing.specs.Standings.{Stands}
use Rattle.model_read.specs.declared.errors.ModelFault.{ModelFault as CodeFault}
use Rattle.model_read.specs.declared.errors.ModelStop.{ModelStop}
use Rattle.model_read.specs.declared.errors.ModelStop.TheVariants as stops

-- the fault by its offset
abbrev pub fault_view : CodeFault → ModelFault
fault_view f = model_fault f.place.offset f.kind

-- the verdict on a model file of the k-th check of a script, with the place of a fault in the text that it is in; out
-- of memory is free
abbrev pub AnswersModel : List ℕ → ℕ → List ℕ → Result (Unit {0}) ModelStop → Type 0
AnswersModel script k model (Ok u) = IsModelVerdict script k model None
AnswersModel script k model (Err (stops.Fault f)) = IsModelVerdict script k model (Some (fault_view f))
    × IsPlaceOf (faulty_text script model f.kind) f.place
AnswersModel script k model (Err stops.Memory) = Unit {0}

-- the model file says an interpretation that makes all true that the k-th check of the script asks about
abbrev pub IsModelOf : List ℕ → ℕ → List ℕ → Type 0
IsModelOf script k model = (i : Interpretation) × (m : MakesTrue term_limit i script k)
    × SaysInterpretation (signature_of m.here.stack) model i

-- it is what some check of the script asks about
abbrev pub HasStanding : List ℕ → Standing → Type 0
HasStanding script s = (k : ℕ) × Stands script k s

-- the fault is of this kind, and is at this offset of the text
abbrev pub Refuses : List ℕ → ℕ → ModelKind → ModelStop → Type 0
Refuses text offset kind (stops.Fault f) = (f.kind ≡ kind) × (f.place.offset ≡ offset) × IsPlaceOf text f.place
Refuses text offset kind stops.Memory = ⊥
