-- What the checker answers.
use Rattle.std.specs.Prelude.{◌≡◌, ℕ, List, Some, None, Result, Ok, Err}
use Rattle.spec_text.specs.Places.{IsPlaceOf}
use Rattle.spec_proofs.specs.declared.ProofKind.{ProofKind}
use Rattle.spec_proofs.specs.Faults.{Fault, fault_at}
use Rattle.spec_checking.specs.Accepted.{IsVerdict}
use Rattle.alethe_reader.specs.declared.errors.ProofFault.{ProofFault}
use Rattle.alethe_reader.specs.declared.errors.ProofStop.{ProofStop}
use Rattle.alethe_reader.specs.declared.errors.ProofStop.TheVariants as stops

-- the fault by its offset
abbrev pub fault_view : ProofFault → Fault
fault_view f = fault_at f.place.offset f.kind

-- the verdict on a proof of the k-th check of a script, with the place of a fault in the proof; out of memory is free
abbrev pub AnswersVerdict : List ℕ → ℕ → List ℕ → Result (Unit {0}) ProofStop → Type 0
AnswersVerdict script k proof (Ok u) = IsVerdict script k proof None
AnswersVerdict script k proof (Err (stops.Fault f)) = IsVerdict script k proof (Some (fault_view f))
    × IsPlaceOf proof f.place
AnswersVerdict script k proof (Err stops.Memory) = Unit {0}

-- the fault is of this kind, and is at this offset of the proof
abbrev pub Refuses : List ℕ → ℕ → ProofKind → ProofStop → Type 0
Refuses proof offset kind (stops.Fault f) = (f.kind ≡ kind) × (f.place.offset ≡ offset) × IsPlaceOf proof f.place
Refuses proof offset kind stops.Memory = ⊥
