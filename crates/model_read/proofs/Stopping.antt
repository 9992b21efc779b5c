-- Faults at their offsets.
use Rattle.std.proofs.Common.{◌≡◌, ℕ, sym, ap, ◌∙◌, subst}
use Rattle.std.specs.Prelude.{Err}
use Rattle.spec_model_files.specs.declared.ModelKind.{ModelKind}
use Rattle.spec_model_files.specs.Faults.{model_fault, ReadModel, wrong}
use Rattle.model_read.specs.declared.errors.LocatedFault.{LocatedFault}
use Rattle.model_read.specs.declared.errors.ReadError.{ReadError}
use Rattle.model_read.specs.declared.errors.ReadError.TheVariants as errors
use Rattle.model_read.specs.Answers.{located_view, StopsRead}

-- a fault that was made at an offset is the one there
pub fault_there : {Y : Type 0} (r : ReadModel Y) (f : LocatedFault) (a at : ℕ) (k : ModelKind) → f ≡ record { offset = a; kind = k } → a ≡ at → r ≡ wrong at k → r ≡ Err (located_view f)
fault_there r f a at k is same h = h ∙ ap (λ (n : ℕ). Err (model_fault n k)) (sym same) ∙ ap (λ (x : LocatedFault). Err (located_view x)) (sym is)

pub stops_at : {Y : Type 0} (r : ReadModel Y) (e : ReadError) (a at : ℕ) (k : ModelKind) → e ≡ errors.Fault (record { offset = a; kind = k }) → a ≡ at → r ≡ wrong at k → StopsRead e r
stops_at r e a at k is same h = subst (λ (x : ReadError). StopsRead x r) (sym is) (h ∙ ap (λ (n : ℕ). Err (model_fault n k)) (sym same))

-- one reading stops where another does
pub stops_with : {X Y : Type 0} (r : ReadModel X) (s : ReadModel Y) (e : ReadError) → ((f : LocatedFault) → r ≡ Err (located_view f) → s ≡ Err (located_view f)) → StopsRead e r → StopsRead e s
stops_with r s (errors.Fault f) through h = through f h
stops_with r s errors.Memory through h = tt
