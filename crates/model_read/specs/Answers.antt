-- What reading a part of a model comes to.
use Rattle.std.specs.Prelude.{◌≡◌, Result, Ok, Err}
use Rattle.spec_model_files.specs.Faults.{ModelFault, model_fault, ReadModel}
use Rattle.model_read.specs.declared.errors.LocatedFault.{LocatedFault}
use Rattle.model_read.specs.declared.errors.ReadError.{ReadError}
use Rattle.model_read.specs.declared.errors.ReadError.TheVariants as errors

-- a fault of the code
abbrev pub located_view : LocatedFault → ModelFault
located_view f = model_fault f.offset f.kind

-- what was made, by what it means, or the fault
abbrev pub answered : {X Y : Type 0} → (X → Y) → Result X LocatedFault → ReadModel Y
answered view (Ok x) = Ok (view x)
answered view (Err f) = Err (located_view f)

-- nothing is made but an answer
abbrev pub agreed : Result (Unit {0}) LocatedFault → ReadModel (Unit {0})
agreed r = answered (λ u. u) r

-- What is read is something that is made so.
pub record IsReadAs {X Y : Type 0} (Means : X → Y → Type 0) (x : X) (read : ReadModel Y) : Type 0 where
  -- what is read
  pub value : Y
  -- it is that
  pub is : read ≡ Ok value
  -- it was made so
  pub means : Means x value

-- what is read was made so, or the fault is the same
abbrev pub Answers : {X Y : Type 0} → (X → Y → Type 0) → Result X LocatedFault → ReadModel Y → Type 0
Answers Means (Ok x) read = IsReadAs Means x read
Answers Means (Err f) read = read ≡ Err (located_view f)

-- the fault is the same, unless memory ran out
abbrev pub StopsRead : {Y : Type 0} → ReadError → ReadModel Y → Type 0
StopsRead (errors.Fault f) read = read ≡ Err (located_view f)
StopsRead errors.Memory read = Unit {0}

-- what is read was made so, or the fault is the same, unless memory ran out
abbrev pub Gives : {X Y : Type 0} → (X → Y → Type 0) → Result X ReadError → ReadModel Y → Type 0
Gives Means (Ok x) read = IsReadAs Means x read
Gives Means (Err e) read = StopsRead e read
