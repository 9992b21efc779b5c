-- From a run to the exit code of the program.
use Rattle.std.proofs.Common.{◌≡◌, ◌⊎◌, inl, inr, refl, subst, ℕ, true, List, [], map, Option, Some, None, Global, String, string_bytes}
use Rattle.world_io.specs.Writing.{SinkView}
use Rattle.script_run.specs.declared.status.Status.{Status}
use Rattle.script_run.specs.declared.status.Status.TheVariants.{Done, Refused, Words, Memory, ReadFault, WriteFault}
use Rattle.script_run.specs.Runs.{code_of}
use Rattle.script_run.specs.Scripts.{Holdings}
use Rattle.smt_top.specs.Arguments.{Asked, runs, judges, generates, asked, asked_of}
use Rattle.smt_top.specs.CommandLine.{AreTaken}
use Rattle.smt_top.specs.RunMeans.{RunMeans, is_answered}
use Rattle.smt_top.specs.Program.{Exits}

-- what is asked for is so by the bytes of the arguments
asked_by_bytes : (arguments : List (String Global)) → asked arguments ≡ asked_of (map string_bytes arguments)
unfolding asked
asked_by_bytes arguments = refl

-- where memory runs out before anything is read or written, that is a run
runs_out : (wanted : Option Asked) (holds : Holdings) (s : SinkView) → RunMeans Memory wanted holds s s
runs_out None holds s = refl
runs_out (Some (judges n)) holds s = refl
runs_out (Some (generates n)) holds s = refl
runs_out (Some (runs mode name conflicts)) holds s = inr refl

-- some arguments are taken
some_taken : (known : Option (List (List ℕ))) → (taken : List (List ℕ)) × AreTaken known taken
some_taken None = ([], tt)
some_taken (Some all) = (all, inl refl)

-- memory ran out at the arguments
pub exits_early : (code : ℕ) (known : Option (List (List ℕ))) (holds : Holdings) (s : SinkView) → code ≡ code_of Memory → Exits code known holds s s
exits_early code known holds s e =
    let taken = some_taken known in
    record { status = Memory; code_is = e; arguments = taken.0; taken = taken.1; ends = runs_out (asked_of taken.0) holds s; passed_on = λ no. cc }

-- all was written after these statuses alone
is_one_of : (status : Status) → is_answered status ≡ true → (status ≡ Done) ⊎ ((status ≡ Refused) ⊎ (status ≡ Words))
is_one_of Done e = inl refl
is_one_of Refused e = inr (inl refl)
is_one_of Words e = inr (inr refl)
is_one_of Memory e = cc
is_one_of ReadFault e = cc
is_one_of WriteFault e = cc

-- the run was made
pub exits_by : (code : ℕ) (status : Status) (known : Option (List (List ℕ))) (holds : Holdings) (old new : SinkView) (arguments : List (String Global)) → code ≡ code_of status → AreTaken known (map string_bytes arguments) → RunMeans status (asked arguments) holds old new
    → ((status ≡ Done) ⊎ ((status ≡ Refused) ⊎ (status ≡ Words)) → new.pending ≡ []) → Exits code known holds old new
exits_by code status known holds old new arguments e taken ends passed_on = record {
  status = status;
  code_is = e;
  arguments = map string_bytes arguments;
  taken = taken;
  ends = subst (λ wanted. RunMeans status wanted holds old new) (asked_by_bytes arguments) ends;
  passed_on = λ answered. passed_on (is_one_of status answered);
}

-- no other status has this number
pub is_read_fault : (status : Status) → code_of status ≡ code_of ReadFault → status ≡ ReadFault
is_read_fault Done e = cc
is_read_fault Refused e = cc
is_read_fault Words e = cc
is_read_fault Memory e = cc
is_read_fault ReadFault e = refl
is_read_fault WriteFault e = cc
