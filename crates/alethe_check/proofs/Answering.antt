-- From what was read to the verdict.
use Rattle.std.proofs.Common.{◌≡◌, ◌≤◌, ℕ, inl, inr, List, length, Option, Some, None, refl, sym, subst}
use Rattle.std.specs.Prelude.{Result, Ok, Err, OnOk}
use Rattle.spec_commands.specs.Checks.{term_limit, HasNoCheck}
use Rattle.spec_proofs.specs.declared.ProofKind.TheVariants.{NoSuchCheck}
use Rattle.spec_proofs.specs.Faults.{Fault}
use Rattle.spec_checking.specs.Accepted.{IsVerdict}
use Rattle.spec_checking.specs.Commands.{known_at}
use Rattle.assertion_stack.specs.declared.assuming.Assumed.{Assumed}
use Rattle.assertion_stack.specs.Stacks.{OverTable}
use Rattle.alethe_reader.specs.declared.errors.LocatedFault.{LocatedFault}
use Rattle.alethe_reader.specs.Reads.{located_view}
use Rattle.alethe_reader.specs.declared.errors.ProofStop.{ProofStop}
use Rattle.alethe_reader.specs.declared.errors.ProofStop.TheVariants as stops
use Rattle.script_standing.specs.Loads.{IsLoaded}
use Rattle.alethe_check.specs.Judging.{IsJudgedFrom}
use Rattle.alethe_check.specs.Verdicts.{AnswersVerdict, Refuses, fault_view}

-- the faults of verdicts are in the proof
abbrev pub FaultsAreInside : Type 0
FaultsAreInside = (script proof : List ℕ) (k : ℕ) (f : Fault) → IsVerdict script k proof (Some f) → f.offset ≤ length proof

module _ (script : List ℕ) (k : ℕ) (proof : List ℕ) where
  -- a verdict with a fault is what is answered
  answered : (f : Fault) (r : ProofStop) → IsVerdict script k proof (Some f) → Refuses proof f.offset f.kind r → AnswersVerdict script k proof (Err r)
  answered f (stops.Fault g) v s =
      let same : f ≡ fault_view g = λ i. record { offset = sym s.1 i; kind = sym s.0 i } in
      (subst (λ (x : Fault). IsVerdict script k proof (Some x)) same v, s.2)
  answered f stops.Memory v s = absurd s

  -- there is no such check
  pub no_check : (r : ProofStop) → HasNoCheck term_limit script k → Refuses proof 0 NoSuchCheck r → AnswersVerdict script k proof (Err r)
  no_check r h s = answered record { offset = 0; kind = NoSuchCheck } r (inr (h, refl)) s

  module _ (x : OverTable) (a : Assumed) (l : IsLoaded script k x a) where
    verdict : (found : Option Fault) → IsJudgedFrom (known_at l.check) proof found → IsVerdict script k proof found
    verdict found j = inl (l.check, l.current, record { commands = j.commands; ending = j.ending; read = j.read; fault = j.fault })

    pub accepted : (u : Unit {0}) → IsJudgedFrom (known_at l.check) proof None → AnswersVerdict script k proof (Ok u)
    accepted u j = verdict None j

    pub fault_inside : FaultsAreInside → (f : LocatedFault) → IsJudgedFrom (known_at l.check) proof (Some (located_view f)) → f.offset ≤ length proof
    fault_inside law f j = law script proof k (located_view f) (verdict (Some (located_view f)) j)

    pub fault_told : (f : LocatedFault) (r : ProofStop) → IsJudgedFrom (known_at l.check) proof (Some (located_view f)) → Refuses proof f.offset f.kind r → AnswersVerdict script k proof (Err r)
    fault_told f r j s = answered (located_view f) r (verdict (Some (located_view f)) j) s

-- what follows from an accepted proof
pub accepted_gives : (script : List ℕ) (k : ℕ) (proof : List ℕ) (r : Result (Unit {0}) ProofStop) (P : Type 0) → AnswersVerdict script k proof r → (IsVerdict script k proof None → P) → OnOk r P
accepted_gives script k proof (Ok u) P a law = law a
accepted_gives script k proof (Err e) P a law = tt
