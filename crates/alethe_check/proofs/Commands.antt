-- A command that is read, judged, and added.
use Rattle.std.proofs.Common.{◌≡◌, inl, inr, sym, subst}
use Rattle.std.specs.Prelude.{Result, Ok, Err, OnOk, IfErr}
use Rattle.spec_sorts.specs.Signatures.{Signature, with_definitions}
use Rattle.spec_proofs.specs.Faults.{Fault, Read}
use Rattle.spec_checking.specs.Commands.{Known, Statement, assumed, stepped, nothing, Command}
use Rattle.spec_checking.specs.Judging.{IsRightAfter, IsWideStep, fault_of, wide_fault}
use Rattle.rule_bool.specs.declared.rule_stop.RuleStop.TheVariants as stops
use Rattle.alethe_reader.specs.declared.errors.CommandError.{CommandError}
use Rattle.alethe_reader.specs.declared.errors.CommandError.TheVariants as errors
use Rattle.alethe_reader.specs.declared.proof_state.ProofState.{ProofState}
use Rattle.alethe_reader.specs.declared.reading.ReadCommand.{ReadCommand}
use Rattle.alethe_reader.specs.Holding.{IsKnown, HasKnown}
use Rattle.alethe_reader.specs.Reads.{IsRead, statement_view}
use Rattle.alethe_check.specs.Stating.{JudgesStatement, stating}
use Rattle.alethe_check.specs.Judging.{TakesCommand, IsRefused, JudgesOne}

-- whether a statement is right does not depend on names
right_in : (k : Known) (scope : Signature) (s : Statement) → IsRightAfter (record k { scope = scope }) s → IsRightAfter k s
right_in k scope (assumed at n t) r = r
right_in k scope (stepped s) r = r
right_in k scope (nothing at) r = r

right_out : (k : Known) (scope : Signature) (s : Statement) → IsRightAfter k s → IsRightAfter (record k { scope = scope }) s
right_out k scope (assumed at n t) r = r
right_out k scope (stepped s) r = r
right_out k scope (nothing at) r = r

module _ (k : Known) (read : Read Command) (h : ProofState) (x : ReadCommand) (r : IsRead k read h x) where
  -- what is known where it is judged
  abbrev pub before : Known
  before = record k { scope = with_definitions k.scope r.command.made }

  -- it is right
  one_taken : (new : ProofState) (u : Unit {0}) → JudgesStatement before (statement_view h x) (Ok u) → IsKnown new (stating before (statement_view h x)) → TakesCommand k read new
  one_taken new u j known = record {
    command = r.command;
    is = r.is;
    right = right_in k (with_definitions k.scope r.command.made) r.command.statement (subst (λ (s : Statement). IsRightAfter before s) r.states j);
    known = subst (λ (s : Statement). IsKnown new (stating before s)) r.states known;
  }

  -- it is not right
  pub one_fails : (f : Fault) → JudgesStatement before (statement_view h x) (Err stops.Fails) → f ≡ fault_of (statement_view h x) → IsRefused k read f
  one_fails f j e =
      let m = subst (λ (s : Statement). JudgesStatement before s (Err stops.Fails)) r.states j in
      record {
        command = r.command;
        is = r.is;
        wrong = inr (
          λ right. m.0 (right_out k (with_definitions k.scope r.command.made) r.command.statement right),
          m.1,
          subst (λ (s : Statement). f ≡ fault_of s) r.states e,
        );
      }

  -- it cannot be told
  pub one_wide : (f : Fault) → JudgesStatement before (statement_view h x) (Err stops.Wide) → f ≡ wide_fault (statement_view h x) → IsRefused k read f
  one_wide f j e = record {
    command = r.command;
    is = r.is;
    wrong = inl (subst (λ (s : Statement). IsWideStep s) r.states j, subst (λ (s : Statement). f ≡ wide_fault s) r.states e);
  }

  -- what it states is added, or memory ran out
  pub one_added : (new : ProofState) (u : Unit {0}) (result : Result (Unit {0}) CommandError) → JudgesStatement before (statement_view h x) (Ok u)
      → OnOk result ((k : Known) → IsKnown h k → IsKnown new (stating k (statement_view h x))) → IfErr result (λ e. e ≡ errors.Memory) → JudgesOne k read result new
  one_added new u (Ok v) j added memory = one_taken new u j (added before r.known)
  one_added new u (Err e) j added memory = subst (λ (s : CommandError). JudgesOne k read (Err s) new) (sym memory) tt

  pub known_added : (new : ProofState) (result : Result (Unit {0}) CommandError)
      → OnOk result ((k : Known) → IsKnown h k → IsKnown new (stating k (statement_view h x))) → OnOk result (HasKnown new)
  known_added new (Ok v) added = (stating before (statement_view h x), added before r.known)
  known_added new (Err e) added = tt
