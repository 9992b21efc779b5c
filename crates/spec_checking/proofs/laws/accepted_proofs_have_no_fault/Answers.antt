-- That a verdict without a fault is on a text that is commands to its end.
use Rattle.std.proofs.Common.{◌≡◌, ℕ, Bool, true, false, List, length, Some, None, inl, inr, refl, sym, subst}
use Rattle.spec_text.specs.Trees.{Trees}
use Rattle.spec_text.specs.Readings.{is_long, too_long, at_limit}
use Rattle.spec_commands.specs.Checks.{term_limit}
use Rattle.spec_proofs.specs.declared.ProofKind.TheVariants.{BadShape}
use Rattle.spec_proofs.specs.Faults.{fault_at, text_fault}
use Rattle.spec_checking.specs.Commands.{Known, known_at}
use Rattle.spec_proofs.specs.Texts.{Ending, complete, broken, left_over, IsProofText, ending_fault}
use Rattle.spec_checking.specs.Judging.{FirstFault}
use Rattle.spec_checking.specs.Good.{AreGood}
use Rattle.spec_checking.specs.Accepted.{IsAccepted, IsVerdict, no_such_check}
use Rattle.spec_checking.proofs.Good.{wrong_end}
use Rattle.spec_checking.proofs.laws.accepted_proofs_have_no_fault.Goals as goal

-- without a fault the text is no longer than it may be, and nothing comes after its commands
is_whole : (end : ℕ) (k : Known) (ts : Trees) (long : Bool) (e : Ending) → FirstFault (Some term_limit) k end (ending_fault long e) ts None → (long ≡ false) × (e ≡ complete) × FirstFault (Some term_limit) k end None ts None
is_whole end k ts false complete h = (refl, refl, h)
is_whole end k ts true complete h = absurd (wrong_end (Some term_limit) end k (text_fault too_long) ts h)
is_whole end k ts long (broken f) h = absurd (wrong_end (Some term_limit) end k (text_fault (at_limit long f)) ts h)
is_whole end k ts long (left_over at) h = absurd (wrong_end (Some term_limit) end k (fault_at at BadShape) ts h)

abbrev Law : Type 0
Law = (k : Known) (end : ℕ) (ts : Trees) → (AreGood (Some term_limit) k ts → FirstFault (Some term_limit) k end None ts None) × (FirstFault (Some term_limit) k end None ts None → AreGood (Some term_limit) k ts)

accepted : (law : Law) (script proof : List ℕ) (k : ℕ) → IsVerdict script k proof None → IsAccepted script k proof
accepted law script proof k (inr h) = let none : None ≡ Some no_such_check = h.1 in cc
accepted law script proof k (inl h) =
    let here = h.0 in
    let judged = h.2 in
    let whole = is_whole (length proof) (known_at here) judged.commands (is_long proof) judged.ending judged.fault in
    record {
      check = here;
      current = h.1;
      short = whole.0;
      commands = judged.commands;
      read = subst (IsProofText proof judged.commands) whole.1 judged.read;
      good = (law (known_at here) (length proof) judged.commands).1 whole.2;
    }

no_fault : (law : Law) (script proof : List ℕ) (k : ℕ) → IsAccepted script k proof → IsVerdict script k proof None
no_fault law script proof k a =
    let here = a.check in
    let good = (law (known_at here) (length proof) a.commands).0 a.good in
    inl (
      here,
      a.current,
      record {
        commands = a.commands;
        ending = complete;
        read = a.read;
        fault = subst (λ long. FirstFault (Some term_limit) (known_at here) (length proof) (ending_fault long complete) a.commands None) (sym a.short) good;
      },
    )

pub returns : goal.returns
returns c = λ script proof k. (accepted (c.good_proofs_have_no_fault.ensures (Some term_limit)) script proof k, no_fault (c.good_proofs_have_no_fault.ensures (Some term_limit)) script proof k)
