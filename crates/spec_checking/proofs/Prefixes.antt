-- A verdict on the prefixes of two texts is that on the whole texts.
use Rattle.std.proofs.Common.{◌≡◌, ◌+◌, ℕ, Bool, true, false, List, length, take, nat_lt, Option, Some, Ok, Err, inl, inr, refl, subst, arith}
use Rattle.std.proofs.lemmas.Bool.Decides.{nat_tests}
use Rattle.std.proofs.lemmas.List.{take_all}
use Rattle.spec_text.specs.Lexemes.{lexemes}
use Rattle.spec_text.specs.Trees.{Trees, none, more}
use Rattle.spec_text.specs.Readings.{text_limit, prefix, is_long, too_long, at_limit}
use Rattle.spec_commands.specs.Checks.{Check, term_limit, IsCurrent, HasNoCheck}
use Rattle.spec_proofs.specs.declared.ProofKind.TheVariants.{BadShape}
use Rattle.spec_proofs.specs.Faults.{Fault, Read, fault_at, text_fault}
use Rattle.spec_checking.specs.Commands.{Known, Command, known_at}
use Rattle.spec_checking.specs.Reading.{command_of}
use Rattle.spec_proofs.specs.Texts.{behind_unsat, begins_listed, Ending, complete, broken, left_over, AreCommands, IsProofText, ending_fault}
use Rattle.spec_checking.specs.Judging.{with_command, FaultBy, FirstFault}
use Rattle.spec_proofs.proofs.Prefixes.{same_kept, same_long, read_by}
use Rattle.spec_checking.specs.Accepted.{IsJudged, IsVerdict}

-- a text that has no more bytes is its prefix
whole_front : (n : ℕ) (text : List ℕ) → nat_lt n (length text) ≡ false → take (n + 1) text ≡ text
whole_front n text h = take_all (n + 1) text (grind (arith, nat_tests))

current_by : (limit : ℕ) (text : List ℕ) (k : ℕ) (x : Check) → IsCurrent limit (prefix text) k x → IsCurrent limit text k x
current_by limit text k x c = record { commands = c.commands; end = c.end; read = read_by text c.commands c.end c.read; here = c.here }

no_check_by : (limit : ℕ) (text : List ℕ) (k : ℕ) → HasNoCheck limit (prefix text) k → HasNoCheck limit text k
no_check_by limit text k c = record { commands = c.commands; end = c.end; read = read_by text c.commands c.end c.read; none_here = c.none_here }

-- so is a proof
commands_by : (text : List ℕ) (ts : Trees) (e : Ending) → IsProofText (prefix text) ts e → IsProofText text ts e
commands_by text ts e r =
    subst (λ (bytes : List ℕ). AreCommands (begins_listed (behind_unsat (lexemes 0 0 bytes))) (length bytes) (behind_unsat (lexemes 0 0 bytes)) ts e) (same_kept text_limit text) r

-- where what ends the text is a fault, it does not matter where that end is
any_end : (limit : Option ℕ) (k : Known) (m n : ℕ) (f : Fault) (ts : Trees) (found : Option Fault) → FirstFault limit k m (Some f) ts found → FirstFault limit k n (Some f) ts found
unfolding FirstFault
any_end limit k m n f none found h = h
any_end limit k m n f (more t ts) found h = go (command_of limit k t) h (λ next. any_end limit next m n f ts found)
  where
    go : (o : Read Command) → FaultBy k o (λ next. FirstFault limit next m (Some f) ts found) found
        → ((next : Known) → FirstFault limit next m (Some f) ts found → FirstFault limit next n (Some f) ts found)
        → FaultBy k o (λ next. FirstFault limit next n (Some f) ts found) found
    go (Err g) h rec = h
    go (Ok c) (inl x) rec = inl (x.0, rec (with_command k c) x.1)
    go (Ok c) (inr (inl x)) rec = inr (inl x)
    go (Ok c) (inr (inr x)) rec = inr (inr x)

-- in a text with more bytes it is always one
end_of_long : (limit : Option ℕ) (k : Known) (m n : ℕ) (e : Ending) (ts : Trees) (found : Option Fault) → FirstFault limit k m (ending_fault true e) ts found → FirstFault limit k n (ending_fault true e) ts found
end_of_long limit k m n complete ts found h = any_end limit k m n (text_fault too_long) ts found h
end_of_long limit k m n (broken f) ts found h = any_end limit k m n (text_fault (at_limit true f)) ts found h
end_of_long limit k m n (left_over at) ts found h = any_end limit k m n (fault_at at BadShape) ts found h

-- the end of the prefix is that of the text, or does not matter
fault_by : (limit : Option ℕ) (k : Known) (text : List ℕ) (e : Ending) (ts : Trees) (found : Option Fault) → FirstFault limit k (length (prefix text)) (ending_fault (is_long text) e) ts found → FirstFault limit k (length text) (ending_fault (is_long text) e) ts found
fault_by limit k text e ts found h = go (is_long text) (whole_front text_limit text) h
  where
    go : (long : Bool) → (long ≡ false → prefix text ≡ text) → FirstFault limit k (length (prefix text)) (ending_fault long e) ts found → FirstFault limit k (length text) (ending_fault long e) ts found
    go false same h = subst (λ (bytes : List ℕ). FirstFault limit k (length bytes) (ending_fault false e) ts found) (same refl) h
    go true same h = end_of_long limit k (length (prefix text)) (length text) e ts found h

judged_by : (c : Check) (proof : List ℕ) (found : Option Fault) → IsJudged c (prefix proof) found → IsJudged c proof found
judged_by c proof found j = record {
  commands = j.commands;
  ending = j.ending;
  read = commands_by proof j.commands j.ending j.read;
  fault = fault_by (Some term_limit) (known_at c) proof j.ending j.commands found (subst (λ long. FirstFault (Some term_limit) (known_at c) (length (prefix proof)) (ending_fault long j.ending) j.commands found) (same_long text_limit proof) j.fault);
}

pub verdict_of_prefixes : (script proof : List ℕ) (k : ℕ) (found : Option Fault) → IsVerdict (prefix script) k (prefix proof) found → IsVerdict script k proof found
verdict_of_prefixes script proof k found (inl x) = inl (x.0, current_by term_limit script k x.0 x.1, judged_by x.0 proof found x.2)
verdict_of_prefixes script proof k found (inr x) = inr (no_check_by term_limit script k x.0, x.1)
