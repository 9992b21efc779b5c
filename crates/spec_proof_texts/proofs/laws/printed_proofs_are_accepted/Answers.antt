-- A text that is read whole has room for what it defines.
use Rattle.std.proofs.Common.{◌≡◌, Some, ◌+◌, ◌*◌, ℕ, List, ◌++◌, length, false, arith, sym, subst, length-append}
use Rattle.std.specs.Prelude.{◌≤◌, codes}
use Rattle.std.proofs.lemmas.Bool.Decides.{nat_tests}
use Rattle.std.proofs.lemmas.List.{take_all}
use Rattle.spec_text.specs.Lexemes.{lexemes}
use Rattle.spec_text.specs.Readings.{text_limit, is_long, kept}
use Rattle.spec_text.specs.Trees.{Trees}
use Rattle.spec_sorts.specs.Signatures.{symbols_in}
use Rattle.spec_commands.specs.Stack.{signature_of, terms_asserted}
use Rattle.spec_commands.specs.Checks.{Check, asked, term_limit, IsCurrent}
use Rattle.spec_proofs.specs.Texts.{complete, behind_unsat, begins_listed, AreCommands, IsProofText}
use Rattle.spec_checking.specs.Accepted.{IsAccepted}
use Rattle.spec_proof_texts.specs.Lines.{Line, proof_text}
use Rattle.spec_checking.specs.Limits.{roomy_length, LeaveRoom}
use Rattle.spec_proof_texts.specs.Meaning.{nothing_told, AreRightLines}
use Rattle.spec_proof_texts.specs.ReadBack.{AreScriptNames}
use Rattle.spec_proof_texts.proofs.Lexed.{AreCommandsOf, commands_at, alone_lexed, answered_lexed}
use Rattle.spec_proof_texts.proofs.AllLines.{all_good, lines_writable}
use Rattle.spec_proof_texts.proofs.Sizes.{text_size}
use Rattle.spec_proof_texts.proofs.laws.printed_proofs_are_accepted.Goals as goal

not_long : (text : List ℕ) → length text ≤ roomy_length → is_long text ≡ false
not_long text le = grind (arith, nat_tests, le)

-- a text that is no longer than it may be is read whole
read_whole : (text : List ℕ) (ts : Trees) → length text ≤ roomy_length → AreCommandsOf text ts → IsProofText text ts complete
read_whole text ts le h = subst (λ (x : List ℕ). AreCommands (begins_listed (behind_unsat (lexemes 0 0 x))) (length x) (behind_unsat (lexemes 0 0 x)) ts complete) {x = text} {y = kept text} (sym (take_all text_limit text (omega (arith, le)))) h

-- a text that has the lines from an offset on, and is read as them alone
accepted_at : (script : List ℕ) (k : ℕ) (c : Check) → IsCurrent term_limit script k c → AreScriptNames (signature_of c.stack) → 5 * length (signature_of c.stack) ≤ length script → 11 * length (symbols_in (signature_of c.stack)) ≤ length script
    → (lines : List Line) → AreRightLines (signature_of c.stack) (terms_asserted (asked c)) lines
    → (text : List ℕ) (at : ℕ) → length (proof_text lines) ≤ length text → LeaveRoom script text → AreCommandsOf text (commands_at at lines) → IsAccepted script k text
accepted_at script k c current own few symbols lines right text at within room read =
    record {
      check = c;
      current = current;
      short = not_long text room.1;
      commands = commands_at at lines;
      read = read_whole text (commands_at at lines) room.1 read;
      good = all_good (Some term_limit) (signature_of c.stack) (terms_asserted (asked c)) own lines (at + 1 + 1) right (omega (arith, text_size lines, few, room.0, room.1, within)) (omega (arith, text_size lines, symbols, room.0, room.1, within));
    }

pub returns-clause-alone : goal.returns-clause-alone
returns-clause-alone c = λ script k check lines current right e.
    let own = c.checks_have_script_names.ensures.names term_limit script k check current in
    let few = c.checks_have_script_names.ensures.few term_limit script k check current in
    let symbols = c.checks_have_script_names.ensures.symbols term_limit script k check current in
    let g = signature_of check.stack in
    let asserted = terms_asserted (asked check) in
    accepted_at script k check current own few symbols lines right (proof_text lines) 0 (omega arith) e
    (alone_lexed lines (lines_writable g own asserted (nothing_told right.placed) right.end lines right.right))

pub returns-clause-answered : goal.returns-clause-answered
returns-clause-answered c = λ script k check lines current right e.
    let own = c.checks_have_script_names.ensures.names term_limit script k check current in
    let few = c.checks_have_script_names.ensures.few term_limit script k check current in
    let symbols = c.checks_have_script_names.ensures.symbols term_limit script k check current in
    let g = signature_of check.stack in
    let asserted = terms_asserted (asked check) in
    accepted_at script k check current own few symbols lines right (codes "unsat\n" ++ proof_text lines) 6 (omega (arith, length-append (codes "unsat\n") (proof_text lines))) e
    (answered_lexed lines (lines_writable g own asserted (nothing_told right.placed) right.end lines right.right))
