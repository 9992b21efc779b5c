-- The lines are where they were printed, and each is right after those before it.
use Rattle.std.proofs.Common.{◌+◌, ℕ, List, ◌++◌, None}
use Rattle.std.specs.Prelude.{codes}
use Rattle.spec_commands.specs.Stack.{signature_of, terms_asserted}
use Rattle.spec_commands.specs.Checks.{Check, asked, IsCurrent}
use Rattle.spec_proofs.specs.Texts.{IsWholeText}
use Rattle.spec_checking.specs.Good.{IsGood}
use Rattle.spec_proof_texts.specs.Lines.{Line, proof_text}
use Rattle.spec_proof_texts.specs.Meaning.{nothing_told, AreRightLines}
use Rattle.spec_proof_texts.specs.ReadBack.{AreScriptNames}
use Rattle.spec_proof_texts.proofs.Lexed.{commands_at, alone_whole, answered_whole}
use Rattle.spec_proof_texts.proofs.AllLines.{all_good, lines_writable}
use Rattle.spec_proof_texts.proofs.laws.printed_proofs_are_good.Goals as goal

-- a text that has the lines from an offset on, and is read as them alone
good_at : (limit : ℕ) (script : List ℕ) (k : ℕ) (c : Check) → IsCurrent limit script k c → AreScriptNames (signature_of c.stack)
    → (lines : List Line) → AreRightLines (signature_of c.stack) (terms_asserted (asked c)) lines
    → (text : List ℕ) (at : ℕ) → IsWholeText text (commands_at at lines) → IsGood limit script k text
good_at limit script k c current own lines right text at read = record {
  check = c;
  current = current;
  commands = commands_at at lines;
  read = read;
  good = all_good None (signature_of c.stack) (terms_asserted (asked c)) own lines (at + 1 + 1) right tt tt;
}

pub returns-clause-alone : goal.returns-clause-alone
returns-clause-alone c = λ limit script k check lines current right.
    let own = c.checks_have_script_names.ensures.names limit script k check current in
    good_at limit script k check current own lines right (proof_text lines) 0 (alone_whole lines (lines_writable (signature_of check.stack) own (terms_asserted (asked check)) (nothing_told right.placed) right.end lines right.right))

pub returns-clause-answered : goal.returns-clause-answered
returns-clause-answered c = λ limit script k check lines current right.
    let own = c.checks_have_script_names.ensures.names limit script k check current in
    good_at limit script k check current own lines right (codes "unsat\n" ++ proof_text lines) 6 (answered_whole lines (lines_writable (signature_of check.stack) own (terms_asserted (asked check)) (nothing_told right.placed) right.end lines right.right))
