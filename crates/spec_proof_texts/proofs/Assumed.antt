-- What a printed proof assumes when it is read back: the assumptions that its plan has.
use Rattle.std.proofs.Common.{◌≡◌, ℕ, List, [], ◌∷◌, ◌++◌, map, None, refl, sym, ap, ap₂, ◌∙◌, subst, append-nil}
use Rattle.std.specs.Prelude.{◌+◌, length, Ok}
use Rattle.spec_text.specs.Printed.{printed}
use Rattle.spec_text.proofs.AnswerLaws.{joined}
use Rattle.spec_text.proofs.Printing.{moved, moved_all}
use Rattle.spec_sorts.specs.Terms.{Term}
use Rattle.spec_sorts.specs.Signatures.{Signature}
use Rattle.spec_derivations.specs.Derivations.{Derivation, IsDerivation, IsDerivedFrom}
use Rattle.spec_checking.specs.Commands.{NamedClause, Known, Command}
use Rattle.spec_checking.specs.Reading.{command_of}
use Rattle.spec_checking.specs.Judging.{with_command}
use Rattle.spec_checking.specs.Good.{commands_in}
use Rattle.spec_checking.specs.Assumes.{terms_assumed, assumed_in}
use Rattle.spec_proof_texts.proofs.WholeTexts.{whole_assumes}
use Rattle.spec_models.specs.Values.{trees_of}
use Rattle.spec_proof_texts.specs.Lines.{Line, line_tree, proof_text}
use Rattle.spec_proof_texts.specs.Meaning.{Told, nothing_told, AreLinesAfter}
use Rattle.spec_proof_texts.specs.Plans.{Plan, terms_planned, lines_of, counted_inferences, IsPlan}
use Rattle.spec_proof_texts.specs.Printable.{ArePrintable, AllConcludeOver}
use Rattle.spec_proof_texts.specs.ReadBack.{AreScriptNames, known_before}
use Rattle.spec_proof_texts.proofs.Known.{numbers_in}
use Rattle.spec_proof_texts.proofs.Numbers.{unit_clauses, planned_assumed}
use Rattle.spec_proof_texts.proofs.MadeKnown.{IsKnownAfter, nothing_known}
use Rattle.spec_proof_texts.proofs.Lexed.{commands_at, alone_whole}
use Rattle.spec_proof_texts.proofs.EachLine.{known}
use Rattle.spec_proof_texts.proofs.AllLines.{line_goes, lines_writable}
use Rattle.spec_proof_texts.proofs.Planned.{lines_so}

-- Lines as commands, which assume what comes to be known as assumed.
record AreRead (asserted : List Term) (told end : Told) (s : Signature) (entries : List NamedClause) (lines : List Line) (at : ℕ) : Type 0 where
  commands : List Command
  read : commands_in None (known asserted s entries) (moved_all at (trees_of (map line_tree lines))) ≡ Ok commands
  assumes : told.assumes ++ unit_clauses (terms_assumed commands) ≡ end.assumes

module _ (g : Signature) (asserted : List Term) (own : AreScriptNames g) where
  lines_read : (told end : Told) (s : Signature) (entries : List NamedClause) (numbers : ℕ) (lines : List Line) (at : ℕ) → IsKnownAfter g told s entries numbers → AreLinesAfter g asserted told lines end → AreRead asserted told end s entries lines at
  unfolding commands_in
  lines_read told end s entries numbers [] at h right = record { commands = []; read = refl; assumes = append-nil told.assumes ∙ ap (λ (k : Told). k.assumes) (sym right) }
  lines_read told end s entries numbers (l ∷ ls) at h right =
      let next = right.0 in
      let x = line_goes None g asserted own told next s entries numbers h l at right.1 (tt, tt) in
      let place : ℕ = at + length (printed (line_tree l)) + 1 in
      let k : Known = known asserted s entries in
      let others = lines_read next end x.later_names x.later_entries (numbers + numbers_in (l ∷ [])) ls place x.made_known right.2 in
      let rest : commands_in None (with_command k x.command) (moved_all place (trees_of (map line_tree ls))) ≡ Ok others.commands = subst (λ (j : Known). commands_in None j (moved_all place (trees_of (map line_tree ls))) ≡ Ok others.commands) x.after others.read in
      record {
        commands = x.command ∷ others.commands;
        read = joined (command_of None k (moved at (line_tree l))) _ x.command (x.command ∷ others.commands) x.reads
            (joined (commands_in None (with_command k x.command) (moved_all place (trees_of (map line_tree ls)))) _ others.commands (x.command ∷ others.commands) rest refl);
        assumes = x.assumes_told (terms_assumed others.commands) ∙ others.assumes;
      }

-- clauses of one term are told apart by their terms
same_units : (ts us : List Term) → unit_clauses ts ≡ unit_clauses us → ts ≡ us
same_units [] [] e = refl
same_units [] (u ∷ us) e = cc
same_units (t ∷ ts) [] e = cc
same_units (t ∷ ts) (u ∷ us) e =
    let head : t ≡ u = cc in
    let tail : unit_clauses ts ≡ unit_clauses us = cc in
    ap₂ (λ x xs. x ∷ xs) head (same_units ts us tail)

pub assumes_planned : (g : Signature) (terms asserted : List Term) (d : Derivation) (n : ℕ) (plan : Plan) → AreScriptNames g → ArePrintable g terms d n → AllConcludeOver terms d → IsDerivation d → IsDerivedFrom asserted d n → IsPlan terms d n plan → assumed_in (known_before g asserted) (proof_text (lines_of terms d plan)) ≡ terms_planned d plan.inferences
assumes_planned g terms asserted d n plan own printable over right from p =
    let lines = lines_of terms d plan in
    let so = lines_so g terms asserted d n plan printable over right from p in
    let read = lines_read g asserted own (nothing_told so.placed) so.end g [] 0 lines 2 (nothing_known g own so.placed) so.right in
    let whole = alone_whole lines (lines_writable g own asserted (nothing_told so.placed) so.end lines so.right) in
    whole_assumes (known_before g asserted) (proof_text lines) (commands_at 0 lines) read.commands whole read.read
    ∙ same_units (terms_assumed read.commands) (terms_planned d (counted_inferences 1 1 p.support d)) (read.assumes ∙ so.assumes ∙ sym (planned_assumed 1 1 p.support d))
    ∙ ap (terms_planned d) (sym p.inferences)
