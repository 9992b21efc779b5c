-- A file that is read without a fault is one list and nothing else.
use Rattle.std.proofs.Common.{◌≡◌, ℕ, Bool, true, false, List, [], ◌∷◌, ◌++◌, length, Option, Some, None, refl, sym, ap, ◌∙◌, subst, arith}
use Rattle.std.specs.Prelude.{Ok, Err}
use Rattle.std.proofs.lemmas.Bool.Decides.{nat_tests}
use Rattle.std.proofs.lemmas.List.{take_all}
use Rattle.spec_text.specs.Lexemes.{Lexeme, blank, opens, closes, word, wrong, lexemes}
use Rattle.spec_text.specs.Readings.{text_limit, kept, is_long}
use Rattle.spec_text.specs.Trees.{Trees, spelled_all}
use Rattle.spec_text.proofs.AnswerLaws.{answer, went}
use Rattle.spec_sorts.specs.Signatures.{Signature}
use Rattle.spec_proofs.specs.Texts.{Ending, complete, broken, left_over, AreCommands}
use Rattle.spec_proofs.proofs.Limits.{all_commands}
use Rattle.spec_model_files.specs.Faults.{ModelFault}
use Rattle.spec_model_files.specs.Definitions.{DefinedSymbol, definitions_read}
use Rattle.spec_model_files.specs.Texts.{behind_sat, ModelEnding, ends, no_list, AreDefinitions, model_lexemes, ending_fault}
use Rattle.spec_model_files.specs.Verdicts.{unless_fault, read_to_end, IsModelReading}

-- lexemes that are one list of these items and nothing else
abbrev IsOneList : List (ℕ × Lexeme) → Trees → Type 0
IsOneList xs ts = (at : ℕ) × (end : ℕ) × (xs ≡ (at, opens) ∷ spelled_all ts ++ (end, closes) ∷ [])

-- no other ending is without a fault
ends_well : (n : ℕ) (long : Bool) (e : ModelEnding) → ending_fault n long e ≡ None → (e ≡ ends complete) × (long ≡ false)
ends_well n false (ends complete) h = (refl, refl)
ends_well n true (ends complete) h = cc
ends_well n long (ends (broken f)) h = cc
ends_well n long (ends (left_over at)) h = cc
ends_well n true no_list h = cc
ends_well n false no_list h = cc

-- what is behind a list, if it is that
abbrev behind_list : ModelEnding → Option Ending
behind_list (ends e) = Some e
behind_list no_list = None

same_ending : (e f : Ending) → ends e ≡ ends f → e ≡ f
same_ending e f h = let both : Some e ≡ Some f = ap behind_list h in cc

one_list : (end : ℕ) (xs : List (ℕ × Lexeme)) (ts : Trees) → AreDefinitions end xs ts (ends complete) → IsOneList xs ts
one_list end [] ts h = let both : Some complete ≡ None = ap behind_list h.1 in cc
one_list end ((at, opens) ∷ xs) ts (f, commands, is) = all_commands true end ((at, opens) ∷ xs) ts (subst (AreCommands true end ((at, opens) ∷ xs) ts) (sym (same_ending complete f is)) commands)
one_list end ((at, word k n) ∷ xs) ts h = let both : complete ≡ left_over at = same_ending complete (left_over at) h.1 in cc
one_list end ((at, blank) ∷ xs) ts h = let both : complete ≡ broken h.1 = same_ending complete (broken h.1) h.3 in cc
one_list end ((at, closes) ∷ xs) ts h = let both : complete ≡ broken h.1 = same_ending complete (broken h.1) h.3 in cc
one_list end ((at, wrong w) ∷ xs) ts h = let both : complete ≡ broken h.1 = same_ending complete (broken h.1) h.3 in cc

-- what was read to the end was read, and no fault ends it
unless_ok : {A : Type 0} (o : Option ModelFault) (a b : A) → unless_fault o a ≡ Ok b → (a ≡ b) × (o ≡ None)
unless_ok None a b e = (answer (Ok a) b e, refl)
unless_ok (Some f) a b e = absurd (answer (Err f) b e)

-- A file without a fault.
pub record IsWhole (g : Signature) (text : List ℕ) (ds : List DefinedSymbol) : Type 0 where
  pub short : is_long text ≡ false
  pub at : ℕ
  pub definitions : Trees
  pub end : ℕ
  pub list : behind_sat (lexemes 0 0 text) ≡ (at, opens) ∷ spelled_all definitions ++ (end, closes) ∷ []
  pub read : definitions_read g [] definitions ≡ Ok ds

pub whole_file : (g : Signature) (text : List ℕ) (ds : List DefinedSymbol) → IsModelReading g text (Ok ds) → IsWhole g text ds
unfolding read_to_end
whole_file g text ds r =
    let a = went (definitions_read g [] r.definitions) _ ds (sym r.is) in
    let both = unless_ok (ending_fault (length text) (is_long text) r.ending) a.first ds a.then in
    let end = ends_well (length text) (is_long text) r.ending both.1 in
    let same : kept text ≡ text = take_all text_limit text (grind (arith, nat_tests, end.1)) in
    let list = one_list (length (kept text)) (model_lexemes text) r.definitions (subst (AreDefinitions (length (kept text)) (model_lexemes text) r.definitions) end.0 r.read) in
    record {
      short = end.1;
      at = list.0;
      definitions = r.definitions;
      end = list.1;
      list = ap (λ x. behind_sat (lexemes 0 0 x)) (sym same) ∙ list.2;
      read = a.was ∙ ap Ok both.0;
    }
