-- A verdict on the prefixes of two texts is that on the whole texts.
use Rattle.std.proofs.Common.{◌≡◌, ◌+◌, ℕ, Bool, true, false, List, length, Option, inl, inr, refl, ap, ◌∙◌, subst, arith}
use Rattle.std.proofs.lemmas.Bool.Decides.{nat_tests}
use Rattle.std.proofs.lemmas.List.{take_all}
use Rattle.spec_text.specs.Lexemes.{lexemes}
use Rattle.spec_text.specs.Trees.{Trees}
use Rattle.spec_text.specs.Readings.{text_limit, prefix, is_long}
use Rattle.spec_sorts.specs.Signatures.{Signature}
use Rattle.spec_commands.specs.Stack.{signature_of}
use Rattle.spec_proofs.specs.Texts.{complete, broken, left_over}
use Rattle.spec_proofs.proofs.Prefixes.{same_kept, same_long, read_by}
use Rattle.spec_model_files.specs.Faults.{ModelFault, ReadModel}
use Rattle.spec_model_files.specs.Definitions.{DefinedSymbol}
use Rattle.spec_model_files.specs.Texts.{behind_sat, ModelEnding, ends, no_list, AreDefinitions, IsModelText, ending_fault}
use Rattle.spec_model_files.specs.Verdicts.{read_to_end, IsModelReading, IsModelVerdict}

-- the bytes that are read are those of the prefix
text_of_prefix : (text : List ℕ) (ts : Trees) (e : ModelEnding) → IsModelText (prefix text) ts e → IsModelText text ts e
text_of_prefix text ts e r = subst (λ (bytes : List ℕ). AreDefinitions (length bytes) (behind_sat (lexemes 0 0 bytes)) ts e) (same_kept text_limit text) r

-- a text that has no more bytes is its prefix, and of a longer one the end does not matter
ending_of : (long : Bool) (text : List ℕ) (e : ModelEnding) → (long ≡ false → prefix text ≡ text) → ending_fault (length (prefix text)) long e ≡ ending_fault (length text) long e
ending_of long text (ends complete) same = refl
ending_of long text (ends (broken f)) same = refl
ending_of long text (ends (left_over at)) same = refl
ending_of true text no_list same = refl
ending_of false text no_list same = ap (λ (bytes : List ℕ). ending_fault (length bytes) false no_list) (same refl)

whole_prefix : (text : List ℕ) → is_long text ≡ false → prefix text ≡ text
whole_prefix text h = take_all (text_limit + 1) text (grind (arith, nat_tests))

ending_of_prefix : (text : List ℕ) (e : ModelEnding) → ending_fault (length (prefix text)) (is_long (prefix text)) e ≡ ending_fault (length text) (is_long text) e
ending_of_prefix text e =
    ap (λ long. ending_fault (length (prefix text)) long e) (same_long text_limit text)
    ∙ ending_of (is_long text) text e (whole_prefix text)

pub reading_of_prefix : (g : Signature) (text : List ℕ) (a : ReadModel (List DefinedSymbol)) → IsModelReading g (prefix text) a → IsModelReading g text a
reading_of_prefix g text a r = record {
  definitions = r.definitions;
  ending = r.ending;
  read = text_of_prefix text r.definitions r.ending r.read;
  is = r.is ∙ ap (λ f. read_to_end g f r.definitions) (ending_of_prefix text r.ending);
}

pub verdict_of_prefixes : (script model : List ℕ) (k : ℕ) (found : Option ModelFault) → IsModelVerdict (prefix script) k (prefix model) found → IsModelVerdict script k model found
verdict_of_prefixes script model k found (inl (c, h, j)) = inl (
  c,
  record { commands = h.commands; end = h.end; read = read_by script h.commands h.end h.read; here = h.here },
  record { answer = j.answer; reading = reading_of_prefix (signature_of c.stack) model j.answer j.reading; is = j.is },
)
verdict_of_prefixes script model k found (inr (h, e)) = inr (record { commands = h.commands; end = h.end; read = read_by script h.commands h.end h.read; none_here = h.none_here }, e)
