-- The text is read as the same tables, and the values of terms rest on these alone.
use Rattle.std.proofs.Common.{◌≡◌, true, [], inl, sym}
use Rattle.std.specs.Prelude.{Ok}
use Rattle.std.proofs.lemmas.List.Elements.{recursion_from_All}
use Rattle.spec_sorts.specs.Signatures.{Signature, symbols_in}
use Rattle.spec_sorts.specs.Values.{truth}
use Rattle.spec_sorts.specs.WellSorted.{IsFormulaOver}
use Rattle.spec_sorts.specs.BoundedValues.{bounded_value}
use Rattle.spec_commands.specs.Stack.{Assertion, signature_of}
use Rattle.spec_commands.specs.Checks.{asked, term_limit}
use Rattle.spec_commands.proofs.Kept.{sound_here}
use Rattle.spec_model_files.specs.Definitions.{interpretation_of}
use Rattle.spec_model_files.proofs.Agreement.{none_untrue}
use Rattle.spec_model_files.proofs.PrintedFiles.{tables_of, text_read, same_tables}
use Rattle.spec_model_files.proofs.laws.printed_models_are_valid.Goals as goal

pub returns : goal.returns
returns c = λ script k check i current p trues.
    let g : Signature = signature_of check.stack in
    let sound = (sound_here term_limit check.stack (c.assertions_have_their_texts_value.ensures.kept term_limit script k check current)).names in
    let formulas = c.what_is_asked_has_its_texts_value.ensures.formula term_limit script k check current in
    inl (
      check,
      current,
      record {
        answer = Ok (tables_of g i);
        reading = text_read g i sound p;
        is = sym (none_untrue i (interpretation_of g (tables_of g i)) (symbols_in g) (same_tables g i sound p) (asked check) (recursion_from_All (λ (a : Assertion). IsFormulaOver (symbols_in g) a.term) (asked check) formulas) (recursion_from_All (λ (a : Assertion). bounded_value i [] a.term ≡ Ok (truth true)) (asked check) trues));
      },
    )
