-- That a formula that is true has the value true, and truths of names give an interpretation.
use Rattle.std.proofs.Common.{◌≡◌, Bool, get_or, [], sym, ap, ◌∙◌}
use Rattle.std.specs.Prelude.{true}
use Rattle.spec_sorts.specs.Values.{Value, truth, is_true}
use Rattle.spec_sorts.specs.Signatures.{symbols_in}
use Rattle.spec_sorts.specs.TermValues.{value_at}
use Rattle.spec_commands.specs.Stack.{signature_of}
use Rattle.spec_commands.specs.Checks.{asked}
use Rattle.spec_commands.proofs.Kept.{sound_here}
use Rattle.spec_checking.proofs.Models.{model_of, interprets, has_truth}
use Rattle.spec_checking.proofs.laws.satisfied_scripts_have_a_model.Goals as goal

-- a truth value that is true
true_value : (v : Value) → (b : Bool) × (v ≡ truth b) → is_true v ≡ true → v ≡ truth true
true_value v h e = h.1 ∙ ap truth (sym (ap is_true h.1) ∙ e)

pub returns-clause-truths : goal.returns-clause-truths
returns-clause-truths c = λ limit script k here v current.
    let s = signature_of here.stack in
    let sound = (sound_here limit here.stack (c.assertions_have_their_texts_value.ensures.kept limit script k here current)).names in
    (model_of s v, interprets s v sound, has_truth s v sound)

pub returns-clause-model : goal.returns-clause-model
returns-clause-model c = λ limit script k here current i tables given.
    let values = c.what_is_asked_has_its_texts_value.ensures.value limit script k here current i in
    let formulas = c.what_is_asked_has_its_texts_value.ensures.formula limit script k here current in
    record {
      here = here;
      current = current;
      interprets = tables;
      each = λ n d h.
          let a = get_or (asked here) n d in
          let v = c.values_have_their_terms_sort.ensures.formula i (symbols_in (signature_of here.stack)) a.term tables (formulas n d h) in
          values n d h ∙ true_value (value_at i [] a.term) v (given n d h);
    }
