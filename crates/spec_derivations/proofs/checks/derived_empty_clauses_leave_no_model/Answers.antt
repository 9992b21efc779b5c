-- What is derived from the terms is true where they are, and the empty clause is not.
use Rattle.std.proofs.Common.{◌≡◌, true, ap, sym, ◌∙◌, subst}
use Rattle.std.proofs.lemmas.Bool.{false≢true}
use Rattle.std.proofs.lemmas.List.Elements.{All-contains}
use Rattle.spec_sorts.specs.Values.{is_true, Interprets}
use Rattle.spec_sorts.specs.Signatures.{symbols_in}
use Rattle.spec_commands.specs.Stack.{signature_of}
use Rattle.spec_commands.specs.Checks.{Check, asked, IsTrueAssertion}
use Rattle.std.specs.Prelude.{All}
use Rattle.spec_rules.specs.Clauses.{term_true, clause_true}
use Rattle.spec_derivations.specs.Problems.{problem_of, terms_of_problem}
use Rattle.spec_derivations.specs.Derivations.{AssumesAmong}
use Rattle.spec_derivations.proofs.Asked.{terms_have}
use Rattle.spec_derivations.proofs.checks.derived_empty_clauses_leave_no_model.Goals as goal

pub returns : goal.returns
returns c limit script k check interface d n current right formulas derived empty = λ i model.
    let terms = terms_of_problem (problem_of check interface) in
    let symbols = symbols_in (signature_of check.stack) in
    let same = c.texts_have_one_check_of_a_number.ensures.one limit script k model.here check model.current current in
    let interprets = subst (λ (x : Check). Interprets i (symbols_in (signature_of x.stack))) same model.interprets in
    let each = subst (λ (x : Check). All (IsTrueAssertion i (signature_of x.stack)) (asked x)) same model.each in
    let values = c.what_is_asked_has_its_texts_value.ensures.value limit script k check current i in
    let true_terms = terms_have (λ t. term_true i t ≡ true) check interface (λ j x lt. ap is_true (sym (values j x lt) ∙ each j x lt)) in
    let holds = c.derivations_are_sound.ensures symbols d i right interprets formulas n derived.there (λ m t depends e. All-contains (λ u. term_true i u ≡ true) terms t true_terms (subst (AssumesAmong terms) e (derived.assumptions m depends))) in
    false≢true (ap (clause_true i) (sym empty) ∙ holds)
