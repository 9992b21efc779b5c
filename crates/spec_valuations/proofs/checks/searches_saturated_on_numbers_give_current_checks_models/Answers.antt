-- The interpretation has the tables that the search gives, by their names.
use Rattle.std.proofs.Common.{◌≡◌, true, ap}
use Rattle.spec_sorts.specs.Values.{is_true}
use Rattle.spec_sorts.specs.Signatures.{symbols_in}
use Rattle.spec_commands.specs.Stack.{signature_of}
use Rattle.spec_commands.proofs.Kept.{sound_here}
use Rattle.spec_rules.specs.Clauses.{term_true}
use Rattle.spec_derivations.specs.Problems.{problem_of}
use Rattle.spec_derivations.proofs.Asked.{assertions_have}
use Rattle.spec_valuations.specs.Saturation.{values_of}
use Rattle.spec_valuations.proofs.Named.{model_by, named}
use Rattle.spec_valuations.proofs.checks.searches_saturated_on_numbers_give_current_checks_models.Goals as goal

pub returns : goal.returns
returns c limit script k check interface terms held a current saturated_here assumed =
    let s = signature_of check.stack in
    let p = problem_of check interface in
    let i = model_by s (values_of a) terms in
    let sound = (sound_here limit check.stack (c.assertions_have_their_texts_value.ensures.kept limit script k check current)).names in
    let model = named s (values_of a) terms sound in
    let law = c.searches_saturated_on_numbers_have_models.ensures in
    let tables = law.interprets (symbols_in s) p terms held a i saturated_here model in
    let each = law.all (symbols_in s) p terms held a i saturated_here model assumed in
    (i, c.satisfied_scripts_have_a_model.ensures.model limit script k check current i tables (assertions_have (λ t. term_true i t ≡ true) check interface (λ n d lt. ap is_true (each n d lt))))
