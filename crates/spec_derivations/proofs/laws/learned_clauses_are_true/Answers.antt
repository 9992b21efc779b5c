-- By the clauses that they are derived as.
use Rattle.std.proofs.Common.{◌≡◌, true, ◌++◌, subst}
use Rattle.std.proofs.lemmas.List.Elements.{All-contains}
use Rattle.spec_rules.specs.Clauses.{term_true}
use Rattle.spec_derivations.specs.Problems.{terms_of_problem}
use Rattle.spec_derivations.specs.Derivations.{conclusion_at, AssumesAmong}
use Rattle.spec_derivations.specs.Spent.{IsLearnedFrom}
use Rattle.spec_derivations.proofs.laws.learned_clauses_are_true.Goals as goal

pub returns : goal.returns
returns c symbols p d earlier learned i h interprets formulas true_terms clause there =
    let from = All-contains (IsLearnedFrom p d) (earlier ++ learned) clause h.derived there in
    let true_there = All-contains (λ u. term_true i u ≡ true) (terms_of_problem p) in
    (conclusion_at d from.number, from.same, c.derivations_are_sound.ensures symbols d i h.right interprets formulas from.number from.derived.there (λ m t depends e. true_there t true_terms (subst (AssumesAmong (terms_of_problem p)) e (from.derived.assumptions m depends))))
