-- The terms of a check are those of what it asks about.
use Rattle.std.proofs.Common.{◌≡◌, List, get_or, All, Contains, subst}
use Rattle.std.proofs.lemmas.List.{map-append}
use Rattle.std.proofs.lemmas.List.Elements.{All-map, All-contains, Contains-get_or}
use Rattle.spec_text.proofs.Members.{to_image}
use Rattle.spec_sorts.specs.Terms.{Term}
use Rattle.spec_commands.specs.Stack.{Assertion, assertions_of, terms_asserted}
use Rattle.spec_commands.specs.Checks.{Check, asked}
use Rattle.spec_derivations.specs.Problems.{problem_of, terms_of_problem}

pub terms_of_check : (c : Check) (interface : List Term) → terms_asserted (asked c) ≡ terms_of_problem (problem_of c interface)
terms_of_check c interface = map-append (λ (a : Assertion). a.term) (assertions_of c.stack) c.assumptions

-- what each assertion's term has, each of the terms has
pub terms_have : (P : Term → Type 0) (c : Check) (interface : List Term) → All (λ (a : Assertion). P a.term) (asked c) → All P (terms_of_problem (problem_of c interface))
terms_have P c interface each = subst (All P) (terms_of_check c interface) (All-map P (λ (a : Assertion). a.term) (asked c) each)

-- and the other way round
pub assertions_have : (P : Term → Type 0) (c : Check) (interface : List Term) → All P (terms_of_problem (problem_of c interface)) → All (λ (a : Assertion). P a.term) (asked c)
assertions_have P c interface each k d lt = All-contains P (terms_of_problem (problem_of c interface)) (get_or (asked c) k d).term each (subst (λ ts. Contains ts (get_or (asked c) k d).term) (terms_of_check c interface) (to_image (λ (a : Assertion). a.term) (asked c) (get_or (asked c) k d) (Contains-get_or (asked c) k d lt)))
