-- The budget of one, and what is none.
use Rattle.std.proofs.Common.{[], ◌∷◌, refl, sym}
use Rattle.spec_text.proofs.Members.{first, later}
use Rattle.spec_sorts.specs.Literals.{complement, literals_of}
use Rattle.spec_derivations.specs.Examples.{asserting, eight, not_both, not_both_derived}
use Rattle.spec_derivations.proofs.Spending.{spent}
use Rattle.spec_derivations.proofs.laws.eight_clauses_spend_a_budget_of_one.Goals as goal

pub returns-clause-spent : goal.returns-clause-spent
returns-clause-spent c = spent

pub returns-clause-no_other_limit : goal.returns-clause-no_other_limit
returns-clause-no_other_limit c limit carried other h = other (sym h.full)

pub returns-clause-no_other_number : goal.returns-clause-no_other_number
returns-clause-no_other_number c carried other h = other h.carries

pub returns-clause-no_tautology : goal.returns-clause-no_tautology
returns-clause-no_tautology c l h = c.learned_clauses_say_something.ensures.no_tautology (asserting eight) not_both_derived [] ((l ∷ complement l ∷ []) ∷ []) h.learns (l ∷ complement l ∷ []) l (first (l ∷ complement l ∷ []) []) (first l (complement l ∷ [])) (later l (complement l ∷ []) (complement l) (first (complement l) []))

pub returns-clause-not_twice : goal.returns-clause-not_twice
returns-clause-not_twice c h = c.learned_clauses_say_something.ensures.no_earlier_clause (asserting eight) not_both_derived [] (literals_of not_both ∷ literals_of not_both ∷ []) h.learns (literals_of not_both ∷ []) [] (literals_of not_both) (literals_of not_both) refl (first (literals_of not_both) []) (λ m i. i)
