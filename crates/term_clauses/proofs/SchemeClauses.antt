-- Clauses by schemes, one after the other.
use Rattle.std.proofs.Common.{◌≡◌, Bool, ℕ, ◌+◌, ◌<◌, List, [], ◌∷◌, ◌++◌, length, map, get_or, take, Contains, sym, ap, ◌∙◌, subst}
use Rattle.std.proofs.lemmas.List.{map-append, take_more}
use Rattle.std.proofs.lemmas.List.Elements.{Contains-get_or}
use Rattle.spec_text.specs.Trees.{none}
use Rattle.spec_sorts.specs.Terms.{Term, no_term}
use Rattle.spec_sorts.specs.Literals.{Clause}
use Rattle.spec_proofs.specs.declared.Rule.{Rule}
use Rattle.spec_rules.specs.Rules.{IsRight}
use Rattle.spec_rules.specs.Schemes.{signed_term}
use Rattle.term_clauses.specs.Stating.{before}

-- a clause more after those of the arguments up to here
pub clauses_more : {X : Type 0} (front : Term) (f : X → Clause) (xs : List X) (k : ℕ) (d : X) → k < length xs → before front (map f (take k xs)) ++ (front ∷ f (get_or xs k d)) ∷ [] ≡ before front (map f (take (k + 1) xs))
clauses_more front f xs k d lt =
    let put : Clause → Clause = λ ls. front ∷ ls in
    sym (map-append put (map f (take k xs)) (f (get_or xs k d) ∷ []))
    ∙ ap (before front) (sym (map-append f (take k xs) (get_or xs k d ∷ [])) ∙ ap (map f) (sym (take_more xs k d lt)))

-- a step is right by terms that are the same
pub right_same : (rule : Rule) (front front2 : Term) (args args2 : List Term) (p : Bool) (k : ℕ) → front2 ≡ front → args2 ≡ args → k < length args → ((u : Term) → Contains args u → IsRight rule [] none (front ∷ signed_term p u ∷ [])) → IsRight rule [] none (front2 ∷ signed_term p (get_or args2 k no_term) ∷ [])
right_same rule front front2 args args2 p k same one lt right =
    subst (λ (t : Term). IsRight rule [] none (t ∷ signed_term p (get_or args2 k no_term) ∷ [])) (sym same)
    (subst (λ (ts : List Term). IsRight rule [] none (front ∷ signed_term p (get_or ts k no_term) ∷ [])) (sym one) (right (get_or args k no_term) (Contains-get_or args k no_term lt)))
