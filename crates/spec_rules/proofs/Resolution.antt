-- Unit propagation gives only what is true.
use Rattle.std.proofs.Common.{◌≡◌, ◌≢◌, Bool, true, false, not, ◌||◌, List, [], ◌∷◌, map, get_or, All, Contains, cond, refl, sym, ap, ◌∙◌}
use Rattle.std.specs.List.{list_any}
use Rattle.std.proofs.lemmas.Bool.{false≢true}
use Rattle.std.proofs.lemmas.List.Elements.{All-contains, All-map, Contains-get_or}
use Rattle.std.proofs.lemmas.List.Folds.{Any-from_list_any, list_any_at}
use Rattle.spec_sorts.specs.Literals.{Clause, Literal, complement, literals_of}
use Rattle.spec_proofs.specs.Resolution.{Derives, given, unit, Conflicts, false_clause, both_ways}
use Rattle.spec_rules.specs.Clauses.{IsResolvent}
use Rattle.spec_rules.specs.Truths.{Truths, literal_true, term_true_by}

-- one of the literals is true
abbrev one_true : Truths → List Literal → Bool
one_true v ls = list_any (literal_true v) ls

-- one of the terms is true
abbrev pub clause_true_by : Truths → Clause → Bool
clause_true_by v c = list_any (term_true_by v) c

-- a complement's truth is the other one
pub complement_true : (v : Truths) (l : Literal) → literal_true v (complement l) ≡ not (literal_true v l)
complement_true v l = go l.positive (v l.atom)
  where
    go : (p b : Bool) → cond (not p) b (not b) ≡ not (cond p b (not b))
    go true true = refl
    go true false = refl
    go false true = refl
    go false false = refl

-- a test that isn't false is true
pub sure : (b : Bool) → (b ≡ false → b ≡ true) → b ≡ true
sure true h = refl
sure false h = h refl

-- a test that isn't true is false
unsure : (b : Bool) → (b ≡ true → b ≡ false) → b ≡ false
unsure true h = h refl
unsure false h = refl

-- where none is true each is false
each_false : (v : Truths) (ls : List Literal) → one_true v ls ≡ false → (l : Literal) → Contains ls l → literal_true v l ≡ false
each_false v ls e l here = unsure (literal_true v l) (λ yes. absurd (false≢true (sym e ∙ list_any_at (literal_true v) ls here.0 l here.1 (ap (literal_true v) here.2 ∙ yes))))

-- where none is true each complement is
complements_true : (v : Truths) (ls : List Literal) → one_true v ls ≡ false → All (λ l. literal_true v l ≡ true) (map complement ls)
complements_true v ls e = All-map (λ l. literal_true v l ≡ true) complement ls (λ k d h. complement_true v (get_or ls k d) ∙ ap not (each_false v ls e (get_or ls k d) (Contains-get_or ls k d h)))

module _ (premises : List (List Literal)) (clause : List Literal) (v : Truths) (each : All (λ c. one_true v c ≡ true) premises) (wrong : one_true v clause ≡ false) where
  -- what is derived is true
  derived_true : (l : Literal) → Derives complement premises (map complement clause) l → literal_true v l ≡ true
  derived_true _ (given l here) = All-contains (λ m. literal_true v m ≡ true) (map complement clause) l (complements_true v clause wrong) here
  derived_true _ (unit c l c_in l_in others) = sure (literal_true v l) λ false_here.
      let t = Any-from_list_any (literal_true v) c (All-contains (λ d. one_true v d ≡ true) premises c each c_in) in
      let m = t.1 in
      let differs : m ≢ l = λ e. absurd (false≢true (sym false_here ∙ ap (literal_true v) (sym e) ∙ t.4)) in
      absurd (false≢true (sym (ap not t.4) ∙ sym (complement_true v m) ∙ derived_true (complement m) (others m (t.0, t.2, t.3) differs)))

  -- so no conflict comes
  none_comes : Conflicts complement premises (map complement clause) → ⊥
  none_comes (both_ways l one other) = false≢true (sym (ap not (derived_true l one)) ∙ sym (complement_true v l) ∙ derived_true (complement l) other)
  none_comes (false_clause c c_in all_false) =
      let t = Any-from_list_any (literal_true v) c (All-contains (λ d. one_true v d ≡ true) premises c each c_in) in
      false≢true (sym (ap not t.4) ∙ sym (complement_true v t.1) ∙ derived_true (complement t.1) (all_false t.1 (t.0, t.2, t.3)))

-- a clause is true where one of its literals is
by_literals : (v : Truths) (c : Clause) → one_true v (literals_of c) ≡ clause_true_by v c
by_literals v [] = refl
by_literals v (t ∷ ts) = ap (λ b. term_true_by v t || b) (by_literals v ts)

-- a resolvent of clauses that are true is true
pub resolvent_true : (v : Truths) (premises : List Clause) (clause : Clause) → All (λ c. clause_true_by v c ≡ true) premises → IsResolvent premises clause → clause_true_by v clause ≡ true
resolvent_true v premises clause each right = sure (clause_true_by v clause) λ wrong.
    let literals = All-map (λ c. one_true v c ≡ true) literals_of premises (λ k d h. by_literals v (get_or premises k d) ∙ each k d h) in
    absurd (none_comes (map literals_of premises) (literals_of clause) v literals (by_literals v clause ∙ wrong) right)
