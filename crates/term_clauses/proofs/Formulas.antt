-- Terms of a table are formulas: what their schemes give, and by which rules it is right.
use Rattle.std.proofs.Common.{◌≡◌, ℕ, zero, suc, ◌+◌, ◌<◌, Bool, true, false, ◌&&◌, List, [], ◌∷◌, ◌++◌, length, map, get_or, take, Contains, if◌then◌else◌, refl, sym, ap, ◌∙◌, subst, arith}
use Rattle.std.specs.Prelude.{flat_map}
use Rattle.std.specs.List.{AllByRecursion}
use Rattle.std.proofs.lemmas.Bool.{and_parts}
use Rattle.std.proofs.lemmas.List.{append-nil, take_more}
use Rattle.std.proofs.lemmas.Grind.{flat_map-append}
use Rattle.spec_text.proofs.Members.{to_image}
use Rattle.spec_text.specs.Trees.{none}
use Rattle.spec_sorts.specs.Terms.{Symbol, Truth, Head, same_head, Term, terms_of, list_of, app, sort_of, all_same, head_takes, same_term, same_terms}
use Rattle.spec_sorts.specs.WellSorted.{IsWellSorted}
use Rattle.spec_sorts.specs.Literals.{Clause}
use Rattle.spec_sorts.specs.Subsets.{arguments_of}
use Rattle.spec_sorts.proofs.SameTerms.{terms_decide}
use Rattle.spec_proofs.specs.declared.Rule.{Rule}
use Rattle.spec_proofs.specs.declared.Rest.{Rest}
use Rattle.spec_proofs.specs.declared.Rest.TheVariants.{Nothing, One, Two, AnyOne, Each, Innermost}
use Rattle.spec_rules.specs.Rules.{IsBy, IsRight}
use Rattle.spec_rules.specs.Schemes.{Scheme, schemes, states, kind_of, signed_term, rests_of, is_formula_of, clauses_by}
use Rattle.spec_derivations.specs.Base.{clauses_of}
use Rattle.spec_derivations.proofs.Below.{head_fits}
use Rattle.term_core.specs.Tables.{TableView, clause_at, head_meant, Shape, ShapeFits, shape_term}
use Rattle.rule_bool.specs.Schemes.{arity, HasPlaces}
use Rattle.term_clauses.specs.Stating.{head_of, scheme_in, scheme_by, IsRuleOf, single, IsSingle, before, clauses_in, AreRulesOf}
use Rattle.rule_bool.proofs.Arities.{places_there}
use Rattle.term_clauses.proofs.Arguments.{arguments_are, arguments_count}

-- what is none of the others has one clause
pub is_single : (r : Rest) → ((p : Bool) → r ≡ AnyOne p → ⊥) → (r ≡ Innermost → ⊥) → IsSingle r
is_single (AnyOne p) f g = f p refl
is_single Innermost f g = g refl
is_single _ f g = tt

-- the one clause of a scheme
pub single_rests : (r : Rest) (front : Term) (ts : List Term) → IsSingle r → (front ∷ single r ts) ∷ [] ≡ before front (rests_of r ts)
single_rests Nothing front ts h = refl
single_rests (One x) front ts h = refl
single_rests (Two x y) front ts h = refl
single_rests (Each p) front ts h = refl
single_rests (AnyOne p) front ts h = absurd h
single_rests Innermost front ts h = absurd h

-- a head is known to be itself
same_itself : (t : Term) → same_head (head_of t) (head_of t) ≡ true
unfolding same_term same_terms
same_itself (app h ts) = (and_parts (same_head h h) (same_terms ts ts) ((terms_decide (app h ts) (app h ts)).1 refl)).0

-- a well-sorted term before arguments of sort Bool is one of its head
pub is_formula : (symbols : List Symbol) (term : Term) → IsWellSorted symbols [] term → all_same Truth (map sort_of (arguments_of term)) ≡ true → is_formula_of (head_of term) term ≡ true
is_formula symbols (app h ts) sorted all = λ i. same_itself (app h ts) i && head_fits symbols [] h ts sorted i && all i

-- a term before other arguments is one of no head
pub no_formula : (h : Head) (term : Term) → all_same Truth (map sort_of (arguments_of term)) ≡ false → is_formula_of h term ≡ false
no_formula h (app g ts) other = ap (λ b. same_head h g && head_takes [] g (map sort_of (list_of ts)) && b) other ∙ and_false (same_head h g) (head_takes [] g (map sort_of (list_of ts)))
  where
    and_false : (a b : Bool) → (a && b && false) ≡ false
    and_false true true = refl
    and_false true false = refl
    and_false false b = refl

-- whether the arguments of a term are of sort Bool, by its node
pub arguments_sorts : (t : TableView) (s : Shape) (term : Term) → term ≡ shape_term t s → (b : Bool) → b ≡ all_same Truth (map sort_of (clause_at t s.arguments)) → all_same Truth (map sort_of (arguments_of term)) ≡ b
arguments_sorts t s term means b is = ap (λ (ts : List Term). all_same Truth (map sort_of ts)) (arguments_are t s term means) ∙ sym is

-- and gives no clauses
pub no_clauses : (term : Term) → all_same Truth (map sort_of (arguments_of term)) ≡ false → clauses_of term ≡ []
no_clauses term other = go schemes
  where
    go : (ss : List Scheme) → flat_map (λ s. clauses_by s term) ss ≡ []
    go [] = refl
    go (s ∷ ss) = ap (λ b. (if b then before (signed_term s.positive term) (rests_of s.rest (arguments_of term)) else []) ++ flat_map (λ x. clauses_by x term) ss) (no_formula s.head term other) ∙ go ss

module _ (s : Scheme) (term front : Term) (formula : is_formula_of s.head term ≡ true) (in_front : signed_term s.positive term ≡ front) where
  -- the clauses that it gives by a scheme
  pub given : before front (rests_of s.rest (arguments_of term)) ≡ clauses_by s term
  given = ap (λ u. before u (rests_of s.rest (arguments_of term))) (sym in_front) ∙ ap (λ b. if b then before (signed_term s.positive term) (rests_of s.rest (arguments_of term)) else []) (sym formula)

  -- are right by the rule
  pub right : (rule : Rule) → kind_of rule ≡ states s → (ls : Clause) → Contains (rests_of s.rest (arguments_of term)) ls → IsRight rule [] none (front ∷ ls)
  right rule kind ls ls_in =
      let put : Clause → Clause = λ c. front ∷ c in
      let here : Contains (clauses_by s term) (front ∷ ls) = subst (λ cs. Contains cs (front ∷ ls)) given (to_image put (rests_of s.rest (arguments_of term)) ls ls_in) in
      subst (λ k. IsBy k [] none (front ∷ ls)) (sym kind) (term, here)

-- what holds of each by recursion
each_at : {X : Type 0} (P : X → Type 0) (xs : List X) (k : ℕ) (d : X) → k < length xs → AllByRecursion P xs → P (get_or xs k d)
each_at P [] k d lt all = absurd (omega (arith, lt))
each_at P (x ∷ xs) zero d lt all = all.0
each_at P (x ∷ xs) (suc k) d lt all = each_at P xs k d (omega (arith, lt)) all.1

-- a rule that states a scheme states no other
pub same_scheme : (rule : Rule) (s : Scheme) → kind_of rule ≡ states s → scheme_by rule ≡ s
same_scheme rule s kind = ap scheme_in kind

module _ (t : TableView) (s : Shape) (term : Term) (means : term ≡ shape_term t s) (list : List Rule) (rules : AreRulesOf s.head list) where
  -- each rule
  pub rule_at : (k : ℕ) (d : Rule) → k < length list → IsRuleOf (head_of term) (get_or list k d)
  rule_at k d lt = subst (λ (u : Term). IsRuleOf (head_of u) (get_or list k d)) (sym means) (each_at (IsRuleOf (head_meant t s.head)) list k d lt (rules.rules t))

  -- and its places
  pub places_at : ShapeFits t s → (k : ℕ) (d : Rule) → k < length list → HasPlaces (length (arguments_of term)) (scheme_by (get_or list k d)).rest
  places_at fits k d lt =
      subst (λ n. HasPlaces n (scheme_by (get_or list k d)).rest) (sym (arguments_count t s term means))
      (places_there t s (scheme_by (get_or list k d)).rest fits (each_at (λ rule. HasPlaces (arity s.head) (scheme_by rule).rest) list k d lt rules.places))

  -- all together they give the term's clauses
  pub all_clauses : clauses_in term list ≡ clauses_of term
  all_clauses = ap (λ (u : Term). clauses_in u list) means ∙ rules.whole t (terms_of (clause_at t s.arguments)) ∙ ap clauses_of (sym means)

-- the clauses of one rule more
pub rules_more : (term : Term) (list : List Rule) (k : ℕ) (d : Rule) → k < length list → clauses_in term (take k list) ++ clauses_by (scheme_by (get_or list k d)) term ≡ clauses_in term (take (k + 1) list)
rules_more term list k d lt =
    let f : Rule → List Clause = λ rule. clauses_by (scheme_by rule) term in
    ap (λ cs. clauses_in term (take k list) ++ cs) (sym (append-nil (f (get_or list k d)))) ∙ sym (flat_map-append f (take k list) (get_or list k d ∷ [])) ∙ ap (flat_map f) (sym (take_more list k d lt))
