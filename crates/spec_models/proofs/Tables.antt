-- The printed body of a table has the table's value.
use Rattle.std.proofs.Common.{◌≡◌, ℕ, suc, ◌+◌, ◌<◌, Bool, true, false, ◌&&◌, List, [], ◌∷◌, length, get_or, Some, None, refl, sym, ap, ◌∙◌, subst, arith}
use Rattle.std.specs.Prelude.{codes, nat_eq}
use Rattle.std.specs.Str.{bytes_eq}
use Rattle.std.specs.List.{AllByRecursion}
use Rattle.std.proofs.lemmas.Bool.Decides.{Decides-eqb, Decides-like, same_from_decides}
use Rattle.std.proofs.lemmas.Slice.Eq.{bytes_eq-Decides}
use Rattle.spec_text.specs.Bytes.{Name}
use Rattle.spec_sorts.specs.Lists.{neighbours, all_pass}
use Rattle.spec_sorts.specs.Terms.{Sort, Symbol}
use Rattle.spec_sorts.specs.Values.{Value, truth, number, element, same_value, same_values, all_true, chosen, HasSort, HaveSorts, TableRow, first_fit, IsRowOf}
use Rattle.spec_sorts.specs.Theory.{look_up, is_of_theory}
use Rattle.spec_sorts.specs.Meaning.{theory_values, Meaning, Bindings, value_by}
use Rattle.spec_sorts.proofs.SameTerms.{fractions_decide}
use Rattle.spec_models.specs.Values.{word_tree, value_tree}
use Rattle.spec_models.specs.Models.{parameter, equality_tree, equality_trees, condition_tree, body_tree}
use Rattle.spec_models.specs.Meaning.{model_value}
use Rattle.spec_models.proofs.Values.{Means, AllMean, none_means, more_mean, list_means, yes_means, value_means}

-- the test of values does not ask which comes first
same_turned : (v w : Value) → same_value v w ≡ same_value w v
same_turned (truth true) (truth true) = refl
same_turned (truth true) (truth false) = refl
same_turned (truth false) (truth true) = refl
same_turned (truth false) (truth false) = refl
same_turned (number p) (number q) = same_from_decides _ _ (fractions_decide p q) (Decides-like _ sym sym (fractions_decide q p))
same_turned (element s j) (element t k) =
    let names : bytes_eq s t ≡ bytes_eq t s = same_from_decides _ _ (bytes_eq-Decides s t) (Decides-like _ sym sym (bytes_eq-Decides t s)) in
    let numbers : nat_eq j k ≡ nat_eq k j = same_from_decides _ _ (Decides-eqb j k) (Decides-like _ sym sym (Decides-eqb k j)) in
    λ i. names i && numbers i
same_turned (truth true) (number q) = refl
same_turned (truth false) (number q) = refl
same_turned (truth true) (element t k) = refl
same_turned (truth false) (element t k) = refl
same_turned (number p) (truth true) = refl
same_turned (number p) (truth false) = refl
same_turned (number p) (element t k) = refl
same_turned (element s j) (truth true) = refl
same_turned (element s j) (truth false) = refl
same_turned (element s j) (number q) = refl

and_true : (c : Bool) → c && true ≡ c
and_true true = refl
and_true false = refl

-- whether each argument of a row is the value in its place
abbrev tests : List Value → List Value → List Value
tests (a ∷ args) (w ∷ ws) = truth (same_value a w) ∷ tests args ws
tests args ws = []

all_tests : (args ws : List Value) → length args ≡ length ws → all_true (tests args ws) ≡ same_values args ws
all_tests [] [] e = refl
all_tests [] (w ∷ ws) e = absurd (omega (arith, e))
all_tests (a ∷ args) [] e = absurd (omega (arith, e))
all_tests (a ∷ args) (w ∷ ws) e = ap (λ c. same_value a w && c) (all_tests args ws (omega (arith, e)))

-- values of sorts are as many
as_many : (ss : List Sort) (vs : List Value) → HaveSorts ss vs → length vs ≡ length ss
as_many [] [] h = refl
as_many [] (v ∷ vs) h = absurd h
as_many (s ∷ ss) [] h = absurd h
as_many (s ∷ ss) (v ∷ vs) h = ap suc (as_many ss vs h.1)

-- the parameters from a number on have these values
abbrev pub AreBound : Bindings → ℕ → List Value → Type 0
AreBound b k ws = (j : ℕ) (d : Value) → j < length ws → look_up b (parameter (k + j)) ≡ Some (get_or ws j d)

first_bound : (b : Bindings) (k : ℕ) (w : Value) (ws : List Value) → AreBound b k (w ∷ ws) → look_up b (parameter k) ≡ Some w
first_bound b k w ws h = subst (λ n. look_up b (parameter n) ≡ Some w) (plus_zero k) (h 0 w (omega arith))
  where
    plus_zero : (n : ℕ) → n + 0 ≡ n
    plus_zero n = omega arith

others_bound : (b : Bindings) (k : ℕ) (w : Value) (ws : List Value) → AreBound b k (w ∷ ws) → AreBound b (suc k) ws
others_bound b k w ws h j d lt = subst (λ n. look_up b (parameter n) ≡ Some (get_or ws j d)) (later k j) (h (suc j) d (omega (arith, lt)))
  where
    later : (k j : ℕ) → k + suc j ≡ suc k + j
    later k j = omega arith

module _ (m : Meaning) (b : Bindings) (hidden : (n : Name) → is_of_theory n ≡ true → look_up b n ≡ None) where
  parameter_means : (k : ℕ) (w : Value) → look_up b (parameter k) ≡ Some w → Means m b (word_tree (parameter k)) w
  unfolding model_value
  parameter_means k w bound at = ap (λ o. value_by o (look_up theory_values (parameter k)) (m (parameter k) []) []) bound

  equality_means : (k : ℕ) (w : Value) (s : Sort) (a : Value) → look_up b (parameter k) ≡ Some w → HasSort s a → Means m b (equality_tree k a) (truth (same_value a w))
  equality_means k w s a bound h at =
      list_means m b hidden (codes "=") (λ vs. truth (all_pass same_value (neighbours vs))) (word_tree (parameter k)) (value_tree a ∷ []) (w ∷ a ∷ []) refl refl
      (more_mean m b (word_tree (parameter k)) w (value_tree a ∷ []) (a ∷ []) (parameter_means k w bound) (more_mean m b (value_tree a) a [] [] (value_means m b hidden s a h) (none_means m b))) at
      ∙ ap truth (and_true (same_value w a) ∙ same_turned w a)

  equalities_mean : (k : ℕ) (ss : List Sort) (args ws : List Value) → HaveSorts ss args → length args ≡ length ws → AreBound b k ws → AllMean m b (equality_trees k args) (tests args ws)
  equalities_mean k [] [] [] h e f = none_means m b
  equalities_mean k ss [] (w ∷ ws) h e f = absurd (omega (arith, e))
  equalities_mean k ss (a ∷ args) [] h e f = absurd (omega (arith, e))
  equalities_mean k (s ∷ ss) [] [] h e f = absurd h
  equalities_mean k [] (a ∷ args) (w ∷ ws) h e f = absurd h
  equalities_mean k (s ∷ ss) (a ∷ args) (w ∷ ws) h e f =
      more_mean m b (equality_tree k a) (truth (same_value a w)) (equality_trees (suc k) args) (tests args ws)
      (equality_means k w s a (first_bound b k w ws f) h.0)
      (equalities_mean (suc k) ss args ws h.1 (omega (arith, e)) (others_bound b k w ws f))

  -- a condition holds where the parameters have the row's arguments
  condition_means : (ss : List Sort) (args ws : List Value) → HaveSorts ss args → length args ≡ length ws → AreBound b 0 ws → Means m b (condition_tree args) (truth (same_values args ws))
  condition_means ss [] [] h e f at = yes_means m b hidden at
  condition_means ss [] (w ∷ ws) h e f at = absurd (omega (arith, e))
  condition_means ss (a ∷ args) [] h e f at = absurd (omega (arith, e))
  condition_means [] (a ∷ args) (w ∷ ws) h e f at = absurd h
  condition_means (s ∷ ss) (a ∷ []) (w ∷ []) h e f at = equality_means 0 w s a (first_bound b 0 w [] f) h.0 at ∙ ap truth (sym (and_true (same_value a w)))
  condition_means (s ∷ ss) (a ∷ []) (w ∷ x ∷ ws) h e f at = absurd (omega (arith, e))
  condition_means (s ∷ ss) (a ∷ c ∷ args) (w ∷ ws) h e f at =
      list_means m b hidden (codes "and") (λ vs. truth (all_true vs)) (equality_tree 0 a) (equality_trees 1 (c ∷ args)) (tests (a ∷ c ∷ args) (w ∷ ws)) refl refl
      (equalities_mean 0 (s ∷ ss) (a ∷ c ∷ args) (w ∷ ws) h e f) at
      ∙ ap truth (all_tests (a ∷ c ∷ args) (w ∷ ws) e)

  -- a body has the value of its table
  pub body_means : (s : Symbol) (rows : List TableRow) (default : Value) (ws : List Value) → AllByRecursion (IsRowOf s) rows → HasSort s.result default → length ws ≡ length s.parameters → AreBound b 0 ws → Means m b (body_tree rows default) (first_fit rows default ws)
  body_means s [] default ws h d e f = value_means m b hidden s.result default d
  body_means s (r ∷ rs) default ws h d e f =
      let test = condition_means s.parameters r.arguments ws h.0.arguments (as_many s.parameters r.arguments h.0.arguments ∙ sym e) f in
      let here = value_means m b hidden s.result r.value h.0.value in
      let rest = body_means s rs default ws h.1 d e f in
      list_means m b hidden (codes "ite") (λ vs. chosen vs) (condition_tree r.arguments) (value_tree r.value ∷ body_tree rs default ∷ []) (truth (same_values r.arguments ws) ∷ r.value ∷ first_fit rs default ws ∷ []) refl refl
      (more_mean m b (condition_tree r.arguments) (truth (same_values r.arguments ws)) (value_tree r.value ∷ body_tree rs default ∷ []) (r.value ∷ first_fit rs default ws ∷ []) test
      (more_mean m b (value_tree r.value) r.value (body_tree rs default ∷ []) (first_fit rs default ws ∷ []) here
      (more_mean m b (body_tree rs default) (first_fit rs default ws) [] [] rest (none_means m b))))
