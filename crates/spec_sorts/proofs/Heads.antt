-- Each head of a theory is read as what it means.
use Rattle.std.proofs.Common.{◌≡◌, Bool, true, false, not, ◌&&◌, ◌||◌, List, [], ◌∷◌, ◌++◌, map, cond, Option, Some, None, refl, sym, ap, ◌∙◌, subst}
use Rattle.std.specs.Str.{bytes_eq}
use Rattle.std.proofs.lemmas.List.{map-append}
use Rattle.std.proofs.Math.ListN.{get_or-map}
use Rattle.std.proofs.Math.Bool.{and-true}
use Rattle.spec_text.specs.Bytes.{Name}
use Rattle.spec_numbers.specs.Fractions.{minus, divide}
use Rattle.spec_sorts.specs.Lists.{left, right, neighbours, all_pairs, all_pass}
use Rattle.spec_sorts.specs.Terms.{Xor, Implies, Equal, Minus, Divide, Less, AtMost, Parameter, Term, Terms, app, nil, cons, terms_of, no_term, pair, filled, filled_all}
use Rattle.spec_sorts.specs.Values.{Value, truth, number_in, same_value, is_true, all_true, any_true, different, chosen, Interpretation}
use Rattle.spec_sorts.specs.TermValues.{less, at_most, by_numbers, sum, product, head_value, value_at, values_at}
use Rattle.spec_sorts.specs.Theory.{look_up, Rule, unequal, turned, each_pair, differences, theory}
use Rattle.spec_sorts.specs.Meaning.{difference, theory_values}

-- the values of terms, from their list
pub values_of_list : (i : Interpretation) (ps : List Value) (ts : List Term) → values_at i ps (terms_of ts) ≡ map (value_at i ps) ts
unfolding value_at values_at
values_of_list i ps [] = refl
values_of_list i ps (t ∷ ts) = ap (λ vs. value_at i ps t ∷ vs) (values_of_list i ps ts)

-- each with the next, of a list mapped
neighbours-map : {A B : Type 0} (f : A → B) (xs : List A) → neighbours (map f xs) ≡ map (λ p. (f p.0, f p.1)) (neighbours xs)
neighbours-map f [] = refl
neighbours-map f (a ∷ []) = refl
neighbours-map f (a ∷ b ∷ bs) = ap (λ ps. (f a, f b) ∷ ps) (neighbours-map f (b ∷ bs))

-- all pairs, of a list mapped
all_pairs-map : {A B : Type 0} (f : A → B) (xs : List A) → all_pairs (map f xs) ≡ map (λ p. (f p.0, f p.1)) (all_pairs xs)
all_pairs-map f [] = refl
all_pairs-map {A} {B} f (a ∷ bs) =
    ap (λ ps. ps ++ all_pairs (map f bs)) (with_first bs)
    ∙ ap (λ ps. map {B = B × B} (λ p. (f p.0, f p.1)) (map {B = A × A} (λ b. (a, b)) bs) ++ ps) (all_pairs-map f bs)
    ∙ sym (map-append {B = B × B} (λ p. (f p.0, f p.1)) (map {B = A × A} (λ b. (a, b)) bs) (all_pairs bs))
  where
    with_first : (bs : List A) → map {B = B × B} (λ c. (f a, c)) (map f bs) ≡ map {B = B × B} (λ p. (f p.0, f p.1)) (map {B = A × A} (λ b. (a, b)) bs)
    with_first [] = refl
    with_first (b ∷ bs) = ap (λ ps. (f a, f b) ∷ ps) (with_first bs)

module _ (i : Interpretation) (ps : List Value) where
  -- terms that are taken to the left have the value of their values taken to the left
  left_value : (g : Term → Term → Term) (f : Value → Value → Value) → ((t u : Term) → value_at i ps (g t u) ≡ f (value_at i ps t) (value_at i ps u)) → (ts : List Term) → value_at i ps (left no_term g ts) ≡ left (truth false) f (map (value_at i ps) ts)
  unfolding value_at values_at
  left_value g f h [] = refl
  left_value g f h (t ∷ []) = refl
  left_value g f h (t ∷ u ∷ us) = left_value g f h (g t u ∷ us) ∙ ap (λ v. left (truth false) f (v ∷ map (value_at i ps) us)) (h t u)

  -- and likewise to the right
  right_value : (g : Term → Term → Term) (f : Value → Value → Value) → ((t u : Term) → value_at i ps (g t u) ≡ f (value_at i ps t) (value_at i ps u)) → (ts : List Term) → value_at i ps (right no_term g ts) ≡ right (truth false) f (map (value_at i ps) ts)
  unfolding value_at values_at
  right_value g f h [] = refl
  right_value g f h (t ∷ []) = refl
  right_value g f h (t ∷ u ∷ us) = h t (right no_term g (u ∷ us)) ∙ ap (f (value_at i ps t)) (right_value g f h (u ∷ us))

  -- a term for each pair is true where the test of each pair passes
  each_value : (f : Term → Term → Term) (test : Value → Value → Bool) → ((t u : Term) → value_at i ps (f t u) ≡ truth (test (value_at i ps t) (value_at i ps u))) → (qs : List (Term × Term)) → value_at i ps (each_pair f qs) ≡ truth (all_pass test (map (λ p. (value_at i ps p.0, value_at i ps p.1)) qs))
  unfolding value_at values_at
  each_value f test h [] = refl
  each_value f test h (q ∷ []) = h q.0 q.1 ∙ ap truth (sym (and-true (test (value_at i ps q.0) (value_at i ps q.1))))
  each_value f test h (q ∷ r ∷ rs) = ap truth (all_values (q ∷ r ∷ rs))
    where
      all_values : (qs : List (Term × Term)) → all_true (values_at i ps (terms_of (map (λ p. f p.0 p.1) qs))) ≡ all_pass test (map (λ p. (value_at i ps p.0, value_at i ps p.1)) qs)
      all_values [] = refl
      all_values (p ∷ qs) = λ k. is_true (h p.0 p.1 k) && all_values qs k

  -- a chain compares each value with the next
  chain_value : (f : Term → Term → Term) (test : Value → Value → Bool) → ((t u : Term) → value_at i ps (f t u) ≡ truth (test (value_at i ps t) (value_at i ps u))) → (ts : List Term) → value_at i ps (each_pair f (neighbours ts)) ≡ truth (all_pass test (neighbours (map (value_at i ps) ts)))
  chain_value f test h ts = each_value f test h (neighbours ts) ∙ ap (λ qs. truth (all_pass test qs)) (sym (neighbours-map (value_at i ps) ts))

  -- and `distinct` all pairs of them
  pairs_value : (f : Term → Term → Term) (test : Value → Value → Bool) → ((t u : Term) → value_at i ps (f t u) ≡ truth (test (value_at i ps t) (value_at i ps u))) → (ts : List Term) → value_at i ps (each_pair f (all_pairs ts)) ≡ truth (all_pass test (all_pairs (map (value_at i ps) ts)))
  pairs_value f test h ts = each_value f test h (all_pairs ts) ∙ ap (λ qs. truth (all_pass test qs)) (sym (all_pairs-map (value_at i ps) ts))

  -- one term's negative, or differences to the left
  differences_value : (ts : List Term) → value_at i ps (differences ts) ≡ difference (map (value_at i ps) ts)
  unfolding value_at values_at
  differences_value [] = refl
  differences_value (t ∷ []) = refl
  differences_value (t ∷ u ∷ us) = left_value (pair Minus) (by_numbers minus) (λ t u. refl) (t ∷ u ∷ us)

-- a rule's term has the value that the head has at the values of its arguments
abbrev pub Means : Rule → (List Value → Value) → Type 0
Means r f = (i : Interpretation) (ps : List Value) (ts : List Term) → value_at i ps (r.reads ts) ≡ f (map (value_at i ps) ts)

-- the names are the same, and each rule means what is next to it
abbrev pub AllMean : List (Name × Rule) → List (Name × (List Value → Value)) → Type 0
AllMean [] [] = Unit {0}
AllMean (r ∷ rs) (f ∷ fs) = (r.0 ≡ f.0) × Means r.1 f.1 × AllMean rs fs
AllMean _ _ = ⊥

-- theories Core and Reals mean what their values are
pub theory_means : AllMean theory theory_values
unfolding value_at values_at
theory_means = (refl, λ i ps ts. refl, (refl, λ i ps ts. refl, (refl, λ i ps ts. ap (λ vs. truth (not (all_true vs))) (values_of_list i ps ts), (refl, λ i ps ts. ap (λ vs. truth (all_true vs)) (values_of_list i ps ts), (refl, λ i ps ts. ap (λ vs. truth (any_true vs)) (values_of_list i ps ts), (refl, λ i ps ts. left_value i ps (pair Xor) (λ v w. truth (different (is_true v) (is_true w))) (λ t u. refl) ts, (refl, λ i ps ts. right_value i ps (pair Implies) (λ v w. truth (not (is_true v) || is_true w)) (λ t u. refl) ts, (refl, λ i ps ts. chain_value i ps (pair Equal) same_value (λ t u. refl) ts, (refl, λ i ps ts. pairs_value i ps unequal (λ v w. not (same_value v w)) (λ t u. ap (λ b. truth (not b)) (and-true (same_value (value_at i ps t) (value_at i ps u)))) ts, (refl, λ i ps ts. ap chosen (values_of_list i ps ts), (refl, λ i ps ts. differences_value i ps ts, (refl, λ i ps ts. ap sum (values_of_list i ps ts), (refl, λ i ps ts. ap product (values_of_list i ps ts), (refl, λ i ps ts. left_value i ps (pair Divide) (by_numbers divide) (λ t u. refl) ts, (refl, λ i ps ts. chain_value i ps (pair Less) (λ v w. less (number_in v) (number_in w)) (λ t u. refl) ts, (refl, λ i ps ts. chain_value i ps (pair AtMost) (λ v w. at_most (number_in v) (number_in w)) (λ t u. refl) ts, (refl, λ i ps ts. chain_value i ps (turned Less) (λ v w. less (number_in w) (number_in v)) (λ t u. refl) ts, (refl, λ i ps ts. chain_value i ps (turned AtMost) (λ v w. at_most (number_in w) (number_in v)) (λ t u. refl) ts, tt))))))))))))))))))

-- what stands for a name in both tables
abbrev pub MeansAt : Option Rule → Option (List Value → Value) → Type 0
MeansAt (Some r) (Some f) = Means r f
MeansAt None None = Unit {0}
MeansAt _ _ = ⊥

-- tables that mean the same have the same for each name
pub theory_at : (rs : List (Name × Rule)) (fs : List (Name × (List Value → Value))) (n : Name) → AllMean rs fs → MeansAt (look_up rs n) (look_up fs n)
theory_at [] [] n h = tt
theory_at [] (f ∷ fs) n h = absurd h
theory_at (r ∷ rs) [] n h = absurd h
theory_at (r ∷ rs) (f ∷ fs) n h = subst (λ x. MeansAt (cond (bytes_eq r.0 n) (Some r.1) (look_up rs n)) (cond (bytes_eq x n) (Some f.1) (look_up fs n))) h.0 (go (bytes_eq r.0 n) (theory_at rs fs n h.2))
  where
    go : (c : Bool) → MeansAt (look_up rs n) (look_up fs n) → MeansAt (cond c (Some r.1) (look_up rs n)) (cond c (Some f.1) (look_up fs n))
    go true k = h.1
    go false k = k

-- a head that the theories have means what it is read as
pub head_means : (n : Name) (r : Rule) → look_up theory n ≡ Some r → (f : List Value → Value) × (look_up theory_values n ≡ Some f) × Means r f
head_means n r e = go (look_up theory_values n) refl
  where
    go : (f : Option (List Value → Value)) → look_up theory_values n ≡ f → (f : List Value → Value) × (look_up theory_values n ≡ Some f) × Means r f
    go (Some f) same = (f, same, subst (λ o. MeansAt (Some r) o) same (subst (λ o. MeansAt o (look_up theory_values n)) e (theory_at theory theory_values n theory_means)))
    go None same = absurd (subst (λ o. MeansAt (Some r) o) same (subst (λ o. MeansAt o (look_up theory_values n)) e (theory_at theory theory_values n theory_means)))

mutual
  unfolding value_at values_at filled filled_all

  -- arguments for parameters have their values
  pub filled_value : (i : Interpretation) (ps : List Value) (ts : List Term) (t : Term) → value_at i ps (filled ts t) ≡ value_at i (map (value_at i ps) ts) t
  filled_value i ps ts (app (Parameter k s) us) = sym (get_or-map (value_at i ps) ts k no_term)
  filled_value i ps ts (app h us) = ap (head_value i h) (filled_values i ps ts us)

  -- and so it is in terms
  pub filled_values : (i : Interpretation) (ps : List Value) (ts : List Term) (us : Terms) → values_at i ps (filled_all ts us) ≡ values_at i (map (value_at i ps) ts) us
  filled_values i ps ts nil = refl
  filled_values i ps ts (cons u us) = λ k. filled_value i ps ts u k ∷ filled_values i ps ts us k
