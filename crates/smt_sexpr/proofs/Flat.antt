-- What a flat list of items means, item by item.
use Rattle.std.proofs.Common.{◌≡◌, ℕ, zero, suc, ◌+◌, ◌≤◌, List, [], ◌∷◌, length, take, drop, Some, None, refl, sym, ap, ◌∙◌, ◌⊎◌, length-take, arith}
use Rattle.std.specs.Prelude.{min}
use Rattle.std.proofs.lemmas.List.{drop_all, take_min, drop_min}
use Rattle.spec_text.specs.declared.Kind.{Kind}
use Rattle.spec_text.specs.declared.Kind.TheVariants.{Numeral}
use Rattle.spec_text.specs.Trees.{Tree, Trees, atom, list, none, more}
use Rattle.smt_sexpr.specs.Means.{bytes_at, trees_within, trees_in, first_of, tree_in}
use Rattle.smt_sexpr.specs.declared.items.Item.{Item}
use Rattle.smt_sexpr.specs.declared.items.Item.TheVariants.{Atom, List as Group}
use Rattle.smt_sexpr.specs.Items.{split_first, count_first}

take_fits : (k n : ℕ) (is : List Item) → length is ≤ n → length (take k is) ≤ n
take_fits zero n is h = omega arith
take_fits (suc k) n [] h = omega arith
take_fits (suc k) zero (i ∷ is) h = absurd (omega arith)
take_fits (suc k) (suc n) (i ∷ is) h = let r = take_fits k n is (omega arith) in omega (arith, r)

drop_fits : (k n : ℕ) (is : List Item) → length is ≤ n → length (drop k is) ≤ n
drop_fits zero n is h = h
drop_fits (suc k) n [] h = omega arith
drop_fits (suc k) zero (i ∷ is) h = absurd (omega arith)
drop_fits (suc k) (suc n) (i ∷ is) h = let r = drop_fits k n is (omega arith) in omega (arith, r)

module _ (text : List ℕ) where
  -- more than enough changes nothing
  enough : (n m : ℕ) (is : List Item) → length is ≤ n → length is ≤ m → trees_within text n is ≡ trees_within text m is
  enough zero zero is h k = refl
  enough zero (suc m) [] h k = refl
  enough zero (suc m) (i ∷ is) h k = absurd (omega arith)
  enough (suc n) zero [] h k = refl
  enough (suc n) zero (i ∷ is) h k = absurd (omega arith)
  enough (suc n) (suc m) [] h k = refl
  enough (suc n) (suc m) (Atom kind at size ∷ is) h k = ap (more (atom at kind (bytes_at text kind at size))) (enough n m is (omega arith) (omega arith))
  enough (suc n) (suc m) (Group at end count ∷ is) h k =
      let first = enough n m (take count is) (take_fits count n is (omega arith)) (take_fits count m is (omega arith)) in
      let rest = enough n m (drop count is) (drop_fits count n is (omega arith)) (drop_fits count m is (omega arith)) in
      ap (λ ts. more (list at ts end) (trees_within text n (drop count is))) first ∙ ap (λ ts. more (list at (trees_within text m (take count is)) end) ts) rest

  pub trees_none : trees_in text [] ≡ none
  unfolding trees_in
  trees_none = refl

  pub trees_atom : (kind : Kind) (at size : ℕ) (is : List Item) → trees_in text (Atom kind at size ∷ is) ≡ more (atom at kind (bytes_at text kind at size)) (trees_in text is)
  unfolding trees_in
  trees_atom kind at size is = refl

  pub trees_list : (at end count : ℕ) (is : List Item) → trees_in text (Group at end count ∷ is) ≡ more (list at (trees_in text (take count is)) end) (trees_in text (drop count is))
  unfolding trees_in
  trees_list at end count is =
      ap (λ ts. more (list at ts end) (trees_within text (length is) (drop count is))) (enough (length is) (length (take count is)) (take count is) (take_fits count (length is) is (omega arith)) (omega arith))
      ∙ ap (λ ts. more (list at (trees_within text (length (take count is)) (take count is)) end) ts) (enough (length is) (length (drop count is)) (drop count is) (drop_fits count (length is) is (omega arith)) (omega arith))

  take_twice : (c : ℕ) (is : List Item) → take c (take c is) ≡ take c is
  take_twice zero is = refl
  take_twice (suc c) [] = refl
  take_twice (suc c) (i ∷ is) = ap (λ xs. i ∷ xs) (take_twice c is)

  min_cases : (a b : ℕ) → ((min a b ≡ a) × (a ≤ b)) ⊎ ((min a b ≡ b) × (b ≤ a))
  min_cases a b = grind arith

  -- the first tree is what its items mean
  pub split_is : (is : List Item) → (is ≡ [] → ⊥) → Some (tree_in text (take (count_first is) is), trees_in text (drop (count_first is) is)) ≡ split_first (trees_in text is)
  split_is [] h = absurd (h refl)
  split_is (Atom kind at size ∷ is) h = simp trees_atom refl
  split_is (Group at end count ∷ is) h =
      let m = min count (length is) in
      let one : m + 1 ≡ suc m = omega arith in
      let inside : take count (take m is) ≡ take count is = ap (take count) (take_min count is) ∙ take_twice count is in
      rw one (ap (λ ts. Some (first_of ts, trees_in text (drop m is))) (trees_list at end count (take m is)) ∙ ap (λ xs. Some (list at (trees_in text xs) end, trees_in text (drop m is))) inside ∙ ap (λ xs. Some (list at (trees_in text (take count is)) end, trees_in text xs)) (drop_min count is) ∙ ap split_first (sym (trees_list at end count is)))

  -- one tree is its own first
  alone_by : (ts : Trees) (t : Tree) → ts ≡ more t none → ts ≡ more (first_of ts) none
  alone_by ts t e = e ∙ ap (λ us. more (first_of us) none) (sym e)

  fewer : (count : ℕ) (is : List Item) → length (take (min count (length is)) is) ≤ count
  fewer count is = omega (arith, take_fits (min count (length is)) count is, length-take (min count (length is)) is)

  -- the items of the first tree mean no other
  pub first_alone : (is : List Item) → (is ≡ [] → ⊥) → trees_in text (take (count_first is) is) ≡ more (tree_in text (take (count_first is) is)) none
  first_alone [] h = absurd (h refl)
  first_alone (Atom kind at size ∷ is) h = alone_by (trees_in text (Atom kind at size ∷ [])) (atom at kind (bytes_at text kind at size)) (trees_atom kind at size [] ∙ ap (more (atom at kind (bytes_at text kind at size))) trees_none)
  first_alone (Group at end count ∷ is) h =
      let m = min count (length is) in
      let one : m + 1 ≡ suc m = omega arith in
      rw one (alone_by (trees_in text (Group at end count ∷ take m is)) (list at (trees_in text (take count (take m is))) end) (trees_list at end count (take m is) ∙ ap (λ xs. more (list at (trees_in text (take count (take m is))) end) (trees_in text xs)) (drop_all count (take m is) (fewer count is)) ∙ ap (more (list at (trees_in text (take count (take m is))) end)) trees_none))

  pub look_none : (is : List Item) → length is ≡ 0 → atom 0 Numeral [] ≡ tree_in text is
  look_none [] h = ap first_of (sym trees_none)
  look_none (i ∷ is) h = absurd (omega arith)

  pub look_atom : (is rest : List Item) (i : Item) (kind : Kind) (at size : ℕ) → is ≡ i ∷ rest → i ≡ Atom kind at size → atom at kind (bytes_at text kind at size) ≡ tree_in text is
  look_atom is rest i kind at size e f = sym (ap (tree_in text) (e ∙ ap (λ x. x ∷ rest) f) ∙ ap first_of (trees_atom kind at size rest))

  pub look_list : (is rest : List Item) (i : Item) (at end count : ℕ) → is ≡ i ∷ rest → i ≡ Group at end count → list at (trees_in text (take (min count (length rest)) rest)) end ≡ tree_in text is
  look_list is rest i at end count e f = sym (ap (tree_in text) (e ∙ ap (λ x. x ∷ rest) f) ∙ ap first_of (trees_list at end count rest) ∙ ap (λ xs. list at (trees_in text xs) end) (sym (take_min count rest)))

  pub split_none : (is : List Item) → length is ≡ 0 → None ≡ split_first (trees_in text is)
  split_none [] h = ap split_first (sym trees_none)
  split_none (i ∷ is) h = absurd (omega arith)
