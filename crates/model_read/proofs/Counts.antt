-- How many trees there are.
use Rattle.std.proofs.Common.{◌≡◌, ◌==◌, ◌-◌, ◌+◌, ℕ, Bool, true, false, Some, None, refl, ap, arith}
use Rattle.std.specs.Bool.{Decides}
use Rattle.std.specs.Cmp.{both_ways}
use Rattle.std.proofs.lemmas.Bool.Decides.{Decides-eqb}
use Rattle.spec_text.specs.Trees.{Tree, Trees, more}
use Rattle.spec_model_files.specs.Bodies.{tree_count}
use Rattle.smt_sexpr.specs.Items.{split_first}
use Rattle.smt_sexpr.proofs.Splitting.{split_end, split_more}

-- tests of equations that lead to each other are one
pub same_tests : (a b c d : ℕ) → (a ≡ b → c ≡ d) → (c ≡ d → a ≡ b) → (a == b) ≡ (c == d)
same_tests a b c d f g = both_ways (a == b) (c == d) (λ e. (Decides-eqb c d).1 (f ((Decides-eqb a b).0 e))) (λ e. (Decides-eqb a b).1 (g ((Decides-eqb c d).0 e)))

-- one tree more
pub counted_more : (ts us : Trees) (t : Tree) (left : ℕ) → Some (t, us) ≡ split_first ts → (left ≡ 0 → ⊥) → (tree_count us == left - 1) ≡ (tree_count ts == left)
counted_more ts us t left e some =
    let s : tree_count ts ≡ tree_count (more t us) = ap tree_count (split_more ts us t e) in
    same_tests (tree_count us) (left - 1) (tree_count ts) left (λ h. omega (arith, s, h, some)) (λ h. omega (arith, s, h, some))

-- a tree where none is to come
pub counted_over : (ts us : Trees) (t : Tree) (left : ℕ) → Some (t, us) ≡ split_first ts → left ≡ 0 → false ≡ (tree_count ts == left)
counted_over ts us t left e none_left =
    let s : tree_count ts ≡ tree_count (more t us) = ap tree_count (split_more ts us t e) in
    go (tree_count ts == left) (Decides-eqb (tree_count ts) left) s
  where
    go : (b : Bool) → Decides b (tree_count ts ≡ left) → tree_count ts ≡ tree_count (more t us) → false ≡ b
    go false d s = refl
    go true d s = let h = d.0 refl in absurd (omega (arith, s, h, none_left))

-- no tree
pub counted_end : (ts : Trees) (left : ℕ) → None ≡ split_first ts → (left == 0) ≡ (tree_count ts == left)
counted_end ts left e =
    let s : tree_count ts ≡ 0 = ap tree_count (split_end ts e) in
    same_tests left 0 (tree_count ts) left (λ h. omega (arith, s, h)) (λ h. omega (arith, s, h))

-- a count that was tested
pub count_is : (ts : Trees) (n : ℕ) → (tree_count ts == n) ≡ true → tree_count ts ≡ n
count_is ts n e = (Decides-eqb (tree_count ts) n).0 e

pub count_more : (ts us : Trees) (t : Tree) → Some (t, us) ≡ split_first ts → tree_count ts ≡ tree_count us + 1
count_more ts us t e = let s : tree_count ts ≡ tree_count (more t us) = ap tree_count (split_more ts us t e) in omega (arith, s)

pub count_end : (ts : Trees) → None ≡ split_first ts → tree_count ts ≡ 0
count_end ts e = ap tree_count (split_end ts e)
