-- How arguments of a list are taken: to the left, to the right, by neighbours, by all pairs. Source: SMT-LIB 2.6,
-- section 3.7.1, attributes of function symbols.
use Rattle.std.specs.Prelude.{Bool, true, ◌&&◌, List, [], ◌∷◌, ◌++◌, map}

-- the first two are taken together, then the next one with them, and so on; of no items, the first argument
abbrev pub left : {A : Type 0} → A → (A → A → A) → List A → A
left d f [] = d
left d f (a ∷ []) = a
left d f (a ∷ b ∷ bs) = left d f (f a b ∷ bs)

-- the last two are taken together, then the one before them, and so on; of no items, the first argument
abbrev pub right : {A : Type 0} → A → (A → A → A) → List A → A
right d f [] = d
right d f (a ∷ []) = a
right d f (a ∷ b ∷ bs) = f a (right d f (b ∷ bs))

-- each with the next
abbrev pub neighbours : {A : Type 0} → List A → List (A × A)
neighbours [] = []
neighbours (a ∷ []) = []
neighbours (a ∷ b ∷ bs) = (a, b) ∷ neighbours (b ∷ bs)

-- first with second, first with third, and so on, then second with third
abbrev pub all_pairs : {A : Type 0} → List A → List (A × A)
all_pairs [] = []
all_pairs (a ∷ bs) = map (λ b. (a, b)) bs ++ all_pairs bs

-- the test holds of each pair
abbrev pub all_pass : {A : Type 0} → (A → A → Bool) → List (A × A) → Bool
all_pass test [] = true
all_pass test (p ∷ ps) = test p.0 p.1 && all_pass test ps
