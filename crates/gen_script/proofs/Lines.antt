-- Lines one after the other.
use Rattle.std.proofs.Common.{◌≡◌, ◌∙◌, sym, ap, ℕ, ◌+◌, List, [], ◌∷◌, ◌++◌, append_assoc, arith}
use Rattle.std.specs.Prelude.{flat_map}
use Rattle.std.proofs.lemmas.List.{flat_map_more, map-id}
use Rattle.std.proofs.lemmas.List.FromFn.{map-range_with_len_more}
use Rattle.gen_script.specs.Scripts.{numbers}

-- one number more
numbers_more : (n : ℕ) → numbers n ++ n ∷ [] ≡ numbers (n + 1)
numbers_more n =
    let first : 0 + n ≡ n = omega arith in
    sym (sym (map-id (numbers (n + 1))) ∙ map-range_with_len_more (λ (x : ℕ). x) 0 n n first ∙ ap (λ xs. xs ++ n ∷ []) (map-id (numbers n)))

-- the line of one number more
line_more : (f : ℕ → List ℕ) (n : ℕ) (bytes : List ℕ) → (bytes ++ flat_map f (numbers n)) ++ f n ≡ bytes ++ flat_map f (numbers (n + 1))
line_more f n bytes = flat_map_more f bytes (numbers n) n ∙ ap (λ xs. bytes ++ flat_map f xs) (numbers_more n)

-- it was written after these
pub one_more : (f : ℕ → List ℕ) (n : ℕ) (bytes old new : List ℕ) → old ≡ bytes ++ flat_map f (numbers n) → new ≡ old ++ f n → new ≡ bytes ++ flat_map f (numbers (n + 1))
one_more f n bytes old new e h = h ∙ ap (λ xs. xs ++ f n) e ∙ line_more f n bytes

-- what was written after others
after : (x y z old new : List ℕ) → old ≡ x ++ y → new ≡ old ++ z → new ≡ x ++ (y ++ z)
after x y z old new e h = h ∙ ap (λ xs. xs ++ z) e ∙ append_assoc x y z

-- all lines of a script
pub joined : (f g : ℕ → List ℕ) (n : ℕ) (head last ending check t0 t1 t2 t3 t4 t5 t6 t7 : List ℕ) → t0 ≡ [] → t1 ≡ t0 ++ head → t2 ≡ t1 ++ flat_map f (numbers n) → t3 ≡ t2 ++ f n → t4 ≡ t3 ++ flat_map g (numbers n)
    → t5 ≡ t4 ++ last → t6 ≡ t5 ++ ending → t7 ≡ t6 ++ check → t7 ≡ head ++ (flat_map f (numbers (n + 1)) ++ (flat_map g (numbers n) ++ (last ++ (ending ++ check))))
joined f g n head last ending check t0 t1 t2 t3 t4 t5 t6 t7 e0 e1 e2 e3 e4 e5 e6 e7 =
    let a = flat_map f (numbers (n + 1)) in
    let b = flat_map g (numbers n) in
    let first : t1 ≡ head = e1 ∙ ap (λ xs. xs ++ head) e0 in
    let h3 : t3 ≡ head ++ a = one_more f n t1 t2 t3 e2 e3 ∙ ap (λ xs. xs ++ a) first in
    let h4 = after head a b t3 t4 h3 e4 in
    let h5 = after head (a ++ b) last t4 t5 h4 e5 in
    let h6 = after head ((a ++ b) ++ last) ending t5 t6 h5 e6 in
    let h7 = after head (((a ++ b) ++ last) ++ ending) check t6 t7 h6 e7 in
    h7 ∙ ap (λ xs. head ++ xs) (append_assoc ((a ++ b) ++ last) ending check ∙ append_assoc (a ++ b) last (ending ++ check) ∙ append_assoc a b (last ++ (ending ++ check)))
