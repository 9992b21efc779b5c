-- Before what stops the reading is no whole tree.
use Rattle.std.proofs.Common.{◌≡◌, ℕ, zero, suc, ◌+◌, ◌<◌, List, [], ◌∷◌, ◌++◌, length, sym, ◌∙◌, refl, subst, append_assoc, length-append, add-zero, arith}
use Rattle.spec_text.specs.declared.Fault.{Fault}
use Rattle.spec_text.specs.declared.Fault.TheVariants.{UnclosedList, StrayClose}
use Rattle.spec_text.specs.Lexemes.{Lexeme, opens, closes, wrong}
use Rattle.spec_text.specs.Trees.{Tree, Trees, atom, list, none, more, spelled, spelled_all}
use Rattle.spec_text.specs.Faults.{Located, located, first_fault}
use Rattle.spec_text.specs.Readings.{BeginsNoTree, IsBroken}
use Rattle.spec_text.proofs.Reading.{same_first, heads}
use Rattle.spec_text.proofs.Parsing.{close_begins_no_tree}
use Rattle.spec_text.proofs.Stopping.{nothing_begins_no_tree}
use Rattle.smt_sexpr.specs.Open.{Context, top, inside, spelled_in, flat_in, open_in, IsUnfinished}

-- after n open lists the lexemes begin with no tree, and with no end of a list
record Stuck (n : ℕ) (xs : List (ℕ × Lexeme)) : Type 0 where
  no_end : (at : ℕ) (ys : List (ℕ × Lexeme)) → xs ≡ (at, closes) ∷ ys → n ≡ 0
  no_tree : BeginsNoTree xs

-- the lexemes do not go on to the end of an open list
abbrev Blocks : List (ℕ × Lexeme) → Type 0
Blocks xs = (ts : Trees) (end : ℕ) (ys : List (ℕ × Lexeme)) → xs ≡ spelled_all ts ++ (end, closes) ∷ ys → ⊥

stuck_blocks : (n : ℕ) (xs : List (ℕ × Lexeme)) → 0 < n → Stuck n xs → Blocks xs
stuck_blocks n xs some h none end ys e = omega (arith, h.no_end end ys e)
stuck_blocks n xs some h (more t ts) end ys e = h.no_tree t (spelled_all ts ++ (end, closes) ∷ ys) (e ∙ append_assoc (spelled t) (spelled_all ts) ((end, closes) ∷ ys))

blocks_behind : (xs : List (ℕ × Lexeme)) (rows : Trees) → Blocks xs → Blocks (spelled_all rows ++ xs)
blocks_behind xs none h = h
blocks_behind xs (more r rows) h = λ ts end ys e. go r ts end ys e (blocks_behind xs rows h)
  where
    go : (r : Tree) (ts : Trees) (end : ℕ) (ys : List (ℕ × Lexeme)) → (spelled r ++ spelled_all rows) ++ xs ≡ spelled_all ts ++ (end, closes) ∷ ys → Blocks (spelled_all rows ++ xs) → ⊥
    go (atom a k w) none end ys e rest = let w = (heads e).1 in cc
    go (list a us f) none end ys e rest = let w = (heads e).1 in cc
    go r (more t ts) end ys e rest =
        let s = same_first r t (spelled_all rows ++ xs) (spelled_all ts ++ (end, closes) ∷ ys) (sym (append_assoc (spelled r) (spelled_all rows) xs) ∙ e ∙ append_assoc (spelled t) (spelled_all ts) ((end, closes) ∷ ys)) in
        rest ts end ys s.1

-- a list that does not end
begun_stuck : (n at : ℕ) (xs : List (ℕ × Lexeme)) → Blocks xs → Stuck n ((at, opens) ∷ xs)
begun_stuck n at xs h = record { no_end = λ b ys e. absurd (let w = (heads e).1 in cc); no_tree = go }
  where
    go : BeginsNoTree ((at, opens) ∷ xs)
    go (atom a k w) ys e = let w = (heads e).1 in cc
    go (list a ts end) ys e = h ts end ys ((heads e).2 ∙ append_assoc (spelled_all ts) ((end, closes) ∷ []) ys)

-- what was read of a list leads to no end either
stuck_in : (n : ℕ) (c : Context) (xs : List (ℕ × Lexeme)) → IsUnfinished c → Stuck (n + length (open_in c)) xs → Stuck n (spelled_in c ++ xs)
stuck_in n (top none) xs u h = rw add-zero at h
stuck_in n (top (more t ts)) xs u h = absurd u
stuck_in n (inside outer at rows) xs u h =
    let one : length (open_in (inside outer at rows)) ≡ length (open_in outer) + 1 = length-append (open_in outer) (length (flat_in outer) ∷ []) in
    let begun = begun_stuck (n + length (open_in outer)) at (spelled_all rows ++ xs) (blocks_behind xs rows (stuck_blocks (n + length (open_in (inside outer at rows))) xs (omega (arith, one)) h)) in
    subst (Stuck n) (sym (append_assoc (spelled_in outer) ((at, opens) ∷ spelled_all rows) xs)) (stuck_in n outer ((at, opens) ∷ spelled_all rows ++ xs) u begun)

-- a fault of what is here is one of all that was read
pub broken_in : (end n : ℕ) (c : Context) (xs ys : List (ℕ × Lexeme)) (f : Located) → IsUnfinished c → xs ≡ spelled_in c ++ ys → first_fault end n xs ≡ first_fault end (n + length (open_in c)) ys → IsBroken end (n + length (open_in c)) ys f → IsBroken end n xs f
broken_in end n c xs ys f u read faults b =
    let all = stuck_in n c ys u (record { no_end = b.no_end; no_tree = b.no_tree }) in
    record {
      fault = faults ∙ b.fault;
      no_end = λ at zs e. all.no_end at zs (sym read ∙ e);
      no_tree = λ t zs e. all.no_tree t zs (sym read ∙ e);
    }

-- the end of the text in a list
pub nothing_broken : (end n : ℕ) (xs : List (ℕ × Lexeme)) → xs ≡ [] → 0 < n → IsBroken end n xs (record { offset = end; fault = UnclosedList })
unfolding first_fault
nothing_broken end n xs nothing some = rw nothing (record { fault = first n some; no_end = λ at ys e. absurd cc; no_tree = nothing_begins_no_tree })
  where
    first : (m : ℕ) → 0 < m → first_fault end m [] ≡ located end UnclosedList
    first zero k = absurd (omega arith)
    first (suc m) k = refl

-- a fault in the place of a token
pub wrong_broken : (end n at : ℕ) (f : Fault) (xs : List (ℕ × Lexeme)) → xs ≡ (at, wrong f) ∷ [] → IsBroken end n xs (record { offset = at; fault = f })
unfolding first_fault
wrong_broken end n at f xs first = rw first (record { fault = here n; no_end = λ b ys e. absurd (let w = (heads e).1 in cc); no_tree = go })
  where
    here : (m : ℕ) → first_fault end m ((at, wrong f) ∷ []) ≡ located at f
    here zero = refl
    here (suc m) = refl

    go : BeginsNoTree ((at, wrong f) ∷ [])
    go (atom a k w) ys e = let w = (heads e).1 in cc
    go (list a ts b) ys e = let w = (heads e).1 in cc

-- an end where no list is open
pub stray_broken : (end n at : ℕ) (xs ys : List (ℕ × Lexeme)) → xs ≡ (at, closes) ∷ ys → n ≡ 0 → IsBroken end n xs (record { offset = at; fault = StrayClose })
unfolding first_fault
stray_broken end n at xs ys first none_open = rw (first, none_open) (record { fault = refl; no_end = λ b zs e. refl; no_tree = close_begins_no_tree at ys })
