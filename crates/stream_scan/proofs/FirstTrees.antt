-- What lexemes begin with is their first tree, or their first fault.
use Rattle.std.proofs.Common.{◌≡◌, ◌<◌, ℕ, zero, suc, List, [], ◌∷◌, ◌++◌, length, Option, None, refl, sym, ap, ◌∙◌, arith, append_assoc}
use Rattle.spec_text.specs.declared.Fault.TheVariants.{UnclosedList}
use Rattle.spec_text.specs.Lexemes.{Lexeme, blank, opens, closes, word, wrong}
use Rattle.spec_text.specs.Trees.{Tree, Trees, atom, list, none, more, spelled, spelled_all}
use Rattle.spec_text.specs.Faults.{Located, located, first_fault}
use Rattle.spec_text.proofs.Blanks.{HasNoBlank}
use Rattle.stream_scan.specs.Next.{Outcome, nothing, unclosed, whole, stops, prepend, outcome}

-- lexemes before an outcome
abbrev prepend_all : List (ℕ × Lexeme) → Outcome → Outcome
prepend_all [] o = o
prepend_all (x ∷ xs) o = prepend x (prepend_all xs o)

prepend_joined : (xs ys : List (ℕ × Lexeme)) (o : Outcome) → prepend_all (xs ++ ys) o ≡ prepend_all xs (prepend_all ys o)
prepend_joined [] ys o = refl
prepend_joined (x ∷ xs) ys o = ap (prepend x) (prepend_joined xs ys o)

prepend_whole : (xs ys : List (ℕ × Lexeme)) → prepend_all xs (whole ys) ≡ whole (xs ++ ys)
prepend_whole [] ys = refl
prepend_whole (x ∷ xs) ys = ap (prepend x) (prepend_whole xs ys)

list_opened : (n at : ℕ) (xs : List (ℕ × Lexeme)) → outcome n ((at, opens) ∷ xs) ≡ prepend (at, opens) (outcome (suc n) xs)
unfolding outcome
list_opened n at xs = refl

list_closed : (n at : ℕ) (xs : List (ℕ × Lexeme)) → outcome (suc (suc n)) ((at, closes) ∷ xs) ≡ prepend (at, closes) (outcome (suc n) xs)
unfolding outcome
list_closed n at xs = refl

last_list_closed : (at : ℕ) (xs : List (ℕ × Lexeme)) → outcome (suc zero) ((at, closes) ∷ xs) ≡ whole ((at, closes) ∷ [])
unfolding outcome
last_list_closed at xs = refl

mutual
  unfolding outcome

  -- trees in a list are passed
  tree_passed : (n : ℕ) (t : Tree) (ys : List (ℕ × Lexeme)) → outcome (suc n) (spelled t ++ ys) ≡ prepend_all (spelled t) (outcome (suc n) ys)
  tree_passed n (atom at k w) ys = refl
  tree_passed n (list at ts end) ys =
      list_opened (suc n) at ((spelled_all ts ++ (end, closes) ∷ []) ++ ys)
      ∙ ap (prepend (at, opens)) (ap (outcome (suc (suc n))) (append_assoc (spelled_all ts) ((end, closes) ∷ []) ys) ∙ trees_passed (suc n) ts ((end, closes) ∷ ys) ∙ ap (prepend_all (spelled_all ts)) (list_closed n end ys) ∙ sym (prepend_joined (spelled_all ts) ((end, closes) ∷ []) (outcome (suc n) ys)))

  trees_passed : (n : ℕ) (ts : Trees) (ys : List (ℕ × Lexeme)) → outcome (suc n) (spelled_all ts ++ ys) ≡ prepend_all (spelled_all ts) (outcome (suc n) ys)
  trees_passed n none ys = refl
  trees_passed n (more t ts) ys =
      ap (outcome (suc n)) (append_assoc (spelled t) (spelled_all ts) ys)
      ∙ tree_passed n t (spelled_all ts ++ ys)
      ∙ ap (prepend_all (spelled t)) (trees_passed n ts ys)
      ∙ sym (prepend_joined (spelled t) (spelled_all ts) (outcome (suc n) ys))

-- lexemes that begin with a tree begin with an s-expression
pub tree_is_whole : (t : Tree) (ys : List (ℕ × Lexeme)) → outcome 0 (spelled t ++ ys) ≡ whole (spelled t)
unfolding outcome
tree_is_whole (atom at k w) ys = refl
tree_is_whole (list at ts end) ys =
    list_opened 0 at ((spelled_all ts ++ (end, closes) ∷ []) ++ ys)
    ∙ ap (prepend (at, opens)) (ap (outcome (suc zero)) (append_assoc (spelled_all ts) ((end, closes) ∷ []) ys) ∙ trees_passed 0 ts ((end, closes) ∷ ys) ∙ ap (prepend_all (spelled_all ts)) (last_list_closed end ys) ∙ prepend_whole (spelled_all ts) ((end, closes) ∷ []))

-- an s-expression is whole
abbrev pub IsWhole : Outcome → Type 0
IsWhole (whole xs) = Unit {0}
IsWhole _ = ⊥

whole_after : (x : ℕ × Lexeme) (o : Outcome) → IsWhole (prepend x o) → IsWhole o
whole_after x nothing h = h
whole_after x unclosed h = h
whole_after x (whole xs) h = tt
whole_after x (stops at f) h = h

-- after the end of a list, where lists are open yet
abbrev GoesOn : ℕ → List (ℕ × Lexeme) → Type 0
GoesOn zero ys = Unit {0}
GoesOn (suc n) ys = IsWhole (outcome (suc n) ys)

-- trees up to the end of their list
record Inside (n : ℕ) (xs : List (ℕ × Lexeme)) : Type 0 where
  trees : Trees
  end : ℕ
  rest : List (ℕ × Lexeme)
  split : xs ≡ spelled_all trees ++ (end, closes) ∷ rest
  goes : GoesOn n rest
  shorter : length rest < length xs
  no_blank : HasNoBlank rest

tree_more : (n : ℕ) (xs ys : List (ℕ × Lexeme)) (t : Tree) → xs ≡ spelled t ++ ys → length ys < length xs → Inside n ys → Inside n xs
tree_more n xs ys t e less h = record {
  trees = more t h.trees;
  end = h.end;
  rest = h.rest;
  split = e ∙ ap (λ zs. spelled t ++ zs) h.split ∙ sym (append_assoc (spelled t) (spelled_all h.trees) ((h.end, closes) ∷ h.rest));
  goes = h.goes;
  shorter = omega (arith, less, h.shorter);
  no_blank = h.no_blank;
}

after_list : (fuel n at : ℕ) (xs : List (ℕ × Lexeme)) → length xs < fuel → (q : Inside (suc n) xs) → ((ys : List (ℕ × Lexeme)) → length ys < fuel → HasNoBlank ys → IsWhole (outcome (suc n) ys) → Inside n ys) → Inside n ((at, opens) ∷ xs)
after_list fuel n at xs lt q rec =
    tree_more n ((at, opens) ∷ xs) q.rest (list at q.trees q.end) (ap (λ zs. (at, opens) ∷ zs) (q.split ∙ sym (append_assoc (spelled_all q.trees) ((q.end, closes) ∷ []) q.rest))) (omega (arith, q.shorter)) (rec q.rest (omega (arith, q.shorter, lt)) q.no_blank q.goes)

trees_inside : (fuel n : ℕ) (xs : List (ℕ × Lexeme)) → length xs < fuel → HasNoBlank xs → IsWhole (outcome (suc n) xs) → Inside n xs
unfolding outcome
trees_inside zero n xs lt h w = absurd (omega (arith, lt))
trees_inside (suc fuel) n [] lt h w = absurd w
trees_inside (suc fuel) n ((at, blank) ∷ xs) lt h w = absurd h
trees_inside (suc fuel) n ((at, wrong f) ∷ xs) lt h w = absurd w
trees_inside (suc fuel) n ((at, word k b) ∷ xs) lt h w = tree_more n ((at, word k b) ∷ xs) xs (atom at k b) refl (omega arith) (trees_inside fuel n xs (omega (arith, lt)) h (whole_after (at, word k b) (outcome (suc n) xs) w))
trees_inside (suc fuel) zero ((at, closes) ∷ xs) lt h w = record { trees = none; end = at; rest = xs; split = refl; goes = tt; shorter = omega arith; no_blank = h }
trees_inside (suc fuel) (suc n) ((at, closes) ∷ xs) lt h w = record { trees = none; end = at; rest = xs; split = refl; goes = whole_after (at, closes) (outcome (suc n) xs) w; shorter = omega arith; no_blank = h }
trees_inside (suc fuel) n ((at, opens) ∷ xs) lt h w =
    after_list fuel n at xs (omega (arith, lt)) (trees_inside fuel (suc n) xs (omega (arith, lt)) h (whole_after (at, opens) (outcome (suc (suc n)) xs) w)) (λ ys l clean k. trees_inside fuel n ys l clean k)

-- a tree that comes first
pub record HasTree (xs : List (ℕ × Lexeme)) : Type 0 where
  pub tree : Tree
  pub rest : List (ℕ × Lexeme)
  pub split : xs ≡ spelled tree ++ rest

-- lexemes that begin with an s-expression begin with a tree
pub whole_tree : (xs : List (ℕ × Lexeme)) → HasNoBlank xs → IsWhole (outcome 0 xs) → HasTree xs
unfolding outcome
whole_tree [] h w = absurd w
whole_tree ((at, blank) ∷ xs) h w = absurd h
whole_tree ((at, wrong f) ∷ xs) h w = absurd w
whole_tree ((at, closes) ∷ xs) h w = absurd w
whole_tree ((at, word k b) ∷ xs) h w = record { tree = atom at k b; rest = xs; split = refl }
whole_tree ((at, opens) ∷ xs) h w =
    let q = trees_inside (suc (length xs)) 0 xs (omega arith) h (whole_after (at, opens) (outcome (suc zero) xs) w) in
    record {
      tree = list at q.trees q.end;
      rest = q.rest;
      split = ap (λ zs. (at, opens) ∷ zs) (q.split ∙ sym (append_assoc (spelled_all q.trees) ((q.end, closes) ∷ []) q.rest));
    }

-- the fault that an outcome is, if it is one
abbrev pub IsFaultOf : ℕ → Outcome → Option Located → Type 0
IsFaultOf end (whole xs) o = Unit {0}
IsFaultOf end nothing o = o ≡ None
IsFaultOf end unclosed o = o ≡ located end UnclosedList
IsFaultOf end (stops at f) o = o ≡ located at f

fault_after : (end : ℕ) (x : ℕ × Lexeme) (o : Outcome) (f : Option Located) → IsFaultOf end o f → IsFaultOf end (prepend x o) f
fault_after end x nothing f h = h
fault_after end x unclosed f h = h
fault_after end x (whole xs) f h = tt
fault_after end x (stops at g) f h = h

-- it is the first fault
pub fault_is_first : (end n : ℕ) (xs : List (ℕ × Lexeme)) → IsFaultOf end (outcome n xs) (first_fault end n xs)
unfolding outcome first_fault
fault_is_first end zero [] = refl
fault_is_first end (suc n) [] = refl
fault_is_first end n ((at, blank) ∷ xs) = fault_is_first end n xs
fault_is_first end n ((at, wrong f) ∷ xs) = refl
fault_is_first end n ((at, opens) ∷ xs) = fault_after end (at, opens) (outcome (suc n) xs) (first_fault end (suc n) xs) (fault_is_first end (suc n) xs)
fault_is_first end zero ((at, closes) ∷ xs) = refl
fault_is_first end (suc zero) ((at, closes) ∷ xs) = tt
fault_is_first end (suc (suc n)) ((at, closes) ∷ xs) = fault_after end (at, closes) (outcome (suc n) xs) (first_fault end (suc n) xs) (fault_is_first end (suc n) xs)
fault_is_first end zero ((at, word k b) ∷ xs) = tt
fault_is_first end (suc n) ((at, word k b) ∷ xs) = fault_after end (at, word k b) (outcome (suc n) xs) (first_fault end (suc n) xs) (fault_is_first end (suc n) xs)
