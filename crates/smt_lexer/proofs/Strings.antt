-- The body of a string, after the bytes that were passed.
use Rattle.std.proofs.Common.{◌≡◌, ◌≢◌, ◌+◌, ◌<◌, ◌≤◌, ℕ, false, List, [], ◌∷◌, ◌++◌, length, take, drop, get_or, Option, Some, None, refl, ap, ◌∙◌, sym, arith, append_assoc, append-nil, add_assoc}
use Rattle.std.specs.Prelude.{option_map, ◌==◌}
use Rattle.std.proofs.lemmas.Bool.Decides.{nat_tests}
use Rattle.std.proofs.lemmas.List.{take_more, drop_more, drop_all}
use Rattle.spec_text.specs.Lexemes.{string_body, after_quote}

-- the body is what was passed, and then the body of the rest
abbrev pub GoesOn : List ℕ → ℕ → Type 0
GoesOn bytes n = string_body bytes ≡ option_map (λ (body : List ℕ). take n bytes ++ body) (string_body (drop n bytes))

map_twice : (f g h : List ℕ → List ℕ) → ((xs : List ℕ) → f (g xs) ≡ h xs) → (o : Option (List ℕ)) → option_map f (option_map g o) ≡ option_map h o
map_twice f g h e None = refl
map_twice f g h e (Some xs) = ap (λ (ys : List ℕ). Some ys) (e xs)

module _ (bytes : List ℕ) (n : ℕ) (lt : n < length bytes) (so_far : GoesOn bytes n) where
  pub body_byte : get_or bytes n 0 ≢ 34 → GoesOn bytes (n + 1)
  unfolding string_body
  body_byte other =
      let b = get_or bytes n 0 in
      let t : (get_or bytes n 0 == 34) ≡ false = grind (arith, nat_tests) in
      let step : string_body (drop n bytes) ≡ option_map (λ (body : List ℕ). get_or bytes n 0 ∷ body) (string_body (drop (n + 1) bytes)) = ap string_body (drop_more bytes n 0 lt) ∙ rw t refl in
      so_far ∙ ap (option_map (λ (body : List ℕ). take n bytes ++ body)) step ∙ map_twice _ _ _ (λ xs. sym (append_assoc (take n bytes) (get_or bytes n 0 ∷ []) xs) ∙ ap (λ (front : List ℕ). front ++ xs) (sym (take_more bytes n 0 lt))) (string_body (drop (n + 1) bytes))

  pub body_two_quotes : get_or bytes n 0 ≡ 34 → n + 1 < length bytes → get_or bytes (n + 1) 0 ≡ 34 → GoesOn bytes (n + 2)
  unfolding string_body after_quote
  body_two_quotes first more second =
      let here : drop n bytes ≡ 34 ∷ 34 ∷ drop (n + 2) bytes = drop_more bytes n 0 lt ∙ rw (first, drop_more bytes (n + 1) 0 more, second, add_assoc n 1 1) refl in
      let step : string_body (drop n bytes) ≡ option_map (λ (body : List ℕ). 34 ∷ 34 ∷ body) (string_body (drop (n + 2) bytes)) = ap string_body here in
      let two : take (n + 2) bytes ≡ take n bytes ++ 34 ∷ 34 ∷ [] = rw (← add_assoc n 1 1) (take_more bytes (n + 1) 0 more ∙ rw (take_more bytes n 0 lt, first, second) (append_assoc (take n bytes) (34 ∷ []) (34 ∷ []))) in
      so_far ∙ ap (option_map (λ (body : List ℕ). take n bytes ++ body)) step ∙ map_twice _ _ _ (λ xs. sym (append_assoc (take n bytes) (34 ∷ 34 ∷ []) xs) ∙ ap (λ (front : List ℕ). front ++ xs) (sym two)) (string_body (drop (n + 2) bytes))

  pub body_last_quote : get_or bytes n 0 ≡ 34 → length bytes ≤ n + 1 → string_body bytes ≡ Some (take n bytes)
  unfolding string_body after_quote
  body_last_quote first last =
      let here : drop n bytes ≡ 34 ∷ [] = drop_more bytes n 0 lt ∙ rw (first, drop_all (n + 1) bytes last) refl in
      let step : string_body (drop n bytes) ≡ Some [] = ap string_body here in
      so_far ∙ ap (option_map (λ (body : List ℕ). take n bytes ++ body)) step ∙ ap (λ (xs : List ℕ). Some xs) (append-nil (take n bytes))

  pub body_one_quote : get_or bytes n 0 ≡ 34 → n + 1 < length bytes → get_or bytes (n + 1) 0 ≢ 34 → string_body bytes ≡ Some (take n bytes)
  unfolding string_body after_quote
  body_one_quote first more second =
      let t : (get_or bytes (n + 1) 0 == 34) ≡ false = grind (arith, nat_tests) in
      let here : drop n bytes ≡ 34 ∷ get_or bytes (n + 1) 0 ∷ drop (n + 1 + 1) bytes = drop_more bytes n 0 lt ∙ rw (first, drop_more bytes (n + 1) 0 more) refl in
      let step : string_body (drop n bytes) ≡ Some [] = ap string_body here ∙ rw t refl in
      so_far ∙ ap (option_map (λ (body : List ℕ). take n bytes ++ body)) step ∙ ap (λ (xs : List ℕ). Some xs) (append-nil (take n bytes))

pub body_begins : (bytes : List ℕ) → GoesOn bytes 0
body_begins bytes = go (string_body bytes)
  where
    go : (o : Option (List ℕ)) → o ≡ option_map (λ (body : List ℕ). [] ++ body) o
    go None = refl
    go (Some xs) = refl

pub body_ends_never : (bytes : List ℕ) (n : ℕ) → length bytes ≤ n → GoesOn bytes n → string_body bytes ≡ None
unfolding string_body
body_ends_never bytes n past so_far = so_far ∙ rw (drop_all n bytes past) refl
