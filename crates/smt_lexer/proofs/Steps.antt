-- The place one byte further.
use Rattle.std.proofs.Common.{◌≡◌, ◌+◌, ◌<◌, ◌≤◌, ℕ, Bool, true, false, cond, List, [], ◌∷◌, ◌++◌, length, take, get_or, refl, ap, ◌∙◌, arith}
use Rattle.std.specs.Prelude.{◌==◌}
use Rattle.std.proofs.lemmas.List.{take_more, length-take-le}
use Rattle.std.proofs.lemmas.List.Sums.{count_by-le-length, count_by_more_no, count_by_more_yes}
use Rattle.spec_text.specs.declared.Place.{Place}
use Rattle.spec_text.specs.Places.{since_break, IsPlaceOf}

since_break_push : (n b : ℕ) (xs : List ℕ) → since_break n (xs ++ b ∷ []) ≡ cond (b == 10) 0 (since_break n xs + 1)
since_break_push n b [] = go (b == 10)
  where
    go : (t : Bool) → cond t 0 (n + 1) ≡ cond t 0 (n + 1)
    go t = refl
since_break_push n b (x ∷ xs) = go (x == 10) (since_break_push 0 b xs) (since_break_push (n + 1) b xs)
  where
    go : (t : Bool) → since_break 0 (xs ++ b ∷ []) ≡ cond (b == 10) 0 (since_break 0 xs + 1) → since_break (n + 1) (xs ++ b ∷ []) ≡ cond (b == 10) 0 (since_break (n + 1) xs + 1) → cond t (since_break 0 (xs ++ b ∷ [])) (since_break (n + 1) (xs ++ b ∷ [])) ≡ cond (b == 10) 0 (cond t (since_break 0 xs) (since_break (n + 1) xs) + 1)
    go true h k = h
    go false h k = k

since_break_most : (n : ℕ) (xs : List ℕ) → since_break n xs ≤ n + length xs
since_break_most n [] = omega arith
since_break_most n (x ∷ xs) = go (x == 10) (since_break_most 0 xs) (since_break_most (n + 1) xs)
  where
    go : (t : Bool) → since_break 0 xs ≤ 0 + length xs → since_break (n + 1) xs ≤ n + 1 + length xs → cond t (since_break 0 xs) (since_break (n + 1) xs) ≤ n + length (x ∷ xs)
    go true a b = omega arith
    go false a b = omega arith

module _ (text : List ℕ) (p : Place) (h : IsPlaceOf text p) where
  pub small_line : p.line ≤ p.offset + 1
  small_line = omega (arith, h.line, h.within, count_by-le-length (λ b. b == 10) (take p.offset text), length-take-le p.offset text h.within)

  pub small_column : p.col ≤ p.offset + 1
  small_column = omega (arith, h.col, h.within, since_break_most 0 (take p.offset text), length-take-le p.offset text h.within)

  module _ (lt : p.offset < length text) where
    pub place_behind_break : (get_or text p.offset 0 == 10) ≡ true → IsPlaceOf text record { offset = p.offset + 1; line = p.line + 1; col = 1 }
    place_behind_break is_break =
        let e : since_break 0 (take (p.offset + 1) text) ≡ 0 = ap (since_break 0) (take_more text p.offset 0 lt) ∙ since_break_push 0 (get_or text p.offset 0) (take p.offset text) ∙ rw is_break refl in
        record {
          within = omega arith;
          line = omega (arith, h.line, count_by_more_yes (λ b. b == 10) text p.offset 0 lt is_break);
          col = omega (arith, e);
        }

    pub place_behind_byte : (get_or text p.offset 0 == 10) ≡ false → IsPlaceOf text record { offset = p.offset + 1; line = p.line; col = p.col + 1 }
    place_behind_byte is_none =
        let e : since_break 0 (take (p.offset + 1) text) ≡ since_break 0 (take p.offset text) + 1 = ap (since_break 0) (take_more text p.offset 0 lt) ∙ since_break_push 0 (get_or text p.offset 0) (take p.offset text) ∙ rw is_none refl in
        record {
          within = omega arith;
          line = omega (arith, h.line, count_by_more_no (λ b. b == 10) text p.offset 0 lt is_none);
          col = omega (arith, h.col, e);
        }
