-- Each text is trees up to what stops their reading.
use Rattle.std.proofs.Common.{◌≡◌, inl, inr, ◌<◌, ◌≤◌, ℕ, zero, suc, List, [], ◌∷◌, ◌++◌, length, refl, sym, ap, ◌∙◌, append_assoc, arith, subst}
use Rattle.std.specs.Prelude.{drop}
use Rattle.spec_text.specs.declared.Fault.{Fault}
use Rattle.spec_text.specs.declared.Fault.TheVariants.{UnclosedList, StrayClose}
use Rattle.spec_text.specs.Lexemes.{Lexeme, blank, opens, closes, word, wrong}
use Rattle.spec_text.specs.Trees.{Tree, Trees, atom, list, none, more, spelled, spelled_all}
use Rattle.spec_text.specs.Faults.{Located, first_fault}
use Rattle.spec_text.specs.Readings.{BeginsNoTree, IsBroken, AreTrees, StopsAt}
use Rattle.spec_text.proofs.Blanks.{HasNoBlank}
use Rattle.spec_text.proofs.Nesting.{passed_all}
use Rattle.spec_text.proofs.Stopping.{one_row, nothing_begins_no_tree}

-- trees up to a stop
record Parsed (end n : ℕ) (xs : List (ℕ × Lexeme)) : Type 0 where
  ts : Trees
  rest : List (ℕ × Lexeme)
  trees : AreTrees xs ts rest
  stop : StopsAt end n rest
  shorter : length rest ≤ length xs
  no_blank : HasNoBlank rest

-- nothing before a stop
parsed_none : (end n : ℕ) (xs : List (ℕ × Lexeme)) → HasNoBlank xs → StopsAt end n xs → Parsed end n xs
parsed_none end n xs h stop = record { ts = none; rest = xs; trees = refl; stop = stop; shorter = omega arith; no_blank = h }

-- one tree more before the others
parsed_more : (end n : ℕ) (xs ys : List (ℕ × Lexeme)) (t : Tree) → xs ≡ spelled t ++ ys → length ys ≤ length xs → Parsed end n ys → Parsed end n xs
parsed_more end n xs ys t e shorter p = record {
  ts = more t p.ts;
  rest = p.rest;
  trees = e ∙ ap (λ zs. spelled t ++ zs) p.trees ∙ sym (append_assoc (spelled t) (spelled_all p.ts) p.rest);
  stop = p.stop;
  shorter = omega (arith, shorter, p.shorter);
  no_blank = p.no_blank;
}

-- the first lexeme
abbrev in_front : List (ℕ × Lexeme) → Lexeme
in_front [] = blank
in_front (x ∷ xs) = x.1

-- the end of a list begins no tree
pub close_begins_no_tree : (at : ℕ) (ys : List (ℕ × Lexeme)) → BeginsNoTree ((at, closes) ∷ ys)
close_begins_no_tree at ys (atom a k bytes) zs e = let front : closes ≡ word k bytes = ap in_front e in cc
close_begins_no_tree at ys (list a ts end) zs e = let front : closes ≡ opens = ap in_front e in cc

-- nor does a fault
wrong_begins_no_tree : (at : ℕ) (f : Fault) (ys : List (ℕ × Lexeme)) → BeginsNoTree ((at, wrong f) ∷ ys)
wrong_begins_no_tree at f ys (atom a k bytes) zs e = let front : wrong f ≡ word k bytes = ap in_front e in cc
wrong_begins_no_tree at f ys (list a ts end) zs e = let front : wrong f ≡ opens = ap in_front e in cc

-- a list whose items break off is broken
list_broken : (end n at : ℕ) (ys rest : List (ℕ × Lexeme)) (ts : Trees) (f : Located) → AreTrees ys ts rest → IsBroken end (suc n) rest f → IsBroken end n ((at, opens) ∷ ys) f
unfolding first_fault
list_broken end n at ys rest ts f trees b = record {
  fault = ap (first_fault end (suc n)) trees ∙ passed_all end (suc n) ts rest ∙ b.fault;
  no_end = λ a zs e. let front : opens ≡ closes = ap in_front e in absurd cc;
  no_tree = deep;
}
  where
    deep : BeginsNoTree ((at, opens) ∷ ys)
    deep (atom a k bytes) zs e = let front : opens ≡ word k bytes = ap in_front e in cc
    deep (list a us close) zs e =
        let tail : ys ≡ (spelled_all us ++ (close, closes) ∷ []) ++ zs = ap (drop 1) e in
        let split = tail ∙ append_assoc (spelled_all us) ((close, closes) ∷ []) zs in
        let row = one_row ts us rest ((close, closes) ∷ zs) b.no_tree (close_begins_no_tree close zs) (sym trees ∙ split) in
        let zero_is : suc n ≡ 0 = b.no_end close zs row.1 in
        omega (arith, zero_is)

-- a list, with what follows it
closed_list : (end fuel n at : ℕ) (xs : List (ℕ × Lexeme)) → length xs < fuel → HasNoBlank xs → (q : Parsed end (suc n) xs)
    → ((ys : List (ℕ × Lexeme)) → length ys < fuel → HasNoBlank ys → Parsed end n ys) → StopsAt end (suc n) q.rest → Parsed end n ((at, opens) ∷ xs)
closed_list end fuel n at xs lt h q rec (inl x) = let zero_is : suc n ≡ 0 = x.0 in absurd (omega (arith, zero_is))
closed_list end fuel n at xs lt h q rec (inr (inl x)) =
    let close = x.1 in
    let ys = x.2 in
    let small : suc (length ys) ≤ length xs = omega (arith, q.shorter, ap length x.3) in
    let clean : HasNoBlank ys = subst HasNoBlank x.3 q.no_blank in
    parsed_more end n ((at, opens) ∷ xs) ys (list at q.ts close) (ap (λ zs. (at, opens) ∷ zs) (q.trees ∙ ap (λ zs. spelled_all q.ts ++ zs) x.3 ∙ sym (append_assoc (spelled_all q.ts) ((close, closes) ∷ []) ys))) (omega (arith, small)) (rec ys (omega (arith, small, lt)) clean)
closed_list end fuel n at xs lt h q rec (inr (inr x)) = parsed_none end n ((at, opens) ∷ xs) h (inr (inr (x.0, list_broken end n at xs q.rest q.ts x.0 q.trees x.1)))

-- no fuel is needed but the number of lexemes
parsed : (end fuel n : ℕ) (xs : List (ℕ × Lexeme)) → length xs < fuel → HasNoBlank xs → Parsed end n xs
unfolding first_fault
parsed end zero n xs lt h = absurd (omega (arith, lt))
parsed end (suc fuel) zero [] lt h = parsed_none end 0 [] h (inl (refl, refl))
parsed end (suc fuel) (suc n) [] lt h = parsed_none end (suc n) [] h (inr (inr (record { offset = end; fault = UnclosedList }, record { fault = refl; no_end = λ at ys e. absurd cc; no_tree = nothing_begins_no_tree })))
parsed end (suc fuel) n ((at, blank) ∷ xs) lt h = absurd h
parsed end (suc fuel) n ((at, word k bytes) ∷ xs) lt h = parsed_more end n ((at, word k bytes) ∷ xs) xs (atom at k bytes) refl (omega arith) (parsed end fuel n xs (omega (arith, lt)) h)
parsed end (suc fuel) n ((at, wrong f) ∷ xs) lt h = parsed_none end n ((at, wrong f) ∷ xs) h (inr (inr (record { offset = at; fault = f }, record { fault = refl; no_end = λ a ys e. let front : wrong f ≡ closes = ap in_front e in absurd cc; no_tree = wrong_begins_no_tree at f xs })))
parsed end (suc fuel) zero ((at, closes) ∷ xs) lt h = parsed_none end 0 ((at, closes) ∷ xs) h (inr (inr (record { offset = at; fault = StrayClose }, record { fault = refl; no_end = λ a ys e. refl; no_tree = close_begins_no_tree at xs })))
parsed end (suc fuel) (suc n) ((at, closes) ∷ xs) lt h = parsed_none end (suc n) ((at, closes) ∷ xs) h (inr (inl (λ e. absurd cc, at, xs, refl)))
parsed end (suc fuel) n ((at, opens) ∷ xs) lt h =
    let q = parsed end fuel (suc n) xs (omega (arith, lt)) h in
    closed_list end fuel n at xs (omega (arith, lt)) h q (λ ys l k. parsed end fuel n ys l k) q.stop

pub each_parsed : (end n : ℕ) (xs : List (ℕ × Lexeme)) → HasNoBlank xs → (ts : Trees) × (rest : List (ℕ × Lexeme)) × AreTrees xs ts rest × StopsAt end n rest
each_parsed end n xs h = let p = parsed end (suc (length xs)) n xs (omega arith) h in (p.ts, p.rest, p.trees, p.stop)
