-- What std has no lemma for: three tests that all pass, a list that is not longer than 0, the test of bytes on one name, names among others, and lists of two.
use Rattle.std.proofs.Common.{◌≡◌, ℕ, Bool, true, false, ◌||◌, List, [], ◌∷◌, ◌++◌, refl, ap, length, get_or, ◌<◌, arith}
use Rattle.std.specs.Prelude.{◌&&◌}
use Rattle.std.specs.Str.{bytes_eq}
use Rattle.std.proofs.lemmas.Slice.Eq.{bytes_eq-Decides}
use Rattle.spec_text.specs.Bytes.{Name, among}

pub three_parts : (a b c : Bool) → (a && b && c) ≡ true → (a ≡ true) × (b ≡ true) × (c ≡ true)
three_parts true true true e = (refl, refl, refl)
three_parts true true false e = cc
three_parts true false c e = cc
three_parts false b c e = cc

pub nothing_left : {A : Type 0} (xs : List A) → (0 < length xs → ⊥) → xs ≡ []
nothing_left [] h = refl
nothing_left (x ∷ xs) h = absurd (h (omega arith))

pub bytes_itself : (bytes : List ℕ) → bytes_eq bytes bytes ≡ true
bytes_itself bytes = (bytes_eq-Decides bytes bytes).1 refl

-- a name that is not among these, nor the one after them, is not among them all
pub among_last : (ns : List Name) (n m : Name) → among ns m ≡ false → bytes_eq n m ≡ false → among (ns ++ n ∷ []) m ≡ false
among_last [] n m e f = ap (λ b. b || false) f
among_last (k ∷ ns) n m e f = go (bytes_eq k m) e (λ g. among_last ns n m g f)
  where
    go : (b : Bool) → (b || among ns m) ≡ false → (among ns m ≡ false → among (ns ++ n ∷ []) m ≡ false) → (b || among (ns ++ n ∷ []) m) ≡ false
    go true g rest = cc
    go false g rest = rest g

-- a list of two by its places
pub two_of_length : {A : Type 0} (xs : List A) (d : A) → length xs ≡ 2 → xs ≡ get_or xs 0 d ∷ get_or xs 1 d ∷ []
two_of_length (x ∷ y ∷ []) d e = refl
two_of_length _ d e = absurd (omega (arith, e))
