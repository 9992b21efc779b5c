-- The declared symbols of signatures, and names with more declarations.
use Rattle.std.proofs.Common.{◌≡◌, Bool, true, false, cond, List, [], ◌∷◌, ◌++◌, map, Some, None, refl, ap, ◌∙◌}
use Rattle.std.specs.Str.{bytes_eq}
use Rattle.std.proofs.lemmas.List.{append-nil}
use Rattle.spec_text.specs.Bytes.{Name}
use Rattle.spec_sorts.specs.Signatures.{Definition, Known, known_name, declared, defined, of_sort, of_function, Signature, known_as, sort_as, symbols_in, definition, with_definitions}

-- the symbols of two signatures, one after the other
pub symbols_append : (s t : Signature) → symbols_in (s ++ t) ≡ symbols_in s ++ symbols_in t
symbols_append [] t = refl
symbols_append (of_sort n u ∷ s) t = symbols_append s t
symbols_append (of_function (declared f) ∷ s) t = ap (λ fs. f ∷ fs) (symbols_append s t)
symbols_append (of_function (defined d) ∷ s) t = symbols_append s t

-- definitions declare no symbols
none_declared : (ds : List Definition) → symbols_in (map definition ds) ≡ []
none_declared [] = refl
none_declared (d ∷ ds) = none_declared ds

-- and change none
pub symbols_with : (s : Signature) (ds : List Definition) → symbols_in (with_definitions s ds) ≡ symbols_in s
symbols_with s ds = symbols_append s (map definition ds) ∙ ap (λ fs. symbols_in s ++ fs) (none_declared ds) ∙ append-nil (symbols_in s)

-- a name that is not known yet is found after that
pub known_behind : (s t : Signature) (n : Name) → known_as s n ≡ None → known_as (s ++ t) n ≡ known_as t n
known_behind [] t n e = refl
known_behind (of_sort m r ∷ s) t n e = known_behind s t n e
known_behind (of_function k ∷ s) t n e = go (bytes_eq (known_name k) n) e (known_behind s t n)
  where
    go : (b : Bool) → cond b (Some k) (known_as s n) ≡ None → (known_as s n ≡ None → known_as (s ++ t) n ≡ known_as t n) → cond b (Some k) (known_as (s ++ t) n) ≡ known_as t n
    go true h rest = cc
    go false h rest = rest h

-- a function names no sort
pub sort_same : (s : Signature) (k : Known) (n : Name) → sort_as (s ++ of_function k ∷ []) n ≡ sort_as s n
sort_same [] k n = refl
sort_same (of_sort m u ∷ s) k n = ap (λ o. cond (bytes_eq m n) (Some u) o) (sort_same s k n)
sort_same (of_function j ∷ s) k n = sort_same s k n
