-- The arguments that were collected are a prefix of all arguments.
use Rattle.std.proofs.Common.{◌≡◌, sym, subst, ap, ◌∙◌, ℕ, List, [], ◌∷◌, ◌++◌, length, map, slice_get, Option, Some, None, Ok, IfSome, Global, String, string_bytes}
use Rattle.std.proofs.lemmas.List.{length-map, map-append}
use Rattle.std.specs.Prelude.{unwrap_or}
use Rattle.smt_top.specs.CommandLine.{GivesArgument}

-- these are a prefix of all arguments, where those are known
abbrev pub ArePrefix : Option (List (List ℕ)) → List (List ℕ) → Type 0
ArePrefix known prefix = IfSome known (λ all. (after : List (List ℕ)) × (prefix ++ after ≡ all))

-- the argument at the place after a prefix makes it longer
longer : (prefix after : List (List ℕ)) (x : List ℕ) → slice_get (prefix ++ after) (length prefix) ≡ Some x → (others : List (List ℕ)) × ((prefix ++ x ∷ []) ++ others ≡ prefix ++ after)
longer [] [] x e = cc
longer [] (y ∷ after) x e = (after, ap (λ a. a ∷ after) (sym (ap (λ o. unwrap_or o x) e)))
longer (y ∷ prefix) after x e = let l = longer prefix after x e in (l.0, ap (λ xs. y ∷ xs) l.1)

-- the same, where the arguments are known
longer_known : (known : Option (List (List ℕ))) (prefix : List (List ℕ)) (x : List ℕ) → ArePrefix known prefix → IfSome known (λ all. slice_get all (length prefix) ≡ Some x) → ArePrefix known (prefix ++ x ∷ [])
longer_known None prefix x are next = are
longer_known (Some all) prefix x (after, e) next =
    let l = longer prefix after x (ap (λ xs. slice_get xs (length prefix)) e ∙ next) in
    (l.0, l.1 ∙ e)

-- none
pub none_are_prefix : (known : Option (List (List ℕ))) (prefix : List (String Global)) → prefix ≡ [] → ArePrefix known (map string_bytes prefix)
none_are_prefix None prefix e = tt
none_are_prefix (Some all) prefix e = (all, ap (λ xs. map string_bytes xs ++ all) e)

-- one more
pub more_are_prefix : (known : Option (List (List ℕ))) (old new : List (String Global)) (x : String Global) (place : ℕ) → ArePrefix known (map string_bytes old) → place ≡ length old → GivesArgument known place (Ok (Some x)) → new ≡ old ++ x ∷ [] → ArePrefix known (map string_bytes new)
more_are_prefix known old new x place are at given more =
    subst (ArePrefix known) (sym (ap (map string_bytes) more ∙ map-append string_bytes old (x ∷ [])))
    (longer_known known (map string_bytes old) (string_bytes x) are
    (subst (λ n. GivesArgument known n (Ok (Some x))) (at ∙ sym (length-map old string_bytes)) given))
