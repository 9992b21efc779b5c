-- Assertions and names that come last.
use Rattle.std.proofs.Common.{◌≡◌, List, [], ◌∷◌, ◌++◌, Some, refl, ap, ◌∙◌, if◌then◌else◌}
use Rattle.std.proofs.lemmas.List.{map-append}
use Rattle.std.specs.Str.{bytes_eq}
use Rattle.spec_text.specs.Bytes.{Name}
use Rattle.spec_sorts.specs.Signatures.{Definition, of_sort, of_function, Signature, sort_as, definition}
use Rattle.spec_sorts.specs.Signatures as signatures
use Rattle.spec_commands.specs.Stack.{Assertion, Stack, joined, terms_asserted, with_last, with_declaration, with_definitions}
use Rattle.spec_commands.proofs.Kept.{joined_last}
use Rattle.assertion_stack.specs.Assertions.{as_written, all_written}

-- definitions more change nothing but the names
pub rest_with : (s : Stack) (ds : List Definition) → with_definitions s ds ≡ record s { names = (with_definitions s ds).names }
rest_with s [] = refl
rest_with s (d ∷ ds) = rest_with (with_declaration s (definition d)) ds

-- definitions name no sorts
pub sorts_with : (s : Signature) (ds : List Definition) (n : Name) → sort_as (signatures.with_definitions s ds) n ≡ sort_as s n
sorts_with [] [] n = refl
sorts_with [] (d ∷ ds) n = sorts_with [] ds n
sorts_with (of_sort m r ∷ s) ds n = ap (λ o. if bytes_eq m n then Some r else o) (sorts_with s ds n)
sorts_with (of_function k ∷ s) ds n = sorts_with s ds n

-- the terms with one more
pub terms_last : (ls : List (List Assertion)) (a : Assertion) → terms_asserted (joined (with_last ls a)) ≡ terms_asserted (joined ls) ++ a.term ∷ []
terms_last ls a = ap terms_asserted (joined_last ls a) ∙ map-append (λ (x : Assertion). x.term) (joined ls) (a ∷ [])

-- and how they are written
pub written_last : (ls : List (List Assertion)) (a : Assertion) → all_written (joined (with_last ls a)) ≡ all_written (joined ls) ++ as_written a.text ∷ []
written_last ls a = ap all_written (joined_last ls a) ∙ map-append (λ (x : Assertion). as_written x.text) (joined ls) (a ∷ [])
