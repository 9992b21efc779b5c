-- The unsat core of a check, and the assumptions that its proof rests on: both are told by the terms that the proof's
-- text assumes. Source: SMT-LIB 2.6, section 4.2.7; which of equal terms is named, and that a term which needs no name
-- has none, is own.
use Rattle.std.specs.Prelude.{ℕ, Bool, true, not, ◌||◌, ◌&&◌, List, [], ◌∷◌, ◌++◌, Option, Some, None}
use Rattle.std.specs.Prelude.{if◌then◌else◌}
use Rattle.std.specs.List.{filter}
use Rattle.spec_text.specs.Bytes.{Name, among}
use Rattle.spec_sorts.specs.Terms.{Term}
use Rattle.spec_sorts.specs.Subterms.{has_term}
use Rattle.spec_commands.specs.Labels.{label_of}
use Rattle.spec_commands.specs.Stack.{Assertion, assertions_of, terms_asserted}
use Rattle.spec_commands.specs.Checks.{Check}
use Rattle.spec_checking.specs.Commands.{known_at}
use Rattle.spec_checking.specs.Assumes.{assumed_in}

-- a term more, where its assertion has no name
abbrev pub unnamed_by : Option Name → Term → List Term → List Term
unnamed_by None t ts = t ∷ ts
unnamed_by (Some n) t ts = ts

-- the terms of the assertions without a name
abbrev pub unnamed : List Assertion → List Term
unnamed [] = []
unnamed (a ∷ rest) = unnamed_by (label_of a.text) a.term (unnamed rest)

-- the name of an assertion, where it has one and this is of the core, before those of the assertions after it; of
-- these it says which terms had a name before
abbrev pub named_by : Option Name → Bool → (List Term → List Name) → List Term → Term → List Name
named_by None core rest seen t = rest seen
named_by (Some n) core rest seen t = if core then n ∷ rest (t ∷ seen) else rest (t ∷ seen)

-- the names of the assertions whose term is assumed, and is neither that of an assertion without a name nor of a named
-- one before
unfoldable pub names_from : (assumed without_name seen : List Term) → List Assertion → List Name
names_from assumed without_name seen [] = []
names_from assumed without_name seen (a ∷ rest) =
    named_by (label_of a.text)
    (has_term assumed a.term && not (has_term without_name a.term || has_term seen a.term))
    (λ seen. names_from assumed without_name seen rest) seen a.term

-- the names of the core, in the order of the assertions
abbrev pub core_names : List Term → List Assertion → List Name
core_names assumed assertions = names_from assumed (unnamed assertions) [] assertions

-- the literals whose term is assumed, and is neither that of an assertion nor of a literal before
unfoldable pub literals_from : (assumed seen : List Term) → List Assertion → List Assertion
literals_from assumed seen [] = []
literals_from assumed seen (l ∷ ls) =
    if has_term assumed l.term && not (has_term seen l.term) then l ∷ literals_from assumed (l.term ∷ seen) ls
    else literals_from assumed (l.term ∷ seen) ls

-- the literals that count besides assertions, in their order
abbrev pub core_literals : List Term → List Assertion → List Assertion → List Assertion
core_literals assumed assertions ls = literals_from assumed (terms_asserted assertions) ls

-- the unsat core of a check, by the text of its proof
abbrev pub core_of : Check → List ℕ → List Name
core_of c text = core_names (assumed_in (known_at c) text) (assertions_of c.stack)

-- the assumptions of a check that the text of its proof rests on
abbrev pub assumptions_of : Check → List ℕ → List Assertion
assumptions_of c text = core_literals (assumed_in (known_at c) text) (assertions_of c.stack) c.assumptions

-- an assertion stays that has no name, or one of these
abbrev pub stays : List Name → Option Name → Bool
stays names None = true
stays names (Some n) = among names n

-- the assertions without those that have another name
abbrev pub without_others : List Name → List Assertion → List Assertion
without_others names assertions = filter (λ (a : Assertion). stays names (label_of a.text)) assertions

-- what a check asks about but for the named assertions that are not of its core
abbrev pub asked_by_core : Check → List ℕ → List Assertion
asked_by_core c text = without_others (core_of c text) (assertions_of c.stack) ++ c.assumptions

-- and but for the assumptions that its proof does not rest on
abbrev pub asked_by_assumptions : Check → List ℕ → List Assertion
asked_by_assumptions c text = assertions_of c.stack ++ assumptions_of c text
