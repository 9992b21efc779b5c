-- That what a check asks about may be asked.
use Rattle.std.proofs.Common.{◌≡◌, ℕ, List, [], ◌++◌, All, Contains, inl, inr, sym, ◌∙◌, subst, arith}
use Rattle.std.proofs.lemmas.List.{append-nil, length-map, get_or-map, map-append}
use Rattle.std.proofs.lemmas.List.Elements.{All-append, All-map, All-weaker, recursion_from_All}
use Rattle.spec_sorts.specs.Terms.{Equal, Term, pair}
use Rattle.spec_sorts.specs.Values.{Interpretation}
use Rattle.spec_sorts.specs.TermValues.{value_at}
use Rattle.spec_sorts.specs.Signatures.{symbols_in}
use Rattle.spec_sorts.specs.Meaning.{value_under}
use Rattle.spec_sorts.specs.WellSorted.{IsFormulaOver}
use Rattle.spec_commands.specs.Stack.{Assertion, Stack, signature_of, assertions_of, terms_asserted}
use Rattle.spec_commands.specs.Checks.{Check, asked}
use Rattle.spec_commands.specs.Kept.{AreSoundNames}
use Rattle.spec_commands.proofs.Carried.{here}
use Rattle.spec_commands.proofs.Kept.{sound_values, sound_formulas}
use Rattle.spec_commands.proofs.Asked.{asked_sound}
use Rattle.spec_arithmetic.specs.Numbers.{IsLinear}
use Rattle.spec_proof_texts.specs.ReadBack.{AreScriptNames, HaveScriptNames}
use Rattle.spec_proof_texts.specs.Readable.{HasDecimals, IsReadableWhole, IsReadableDeclaration, AreReadable, HaveReadableDefinitions}
use Rattle.spec_proof_texts.proofs.Readings.{ReadDecimals}
use Rattle.spec_proof_texts.proofs.Stacks.{sound_readable}
use Rattle.spec_proof_texts.proofs.Search.{argument_readable}
use Rattle.spec_derivations.specs.Problems.{known_terms, subterms_in}
use Rattle.spec_derivations.specs.Examples.{asserting, speaking}
use Rattle.spec_derivations.proofs.Below.{subterms_have}
use Rattle.spec_interfaces.specs.Interfaces.{IsInterfaceEquality}
use Rattle.spec_sessions.specs.Meaning.{IsKeptCheck}
use Rattle.term_core.specs.declared.ids.TermId.{TermId}
use Rattle.term_core.specs.Tables.{TableView, IsIn, term_at, clause_at}
use Rattle.proof_log.specs.Logs.{AreFormulasIn}
use Rattle.assertion_stack.specs.declared.stack.Stack.{Stack as CodeStack}
use Rattle.assertion_stack.specs.Stacks.{over_table, AreAssumed}
use Rattle.search_loop.specs.Answered.{AreAnswered}
use Rattle.solve_core.proofs.SearchAgreed.{shared_subterm}
use Rattle.check_evidence.specs.Evidence.{IsHeldCheck}

-- what can be read back up to each level can at the last one
pub readable_here : (s : Stack) → HaveReadableDefinitions s → AreReadable (signature_of s)
readable_here s h = here (λ g assertions. AreReadable g) s h

-- and so can names be printed
pub names_here : (s : Stack) → HaveScriptNames s → AreScriptNames (signature_of s)
names_here s h = here (λ g assertions. AreScriptNames g) s h

-- the terms of assertions can be read where each of these can
terms_readable : (xs : List Assertion) → All (λ (a : Assertion). IsReadableWhole a.term) xs → All IsReadableWhole (terms_asserted xs)
terms_readable xs each = All-map IsReadableWhole (λ (a : Assertion). a.term) xs each

-- what was left for a check
module _ (limit : ℕ) (c : Check) (kept : IsKeptCheck limit c) where
  -- all that it asks about was read
  kept_sound : AreSoundNames limit (signature_of c.stack) (asked c)
  kept_sound = asked_sound limit c kept.stack kept.assumptions

  -- so each text has its term's value
  pub kept_values : (i : Interpretation) → All (λ (a : Assertion). value_under i (signature_of c.stack) a.text ≡ value_at i [] a.term) (asked c)
  kept_values i = sound_values limit (signature_of c.stack) (asked c) i kept_sound

  -- each term is a formula
  kept_formulas : All (λ (a : Assertion). IsFormulaOver (symbols_in (signature_of c.stack)) a.term) (asked c)
  kept_formulas = sound_formulas limit (signature_of c.stack) (asked c) kept_sound

  -- and can be read where the definitions can
  pub kept_readable : ReadDecimals → AreReadable (signature_of c.stack) → All IsReadableWhole (terms_asserted (asked c))
  kept_readable decimal readable =
      terms_readable (asked c) (sound_readable decimal limit (signature_of c.stack) (asked c) kept_sound (recursion_from_All IsReadableDeclaration (signature_of c.stack) readable))

-- what represents a check
module _ (limit : ℕ) (t : TableView) (x : CodeStack) (assumed : List TermId) (c : Check) (h : IsHeldCheck limit (over_table t x) assumed c) where
  -- commands left it
  pub held_kept : IsKeptCheck limit c
  held_kept = record { stack = h.held.sound; assumptions = h.read; names = h.held.names }

  -- the numbers of all that it asks about
  abbrev pub roots : List TermId
  roots = x.assertions.ids ++ assumed

  -- are those of its terms
  pub roots_are : AreAssumed t roots (asked c)
  roots_are =
      let states = h.held.stack.states in record {
        inside = All-append (IsIn t) x.assertions.ids assumed states.inside h.assumed_are.inside;
        terms = map-append (term_at t) x.assertions.ids assumed ∙ (λ i. states.terms i ++ h.assumed_are.terms i) ∙ sym (map-append (λ (a : Assertion). a.term) (assertions_of c.stack) c.assumptions);
      }

  -- which are formulas
  pub roots_formulas : AreFormulasIn t roots
  roots_formulas =
      let over = subst (λ fs. All (IsFormulaOver fs) (terms_asserted (asked c))) (sym h.held.stack.states.symbols)
      (All-map (IsFormulaOver (symbols_in (signature_of c.stack))) (λ (a : Assertion). a.term) (asked c) (kept_formulas limit c held_kept)) in
      let here : All (IsFormulaOver t.symbols) (clause_at t roots) = subst (All (IsFormulaOver t.symbols)) (sym roots_are.terms) over in
      λ k d lt. (roots_are.inside k d lt, subst (IsFormulaOver t.symbols) (get_or-map (term_at t) roots k d (term_at t d) lt) (here k (term_at t d) (omega (arith, length-map roots (term_at t), lt))))

  -- for which the search answers
  pub roots_answered : ReadDecimals → AreAnswered (clause_at t roots)
  roots_answered decimal =
      subst AreAnswered (sym roots_are.terms) (All-weaker IsReadableWhole IsLinear (λ u r. r.0) (terms_asserted (asked c)) (kept_readable limit c held_kept decimal (readable_here c.stack h.held.readable)))

-- subterms of terms that can be read can be read
subterm_readable : (ts : List Term) → All IsReadableWhole ts → (u : Term) → Contains (subterms_in (asserting ts)) u → IsReadableWhole u
subterm_readable ts each = subterms_have IsReadableWhole argument_readable (ts ++ []) (subst (All IsReadableWhole) (sym (append-nil ts)) each)

-- an equality can be read where its sides can
pair_readable : (s t : Term) → IsReadableWhole s → IsReadableWhole t → IsReadableWhole (pair Equal s t)
unfolding IsLinear HasDecimals
pair_readable s t a b = ((tt, (a.0, (b.0, tt))), (tt, (a.1, (b.1, tt))))

-- so can those of which a search speaks: their sides are subterms
equality_readable : (ts : List Term) → All IsReadableWhole ts → (u : Term) → IsInterfaceEquality (subterms_in (asserting ts)) u → IsReadableWhole u
equality_readable ts each u (inl h) =
    let left = subterm_readable ts each h.left (shared_subterm (asserting ts) h.left h.left_shared) in
    let right = subterm_readable ts each h.right (shared_subterm (asserting ts) h.right h.right_shared) in
    subst IsReadableWhole (sym h.is) (pair_readable h.left h.right left right)
equality_readable ts each u (inr h) =
    subst IsReadableWhole (sym h.is) (pair_readable h.left h.right (subterm_readable ts each h.left h.left_in) (subterm_readable ts each h.right h.right_in))

-- so all that the search knows of can be read
pub known_readable : (ts interface : List Term) → All IsReadableWhole ts → All (IsInterfaceEquality (subterms_in (asserting ts))) interface → All IsReadableWhole (known_terms (speaking ts interface))
known_readable ts interface each equalities =
    All-append IsReadableWhole interface (ts ++ []) (All-weaker (IsInterfaceEquality (subterms_in (asserting ts))) IsReadableWhole (equality_readable ts each) interface equalities)
    (subst (All IsReadableWhole) (sym (append-nil ts)) each)
