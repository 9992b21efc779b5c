-- A table's terms can be printed.
use Rattle.std.proofs.Common.{◌≡◌, ℕ, suc, ◌<◌, take, drop, List, ◌∷◌, ◌++◌, length, Some, Contains, sym, ap, ◌∙◌, arith}
use Rattle.std.specs.List.{slice_get}
use Rattle.std.proofs.Math.Seq.{drop-cons}
use Rattle.std.proofs.lemmas.List.{get_or-take, length-take-le, take-append-drop}
use Rattle.std.proofs.lemmas.Option.{slice_get_within, slice_get-get_or, get_or_from_slice_get}
use Rattle.spec_sorts.specs.Terms.{Term, no_term}
use Rattle.spec_sorts.specs.Signatures.{Signature}
use Rattle.spec_sorts.specs.Subsets.{arguments_of, AreAmong}
use Rattle.spec_derivations.specs.Derivations.{Derivation}
use Rattle.spec_proof_texts.specs.Plans.{IsPrinted}
use Rattle.spec_proof_texts.specs.Printable.{IsPrintable, ArePrintable}
use Rattle.term_core.specs.Tables.{TableView, AreDifferent}

-- a term of a list by its number
pub number_in : (terms : List Term) (u : Term) → Contains terms u → (j : ℕ) × (slice_get terms j ≡ Some u)
number_in terms u c = (c.0, slice_get-get_or terms c.0 u c.1 ∙ ap Some c.2)

split_there : (terms : List Term) (k : ℕ) (u : Term) → slice_get terms k ≡ Some u → terms ≡ take k terms ++ u ∷ drop (suc k) terms
split_there terms k u e =
    sym (take-append-drop k terms) ∙ ap (λ l. take k terms ++ l) (drop-cons terms k u (slice_get_within terms k u e) ∙ ap (λ v. v ∷ drop (suc k) terms) (get_or_from_slice_get terms k u u e))

module _ (t : TableView) (apart : AreDifferent t.terms) (first : (before after : List Term) (u : Term) → t.terms ≡ before ++ u ∷ after → AreAmong (arguments_of u) before) where
  pub argument_before : (k : ℕ) (v u : Term) → slice_get t.terms k ≡ Some v → Contains (arguments_of v) u → (j : ℕ) × (j < k) × (slice_get t.terms j ≡ Some u)
  argument_before k v u e a =
      let c : Contains (take k t.terms) u = first (take k t.terms) (drop (suc k) t.terms) v (split_there t.terms k v e) u a in
      let within : k < length t.terms = slice_get_within t.terms k v e in
      let less : c.0 < k = omega (arith, c.1, length-take-le k t.terms (omega (arith, within))) in
      (c.0, less, slice_get-get_or t.terms c.0 u (omega (arith, less, within)) ∙ ap Some (sym (get_or-take k t.terms c.0 u less) ∙ c.2))

  pub all_printable : (g : Signature) (d : Derivation) (n : ℕ) → ((u : Term) → IsPrinted d n u → IsPrintable g u) → ArePrintable g t.terms d n
  all_printable g d n each = record {
    apart = λ i j u e f. apart i j (slice_get_within t.terms i u e) (slice_get_within t.terms j u f) (get_or_from_slice_get t.terms i u no_term e ∙ sym (get_or_from_slice_get t.terms j u no_term f));
    before = argument_before;
    each = each;
  }
