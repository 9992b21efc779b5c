-- A tree or a fault that is settled is next in each text that goes on so.
use Rattle.std.proofs.Common.{◌≡◌, ◌≢◌, ◌≤◌, ℕ, false, List, [], ◌++◌, length, Option, Some, None, refl, sym, ap, ◌∙◌, arith, subst, length-append, drop}
use Rattle.spec_text.specs.Lexemes.{Lexeme, lexemes_from}
use Rattle.spec_text.specs.Trees.{Tree, spelled}
use Rattle.spec_text.specs.Faults.{Located, located, first_fault}
use Rattle.spec_text.specs.Readings.{BeginsNoTree, is_of_end}
use Rattle.spec_text.proofs.Blanks.{lexemes_have_no_blank}
use Rattle.spec_text.proofs.Reading.{same_first}
use Rattle.stream_scan.specs.declared.Scan.TheVariants.{Settled}
use Rattle.stream_scan.specs.Next.{Outcome, nothing, unclosed, whole, stops, outcome, next_in, IsNext, IsFault}
use Rattle.stream_scan.specs.Scanning.{scanned_from}
use Rattle.stream_scan.proofs.Outcomes.{IsFinal}
use Rattle.stream_scan.proofs.Scans.{scan_settles, scan_is_final, scan_stays_open}
use Rattle.stream_scan.proofs.Ends.{tree_end}
use Rattle.stream_scan.proofs.FirstTrees.{tree_is_whole, IsWhole, whole_tree, fault_is_first, IsFaultOf}

-- the lexemes of an outcome
abbrev lexemes_of : Outcome → List (ℕ × Lexeme)
lexemes_of (whole xs) = xs
lexemes_of _ = []

-- two texts with the same outcome
module _ (text other : List ℕ) (at : ℕ) (within : at ≤ length other) (same : next_in other at ≡ next_in text at) where
  pub tree_stays : (t : Tree) (ys : List (ℕ × Lexeme)) → lexemes_from text at ≡ spelled t ++ ys → IsNext other at t
  tree_stays t ys e =
      let here : next_in other at ≡ whole (spelled t) = same ∙ ap (outcome 0) e ∙ tree_is_whole t ys in
      let h = whole_tree (lexemes_from other at) (lexemes_have_no_blank 0 at (drop at other)) (subst IsWhole (sym here) tt) in
      let words : spelled h.tree ≡ spelled t = ap lexemes_of (sym (tree_is_whole h.tree h.rest) ∙ ap (outcome 0) (sym h.split) ∙ here) in
      let one = same_first h.tree t [] [] (ap (λ xs. xs ++ []) words) in
      let split : lexemes_from other at ≡ spelled t ++ h.rest = h.split ∙ ap (λ xs. xs ++ h.rest) words in
      let end = tree_end other at t h.rest within split in
      record { first = split ∙ ap (λ xs. spelled t ++ xs) end.1; ends = end.0 }

  -- a fault is no whole s-expression
  fault_is : (f : Located) → IsFault text at f → (o : Outcome) → next_in text at ≡ o → IsFinal o → o ≡ stops f.offset f.fault
  fault_is f b nothing e h = absurd h
  fault_is f b unclosed e h = absurd h
  fault_is f b (whole xs) e h =
      let t = whole_tree (lexemes_from text at) (lexemes_have_no_blank 0 at (drop at text)) (subst IsWhole (sym e) tt) in
      absurd (b.no_tree t.tree t.rest t.split)
  fault_is f b (stops p g) e h =
      let first : first_fault (length text) 0 (lexemes_from text at) ≡ located p g = subst (λ o. IsFaultOf (length text) o (first_fault (length text) 0 (lexemes_from text at))) e (fault_is_first (length text) 0 (lexemes_from text at)) in
      ap outcome_of (sym first ∙ b.fault)
    where
      outcome_of : Option Located → Outcome
      outcome_of (Some l) = stops l.offset l.fault
      outcome_of None = nothing

  no_tree_here : (f : Located) → next_in other at ≡ stops f.offset f.fault → BeginsNoTree (lexemes_from other at)
  no_tree_here f e t ys split =
      let differ : whole (spelled t) ≡ stops f.offset f.fault = sym (tree_is_whole t ys) ∙ ap (outcome 0) (sym split) ∙ e in
      cc

  pub fault_stays : (f : Located) → IsFault text at f → IsFinal (next_in text at) → IsFault other at f
  fault_stays f b end =
      let here : next_in other at ≡ stops f.offset f.fault = same ∙ fault_is f b (next_in text at) refl end in
      record {
        fault = subst (λ o. IsFaultOf (length other) o (first_fault (length other) 0 (lexemes_from other at))) here (fault_is_first (length other) 0 (lexemes_from other at));
        no_end = λ p ys e. refl;
        no_tree = no_tree_here f here;
      }

still_within : (text more : List ℕ) (at : ℕ) → at ≤ length text → at ≤ length (text ++ more)
still_within text more at le = omega (arith, le, length-append text more)

-- a tree that is settled
pub settled_tree_stays : (text : List ℕ) (at : ℕ) (t : Tree) (ys : List (ℕ × Lexeme)) → at ≤ length text → scanned_from text at ≡ Settled → lexemes_from text at ≡ spelled t ++ ys → (more : List ℕ) → IsNext (text ++ more) at t
settled_tree_stays text at t ys within e split more = tree_stays text (text ++ more) at (still_within text more at within) (scan_settles text at within e more) t ys split

-- a fault that is settled
pub settled_fault_stays : (text : List ℕ) (at : ℕ) (f : Located) → at ≤ length text → scanned_from text at ≡ Settled → IsFault text at f → (more : List ℕ) → IsFault (text ++ more) at f
settled_fault_stays text at f within e b more = fault_stays text (text ++ more) at (still_within text more at within) (scan_settles text at within e more) f b (scan_is_final text at e)

-- it says nothing of the end
pub settled_fault_is_inner : (text : List ℕ) (at : ℕ) (f : Located) → at ≤ length text → scanned_from text at ≡ Settled → IsFault text at f → is_of_end f.fault ≡ false
settled_fault_is_inner text at f within e b =
    let end = scan_is_final text at e in
    subst IsFinal (fault_is text text at within refl f b (next_in text at) refl end) end

-- where no lexeme is, nothing is settled
pub settled_is_some : (text : List ℕ) (at : ℕ) → scanned_from text at ≡ Settled → lexemes_from text at ≢ []
unfolding outcome
settled_is_some text at e none = subst (λ xs. IsFinal (outcome 0 xs)) none (scan_is_final text at e)

-- where it is open, no tree is next in each text that goes on so
pub open_has_no_tree : (text : List ℕ) (at : ℕ) (t : Tree) → at ≤ length text → scanned_from text at ≢ Settled → ((more : List ℕ) → IsNext (text ++ more) at t) → ⊥
open_has_no_tree text at t within e h = scan_stays_open text at within e (whole (spelled t)) (λ more. ap (outcome 0) (h more).first ∙ tree_is_whole t _)
