-- The terms that printed assumes have are marked, from the last clause on.
use Rattle.std.proofs.Common.{◌≡◌, ℕ, zero, suc, ◌+◌, ◌<◌, ◌≤◌, Bool, true, false, ◌||◌, inl, inr, List, [], ◌∷◌, length, drop, get_or, Contains, Option, Some, None, refl, sym, ap, ◌∙◌, subst, arith}
use Rattle.std.specs.Prelude.{MatchBool, slice_index_or, replicate}
use Rattle.std.proofs.lemmas.Bool.{false≢true, cases_eq}
use Rattle.std.proofs.lemmas.List.Elements.{All-contains}
use Rattle.std.proofs.lemmas.List.{drop_more, drop_all, get_or-map, length-map}
use Rattle.spec_text.proofs.Members.{first, only}
use Rattle.spec_sorts.specs.Terms.{Term, no_term, same_term}
use Rattle.spec_sorts.specs.Subterms.{has_term}
use Rattle.spec_sorts.proofs.SameTerms.{terms_decide}
use Rattle.spec_derivations.specs.Derivations.{«assumption», by_rule, Derivation}
use Rattle.spec_proof_texts.specs.Plans.{terms_planned}
use Rattle.term_core.specs.declared.ids.TermId.{TermId}
use Rattle.term_core.specs.Tables.{TableView, term_at, IsIn, AreDifferent}
use Rattle.proof_log.specs.Logs.{Logged, named, no_logged, inference_of, derivation_in, IsFormulaIn, IsLogOf}
use Rattle.proof_log.specs.Logs as logged
use Rattle.alethe_writer.specs.Marks.{IsNumberMarked, plain_numbers, MarksNumbers}
use Rattle.alethe_writer.specs.Assumes.{SaysWhether, is_printed_assume}

-- a truth value is true or not
same_truth : (a b : Bool) → (a ≡ true → b ≡ true) → (b ≡ true → a ≡ true) → a ≡ b
same_truth true b f g = sym (f refl)
same_truth false true f g = absurd (false≢true (g refl))
same_truth false false f g = refl

or_second : (a b : Bool) → b ≡ true → a || b ≡ true
or_second true b e = refl
or_second false b e = e

-- one term more is marked
pub one_more : (t : TableView) → AreDifferent t.terms → (ts : List Term) (id : TermId) (old new : List Bool) → IsIn t id → MarksNumbers old (plain_numbers (id ∷ [])) new → SaysWhether t (has_term ts) old → SaysWhether t (has_term (term_at t id ∷ ts)) new
one_more t apart ts id old new there m h = record {
  as_many = m.same_length ∙ h.as_many;
  each = λ k lt. elim (cases_eq k id.0) [
    | inl same ↦
        let now : get_or new k false ≡ true = subst (IsNumberMarked new) (sym same) (m.there id.0 (first id.0 [])) in
        let is : term_at t id ≡ slice_index_or t.terms k no_term = ap (λ n. slice_index_or t.terms n no_term) (sym same) in
        now ∙ sym (ap (λ b. b || has_term ts (slice_index_or t.terms k no_term)) ((terms_decide (term_at t id) (slice_index_or t.terms k no_term)).1 is))
    | inr differ ↦ other k lt differ (same_term (term_at t id) (slice_index_or t.terms k no_term)) refl
  ];
}
  where
    other : (k : ℕ) → k < length t.terms → (k ≡ id.0 → ⊥) → (b : Bool) → same_term (term_at t id) (slice_index_or t.terms k no_term) ≡ b → get_or new k false ≡ b || has_term ts (slice_index_or t.terms k no_term)
    other k lt differ true e = absurd (differ (sym (apart id.0 k there lt ((terms_decide (term_at t id) (slice_index_or t.terms k no_term)).0 e))))
    other k lt differ false e = same_truth (get_or new k false) (get_or old k false) (λ is. elim (m.no_others k is) [
      | inl early ↦ early
      | inr c ↦ absurd (differ (sym (only id.0 k c)))
    ]) (m.kept k) ∙ h.each k lt

-- the assumes from a clause on are those from the one after it, and its own
abbrev pub From : TableView → List Logged → List (Option ℕ) → ℕ → List Term
From t log numbers k = terms_planned (drop k (derivation_in t log)) (drop k numbers)

from_more : (t : TableView) (log : List Logged) (numbers : List (Option ℕ)) (k : ℕ) → k < length log → k < length numbers
    → From t log numbers k ≡ terms_planned (inference_of t (slice_index_or log k no_logged) ∷ drop (k + 1) (derivation_in t log)) (get_or numbers k None ∷ drop (k + 1) numbers)
from_more t log numbers k lt le =
    let within : k < length (derivation_in t log) = omega (arith, lt, length-map log (inference_of t)) in
    let d = inference_of t no_logged in
    (λ i. terms_planned (drop_more (derivation_in t log) k d within i) (drop_more numbers k None le i))
    ∙ ap (λ x. terms_planned (x ∷ drop (k + 1) (derivation_in t log)) (get_or numbers k None ∷ drop (k + 1) numbers)) (get_or-map (inference_of t) log k no_logged d lt)

-- one clause is marked, or it is printed as no assume
pub marked_from : (t : TableView) → AreDifferent t.terms → (log : List Logged) (numbers : List (Option ℕ)) (k : ℕ) (wanted : Bool) (old new : List Bool) → ((id : TermId) → Contains (named (slice_index_or log k no_logged)) id → IsIn t id)
    → k < length log → k < length numbers → wanted ≡ is_printed_assume (get_or numbers k None) (slice_index_or log k no_logged)
    → MatchBool wanted (MarksNumbers old (plain_numbers (named (slice_index_or log k no_logged))) new) (new ≡ old)
    → SaysWhether t (has_term (From t log numbers (k + 1))) old → SaysWhether t (has_term (From t log numbers k)) new
marked_from t apart log numbers k wanted old new there lt le is m h =
    subst (λ ts. SaysWhether t (has_term ts) new) (sym (from_more t log numbers k lt le)) (go (slice_index_or log k no_logged) there (get_or numbers k None) wanted is m)
  where
    rest : List Term
    rest = From t log numbers (k + 1)

    same : new ≡ old → SaysWhether t (has_term rest) new
    same e = subst (SaysWhether t (has_term rest)) (sym e) h

    go : (l : Logged) → ((id : TermId) → Contains (named l) id → IsIn t id) → (n : Option ℕ) (w : Bool) → w ≡ is_printed_assume n l → MatchBool w (MarksNumbers old (plain_numbers (named l)) new) (new ≡ old) → SaysWhether t (has_term (terms_planned (inference_of t l ∷ drop (k + 1) (derivation_in t log)) (n ∷ drop (k + 1) numbers))) new
    go (logged.assumed id) inside (Some n) true e m = one_more t apart rest id old new (inside id (first id [])) m h
    go (logged.assumed id) inside (Some n) false e m = absurd (false≢true e)
    go (logged.stepped r ps qs c) inside (Some n) true e m = absurd (false≢true (sym e))
    go (logged.stepped r ps qs c) inside (Some n) false e m = same m
    go (logged.assumed id) inside None true e m = absurd (false≢true (sym e))
    go (logged.assumed id) inside None false e m = same m
    go (logged.stepped r ps qs c) inside None true e m = absurd (false≢true (sym e))
    go (logged.stepped r ps qs c) inside None false e m = same m

-- nothing comes after the last number
pub from_end : (t : TableView) (log : List Logged) (numbers : List (Option ℕ)) (k : ℕ) → length numbers ≤ k → From t log numbers k ≡ []
from_end t log numbers k le = ap (terms_planned (drop k (derivation_in t log))) (drop_all k numbers le) ∙ none_planned (drop k (derivation_in t log))
  where
    none_planned : (d : Derivation) → terms_planned d [] ≡ []
    none_planned [] = refl
    none_planned («assumption» u ∷ d) = refl
    none_planned (by_rule r ps given c ∷ d) = refl

-- the literals of a clause are of the table
pub named_inside : (t : TableView) (log : List Logged) → IsLogOf t log → (k : ℕ) → k < length log → (id : TermId) → Contains (named (slice_index_or log k no_logged)) id → IsIn t id
named_inside t log right k lt id c = (All-contains (IsFormulaIn t) (named (slice_index_or log k no_logged)) id (right.formulas k no_logged lt) c).0

-- nothing is marked at first
pub none_marked : (t : TableView) (marks : List Bool) → length marks ≡ length t.terms → ((k : ℕ) → get_or marks k false ≡ false) → SaysWhether t (has_term []) marks
none_marked t marks long none = record { as_many = long; each = λ k lt. none k }

pub unmarked : (n k : ℕ) → get_or (replicate n false) k false ≡ false
unmarked zero k = refl
unmarked (suc n) zero = refl
unmarked (suc n) (suc k) = unmarked n k
