-- What a clause depends on, by marks.
use Rattle.std.proofs.Common.{◌≡◌, ℕ, suc, ◌<◌, ◌+◌, inl, inr, Bool, List, [], ◌∷◌, ◌++◌, length, take, get_or, Contains, sym, ap, ◌∙◌, subst, refl, arith}
use Rattle.std.proofs.lemmas.List.{get_or-map, take_more, map-append}
use Rattle.std.proofs.lemmas.List.Elements.{All-contains}
use Rattle.spec_text.proofs.Members.{from_image}
use Rattle.spec_derivations.specs.Derivations.{Derivation, premises_of, inference_at, no_inference, DependsOn, itself, by_premise}
use Rattle.spec_derivations.proofs.Spending.{depends_onward}
use Rattle.spec_proof_texts.specs.Plans.{IsSupport}
use Rattle.term_core.specs.Tables.{TableView}
use Rattle.proof_log.specs.declared.premises.StepId.{StepId}
use Rattle.proof_log.specs.Logs.{Logged, assumed, stepped, no_logged, premises_in, numbers_of, inference_of, derivation_in, AreEarlier}
use Rattle.alethe_writer.specs.Marks.{IsNumberMarked, MarksNumbers, Reaches, root, onward}
use Rattle.alethe_writer.proofs.Closing.{IsClosedFrom, closing_start, closing_more, closing_end, only_one}

-- the clause that is begun with
abbrev pub IsIt : ℕ → ℕ → Type 0
IsIt n k = n ≡ k

-- a premise of a clause
abbrev pub IsPremise : Derivation → ℕ → ℕ → Type 0
IsPremise d j k = Contains (premises_of (inference_at d j)) k

-- the numbers up to here, and one more
pub numbers_more : (ids : List StepId) (k : ℕ) → k < length ids → numbers_of (take (k + 1) ids) ≡ numbers_of (take k ids) ++ (get_or ids k (record { 0 = 0 })).0 ∷ []
numbers_more ids k lt = ap numbers_of (take_more ids k (record { 0 = 0 }) lt) ∙ map-append (λ (s : StepId). s.0) (take k ids) (get_or ids k (record { 0 = 0 }) ∷ [])

premises_same : (t : TableView) (l : Logged) → premises_of (inference_of t l) ≡ numbers_of (premises_in l)
premises_same t (assumed id) = refl
premises_same t (stepped r ps qs c) = refl

premises_there : (t : TableView) (log : List Logged) (n : ℕ) → n < length log → premises_of (inference_at (derivation_in t log) n) ≡ numbers_of (premises_in (get_or log n no_logged))
premises_there t log n lt = ap premises_of (get_or-map (inference_of t) log n no_logged no_inference lt) ∙ premises_same t (get_or log n no_logged)

-- premises are earlier
pub earlier : (log : List Logged) (n : ℕ) → AreEarlier log → n < length log → (j : ℕ) → Contains (numbers_of (premises_in (get_or log n no_logged))) j → j < n
earlier log n before lt j c =
    let x = from_image (λ (s : StepId). s.0) (premises_in (get_or log n no_logged)) j c in
    let y : x.0.0 < n = All-contains (λ (s : StepId). s.0 < n) (premises_in (get_or log n no_logged)) x.0 (before n lt) x.1 in
    omega (arith, y, x.2)

pub support_start : (d : Derivation) (n : ℕ) (old new : List Bool) → ((k : ℕ) → IsNumberMarked old k → ⊥) → MarksNumbers old (n ∷ []) new → IsClosedFrom (IsIt n) (IsPremise d) (length new) new
support_start d n old new empty m = closing_start (IsIt n) (IsPremise d) new (λ k e. m.there k (subst (Contains (n ∷ [])) e (0, omega arith, refl))) (λ k e. elim (m.no_others k e) [
  | inl early ↦ absurd (empty k early)
  | inr c ↦ only_one n k c
])

pub support_more : (t : TableView) (log : List Logged) (start n : ℕ) (old new : List Bool) → AreEarlier log → n < length log → IsClosedFrom (IsIt start) (IsPremise (derivation_in t log)) (suc n) old → IsNumberMarked old n → MarksNumbers old (numbers_of (premises_in (get_or log n no_logged))) new → IsClosedFrom (IsIt start) (IsPremise (derivation_in t log)) n new
support_more t log start n old new before lt h here m =
    let same = premises_there t log n lt in
    closing_more (IsIt start) (IsPremise (derivation_in t log)) n old new (numbers_of (premises_in (get_or log n no_logged))) h here (λ j c. subst (λ ps. Contains ps j) same c) (λ j c. subst (λ ps. Contains ps j) (sym same) c) (earlier log n before lt) m

reached_depends : (d : Derivation) (n k : ℕ) → Reaches (IsIt n) (IsPremise d) k → DependsOn d n k
reached_depends d n k (root _ e) = subst (DependsOn d n) e (itself n)
reached_depends d n k (onward j _ r next) = depends_onward d n j k (reached_depends d n j r) next

depends_reached : (d : Derivation) (s n m : ℕ) → Reaches (IsIt s) (IsPremise d) n → DependsOn d n m → Reaches (IsIt s) (IsPremise d) m
depends_reached d s n m r (itself _) = r
depends_reached d s n m r (by_premise _ j _ first rest) = depends_reached d s j m (onward n j r first) rest

pub support_end : (d : Derivation) (n : ℕ) (marks : List Bool) → length marks ≡ n + 1 → IsClosedFrom (IsIt n) (IsPremise d) 0 marks → IsSupport d n marks
support_end d n marks up_to h = record {
  up_to = up_to;
  each = λ m r. closing_end (IsIt n) (IsPremise d) marks h m (depends_reached d n n m (root n refl) r);
  only = λ m e. reached_depends d n m (h.sound m e);
}
