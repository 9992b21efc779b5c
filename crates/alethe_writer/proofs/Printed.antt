-- The terms that are printed for marked clauses, by marks.
use Rattle.std.proofs.Common.{◌≡◌, ℕ, suc, ◌<◌, ◌≤◌, ◌+◌, inl, inr, Bool, true, false, List, [], ◌∷◌, ◌++◌, length, take, get_or, All, Contains, Some, sym, ap, ◌∙◌, subst, refl, arith}
use Rattle.std.specs.Prelude.{MatchBool}
use Rattle.std.specs.List.{slice_get}
use Rattle.std.proofs.lemmas.Bool.{cases_eq, false≢true}
use Rattle.std.proofs.lemmas.List.{get_or-map, take_more, map-append}
use Rattle.std.proofs.lemmas.List.Elements.{All-contains}
use Rattle.std.proofs.lemmas.Option.{slice_get-get_or, slice_get_within, get_or_from_slice_get}
use Rattle.spec_text.proofs.Members.{to_image, from_image}
use Rattle.spec_sorts.specs.Terms.{Term, no_term}
use Rattle.spec_sorts.specs.Subsets.{arguments_of, IsClosed}
use Rattle.spec_derivations.specs.Derivations.{conclusion, conclusion_at, no_inference}
use Rattle.spec_proof_texts.specs.Plans.{IsPrinted, in_clause, as_argument, IsSupport, ArePrinted}
use Rattle.term_core.specs.declared.ids.TermId.{TermId}
use Rattle.term_core.specs.Tables.{TableView, term_at, clause_at, IsIn, AreDifferent, Shape, shape_term}
use Rattle.term_core.proofs.TermsClosed.{argument_of, argument_in}
use Rattle.proof_log.specs.Logs.{Logged, assumed, stepped, named, no_logged, inference_of, derivation_in, IsLogOf}
use Rattle.alethe_writer.proofs.Logging.{entry_there}
use Rattle.alethe_writer.specs.Marks.{IsNumberMarked, MarksNumbers, Reaches, root, onward, IsArgument, AreOfClauses, Closes, plain_numbers}
use Rattle.alethe_writer.proofs.Closing.{IsClosedFrom, closing_more, closing_end, marked_below}

-- the numbers up to here, and one more
pub plain_more : (ids : List TermId) (k : ℕ) → k < length ids → plain_numbers (take (k + 1) ids) ≡ plain_numbers (take k ids) ++ (get_or ids k (record { 0 = 0 })).0 ∷ []
plain_more ids k lt = ap plain_numbers (take_more ids k (record { 0 = 0 }) lt) ∙ map-append (λ (s : TermId). s.0) (take k ids) (get_or ids k (record { 0 = 0 }) ∷ [])

-- the marks of the terms of the first clauses
pub record AreOfFirst (t : TableView) (log : List Logged) (support : List Bool) (upto : ℕ) (marks : List Bool) : Type 0 where
  pub as_many : length marks ≡ length t.terms
  pub each : (m : ℕ) (id : TermId) → m < upto → IsNumberMarked support m → Contains (named (get_or log m no_logged)) id → IsNumberMarked marks id.0
  pub only : (k : ℕ) → IsNumberMarked marks k → (m : ℕ) × (id : TermId) × IsNumberMarked support m × Contains (named (get_or log m no_logged)) id × (id.0 ≡ k)

pub first_none : (t : TableView) (log : List Logged) (support marks : List Bool) → length marks ≡ length t.terms → ((k : ℕ) → IsNumberMarked marks k → ⊥) → AreOfFirst t log support 0 marks
first_none t log support marks as_many empty = record { as_many = as_many; each = λ m id lt. absurd (omega (arith, lt)); only = λ k e. absurd (empty k e) }

pub first_more : (t : TableView) (log : List Logged) (support : List Bool) (n : ℕ) (old new : List Bool) → IsNumberMarked support n → AreOfFirst t log support n old → MarksNumbers old (plain_numbers (named (get_or log n no_logged))) new → AreOfFirst t log support (n + 1) new
first_more t log support n old new here h m = record {
  as_many = m.same_length ∙ h.as_many;
  each = λ k id lt e c. elim (cases_eq k n) [
    | inl same ↦ m.there id.0 (to_image (λ (s : TermId). s.0) (named (get_or log n no_logged)) id (subst (λ i. Contains (named (get_or log i no_logged)) id) same c))
    | inr differ ↦ m.kept id.0 (h.each k id (grind (arith, lt, differ)) e c)
  ];
  only = λ k e. elim (m.no_others k e) [
    | inl early ↦ h.only k early
    | inr c ↦ let x = from_image (λ (s : TermId). s.0) (named (get_or log n no_logged)) k c in (n, x.0, here, x.1, x.2)
  ];
}

pub first_skip : (t : TableView) (log : List Logged) (support : List Bool) (n : ℕ) (marks : List Bool) → (IsNumberMarked support n → ⊥) → AreOfFirst t log support n marks → AreOfFirst t log support (n + 1) marks
first_skip t log support n marks free h = record {
  as_many = h.as_many;
  each = λ k id lt e c. elim (cases_eq k n) [
    | inl same ↦ absurd (free (subst (IsNumberMarked support) same e))
    | inr differ ↦ h.each k id (grind (arith, lt, differ)) e c
  ];
  only = h.only;
}

-- one clause more, marked or not
pub first_either : (t : TableView) (log : List Logged) (support : List Bool) (n : ℕ) (b : Bool) (old new : List Bool) → get_or support n false ≡ b → AreOfFirst t log support n old → MatchBool b (MarksNumbers old (plain_numbers (named (get_or log n no_logged))) new) (new ≡ old) → AreOfFirst t log support (n + 1) new
first_either t log support n true old new e h m = first_more t log support n old new e h m
first_either t log support n false old new e h m = subst (AreOfFirst t log support (n + 1)) (sym m) (first_skip t log support n old (λ f. false≢true (sym e ∙ f)) h)

pub first_end : (t : TableView) (log : List Logged) (support : List Bool) (n : ℕ) (marks : List Bool) → length support ≤ n → AreOfFirst t log support n marks → AreOfClauses t log support marks
first_end t log support n marks le h = record {
  as_many = h.as_many;
  each = λ m id e c. let lt = marked_below support m e in h.each m id (omega (arith, lt, le)) e c;
  only = h.only;
}

-- the arguments of one marked term more
pub arguments_more : (t : TableView) (root_marks : List Bool) (n : ℕ) (old new : List Bool) (s : Shape) → AreDifferent t.terms → n < length t.terms → get_or t.terms n no_term ≡ shape_term t s → All (λ (id : TermId). id.0 < n) s.arguments → IsClosedFrom (IsNumberMarked root_marks) (IsArgument t) (suc n) old → IsNumberMarked old n → MarksNumbers old (plain_numbers s.arguments) new → IsClosedFrom (IsNumberMarked root_marks) (IsArgument t) n new
arguments_more t root_marks n old new s apart lt means before h here m = closing_more (IsNumberMarked root_marks) (IsArgument t) n old new (plain_numbers s.arguments) h here each only below m
  where
    below_id : (id : TermId) → Contains s.arguments id → id.0 < n
    below_id id c = All-contains (λ (i : TermId). i.0 < n) s.arguments id before c

    each : (j : ℕ) → IsArgument t n j → Contains (plain_numbers s.arguments) j
    each j a =
        let x = argument_of t s (get_or t.terms j no_term) (subst (λ (w : Term). Contains (arguments_of w) (get_or t.terms j no_term)) means a.1) in
        let less = below_id x.0 x.1 in
        subst (Contains (plain_numbers s.arguments)) (apart x.0.0 j (omega (arith, less, lt)) a.0 x.2) (to_image (λ (i : TermId). i.0) s.arguments x.0 x.1)

    only : (j : ℕ) → Contains (plain_numbers s.arguments) j → IsArgument t n j
    only j c =
        let x = from_image (λ (i : TermId). i.0) s.arguments j c in
        let less = below_id x.0 x.1 in
        let there : Contains (arguments_of (get_or t.terms n no_term)) (term_at t x.0) = subst (λ (w : Term). Contains (arguments_of w) (term_at t x.0)) (sym means) (argument_in t s x.0 x.1) in
        (omega (arith, less, lt, x.2), subst (λ i. Contains (arguments_of (get_or t.terms n no_term)) (get_or t.terms i no_term)) x.2 there)

    below : (j : ℕ) → Contains (plain_numbers s.arguments) j → j < n
    below j c =
        let x = from_image (λ (i : TermId). i.0) s.arguments j c in
        let less = below_id x.0 x.1 in
        omega (arith, less, x.2)

pub arguments_end : (t : TableView) (old new : List Bool) → length new ≡ length old → IsClosedFrom (IsNumberMarked old) (IsArgument t) 0 new → Closes t old new
arguments_end t old new as_many h = record { same_length = as_many; each = closing_end (IsNumberMarked old) (IsArgument t) new h; only = h.sound }

-- the clause of a number
clause_there : (t : TableView) (log : List Logged) (m : ℕ) → m < length log → conclusion_at (derivation_in t log) m ≡ clause_at t (named (get_or log m no_logged))
clause_there t log m lt = ap conclusion (get_or-map (inference_of t) log m no_logged no_inference lt) ∙ go (get_or log m no_logged)
  where
    go : (l : Logged) → conclusion (inference_of t l) ≡ clause_at t (named l)
    go (assumed id) = refl
    go (stepped r ps qs c) = refl

-- a term that is printed has a place that is reached
has_place : (t : TableView) (log : List Logged) (support old : List Bool) (n : ℕ) → IsClosed t.terms → IsLogOf t log → length support ≤ length log → IsSupport (derivation_in t log) n support → AreOfClauses t log support old → (u : Term) → IsPrinted (derivation_in t log) n u → (k : ℕ) × (slice_get t.terms k ≡ Some u) × Reaches (IsNumberMarked old) (IsArgument t) k
has_place t log support old n closed right short are h u (in_clause m _ on c) =
    let e = are.each m on in
    let lt = marked_below support m e in
    let within : m < length log = omega (arith, lt, short) in
    let x = from_image (term_at t) (named (get_or log m no_logged)) u (subst (λ d. Contains d u) (clause_there t log m within) c) in
    let there : IsIn t x.0 = All-contains (IsIn t) (named (get_or log m no_logged)) x.0 (entry_there t log m within right) x.1 in
    (x.0.0, slice_get-get_or t.terms x.0.0 no_term there ∙ ap Some x.2, root x.0.0 (h.each m x.0 e x.1))
has_place t log support old n closed right short are h u (as_argument w _ p c) =
    let x = has_place t log support old n closed right short are h w p in
    let there : Contains t.terms u = closed w (in_terms x.0 x.1) u c in
    let at : slice_get t.terms there.0 ≡ Some u = slice_get-get_or t.terms there.0 u there.1 ∙ ap Some there.2 in
    let w_is : get_or t.terms x.0 no_term ≡ w = get_or_from_slice_get t.terms x.0 w no_term x.1 in
    let u_is : get_or t.terms there.0 no_term ≡ u = get_or_from_slice_get t.terms there.0 u no_term at in
    (there.0, at, onward x.0 there.0 x.2 (there.1, subst (λ (y : Term). Contains (arguments_of y) (get_or t.terms there.0 no_term)) (sym w_is) (subst (λ (y : Term). Contains (arguments_of w) y) (sym u_is) c)))
  where
    in_terms : (k : ℕ) → slice_get t.terms k ≡ Some w → Contains t.terms w
    in_terms k e = (k, slice_get_within t.terms k w e, get_or_from_slice_get t.terms k w w e)

-- a place that is reached has a term that is printed
is_printed : (t : TableView) (log : List Logged) (support old : List Bool) (n : ℕ) → length support ≤ length log → IsSupport (derivation_in t log) n support → AreOfClauses t log support old → (k : ℕ) → Reaches (IsNumberMarked old) (IsArgument t) k → IsPrinted (derivation_in t log) n (get_or t.terms k no_term)
is_printed t log support old n short are h k (root _ e) =
    let x = h.only k e in
    let lt = marked_below support x.0 x.2 in
    let within : x.0 < length log = omega (arith, lt, short) in
    let c : Contains (clause_at t (named (get_or log x.0 no_logged))) (term_at t x.1) = to_image (term_at t) (named (get_or log x.0 no_logged)) x.1 x.3 in
    subst (λ i. IsPrinted (derivation_in t log) n (get_or t.terms i no_term)) x.4 (in_clause x.0 (term_at t x.1) (are.only x.0 x.2) (subst (λ d. Contains d (term_at t x.1)) (sym (clause_there t log x.0 within)) c))
is_printed t log support old n short are h k (onward j _ r a) = as_argument (get_or t.terms j no_term) (get_or t.terms k no_term) (is_printed t log support old n short are h j r) a.1

pub printed_are : (t : TableView) (log : List Logged) (support old new : List Bool) (n : ℕ) → IsClosed t.terms → AreDifferent t.terms → IsLogOf t log → length support ≤ length log → AreOfClauses t log support old → Closes t old new → IsSupport (derivation_in t log) n support → ArePrinted t.terms (derivation_in t log) n new
printed_are t log support old new n closed apart right short h closes are = record {
  as_many = closes.same_length ∙ h.as_many;
  each = λ k u at p.
      let x = has_place t log support old n closed right short are h u p in
      let same : x.0 ≡ k = apart x.0 k (slice_get_within t.terms x.0 u x.1) (slice_get_within t.terms k u at) (get_or_from_slice_get t.terms x.0 u no_term x.1 ∙ sym (get_or_from_slice_get t.terms k u no_term at)) in
      closes.each k (subst (Reaches (IsNumberMarked old) (IsArgument t)) same x.2);
  only = λ k u at e. subst (IsPrinted (derivation_in t log) n) (get_or_from_slice_get t.terms k u no_term at) (is_printed t log support old n short are h k (closes.only k e));
}
