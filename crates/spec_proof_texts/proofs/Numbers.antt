-- The numbers of what is marked, and what is under them.
use Rattle.std.proofs.Common.{◌≡◌, ℕ, zero, suc, ◌+◌, ◌<◌, Bool, true, false, ◌&&◌, List, [], ◌∷◌, ◌++◌, length, map, Contains, get_or, Option, Some, None, refl, sym, ap, ◌∙◌, subst, arith}
use Rattle.std.specs.Prelude.{nat_eq}
use Rattle.std.specs.List.{slice_get}
use Rattle.std.proofs.lemmas.Bool.{false≢true}
use Rattle.std.proofs.lemmas.Option.{none-some}
use Rattle.spec_text.specs.Trees.{Trees}
use Rattle.spec_text.proofs.Members.{first, later}
use Rattle.spec_sorts.specs.Terms.{Term, same_term}
use Rattle.spec_sorts.specs.Literals.{Clause}
use Rattle.spec_sorts.proofs.SameTerms.{terms_decide}
use Rattle.spec_derivations.specs.Derivations.{Inference, «assumption», by_rule, Derivation}
use Rattle.spec_proof_texts.specs.Plans.{number_of, height_of, is_compound, definition_marks, counted, counted_inferences, terms_planned}

-- the marked ones, in order
abbrev pub picked : {A : Type 0} → List Bool → List A → List A
picked (true ∷ bs) (x ∷ xs) = x ∷ picked bs xs
picked (false ∷ bs) (x ∷ xs) = picked bs xs
picked bs xs = []

-- one more of them, and one that is not
pub picked_more : {A : Type 0} (bs : List Bool) (xs : List A) (x : A) → length bs ≡ length xs → picked (bs ++ true ∷ []) (xs ++ x ∷ []) ≡ picked bs xs ++ x ∷ []
picked_more [] [] x e = refl
picked_more [] (y ∷ xs) x e = absurd (omega (arith, e))
picked_more (b ∷ bs) [] x e = absurd (omega (arith, e))
picked_more (true ∷ bs) (y ∷ xs) x e = ap (λ ys. y ∷ ys) (picked_more bs xs x (omega (arith, e)))
picked_more (false ∷ bs) (y ∷ xs) x e = picked_more bs xs x (omega (arith, e))

pub picked_same : {A : Type 0} (bs : List Bool) (xs : List A) (x : A) → length bs ≡ length xs → picked (bs ++ false ∷ []) (xs ++ x ∷ []) ≡ picked bs xs
picked_same [] [] x e = refl
picked_same [] (y ∷ xs) x e = absurd (omega (arith, e))
picked_same (b ∷ bs) [] x e = absurd (omega (arith, e))
picked_same (true ∷ bs) (y ∷ xs) x e = ap (λ ys. y ∷ ys) (picked_same bs xs x (omega (arith, e)))
picked_same (false ∷ bs) (y ∷ xs) x e = picked_same bs xs x (omega (arith, e))

-- a marked one is under its number
pub has_number : {A : Type 0} (n : ℕ) (bs : List Bool) (xs : List A) (j : ℕ) (x : A) → get_or bs j false ≡ true → slice_get xs j ≡ Some x → (i : ℕ) × (get_or (counted (suc n) bs) j None ≡ Some (suc (i + n))) × (slice_get (picked bs xs) i ≡ Some x)
has_number n [] xs j x e h = absurd (false≢true e)
has_number n (b ∷ bs) [] j x e h = absurd (none-some x h)
has_number n (true ∷ bs) (y ∷ xs) zero x e h = (zero, ap (λ m. Some (suc m)) (omega arith), h)
has_number n (false ∷ bs) (y ∷ xs) zero x e h = absurd (false≢true e)
has_number n (true ∷ bs) (y ∷ xs) (suc j) x e h =
    let r = has_number (suc n) bs xs j x e h in
    let same : r.0 + suc n ≡ suc r.0 + n = omega arith in
    (suc r.0, r.1 ∙ ap (λ m. Some (suc m)) same, r.2)
has_number n (false ∷ bs) (y ∷ xs) (suc j) x e h = has_number n bs xs j x e h

-- what is not marked has no number
pub has_none : (n : ℕ) (bs : List Bool) (j : ℕ) → get_or bs j false ≡ false → get_or (counted n bs) j None ≡ None
has_none n [] j e = refl
has_none n (true ∷ bs) zero e = absurd (false≢true (sym e))
has_none n (false ∷ bs) zero e = refl
has_none n (true ∷ bs) (suc j) e = has_none (suc n) bs j e
has_none n (false ∷ bs) (suc j) e = has_none n bs j e

-- numbers do not depend on what is after
pub counted_front : (n : ℕ) (bs cs : List Bool) (j : ℕ) → j < length bs → get_or (counted n (bs ++ cs)) j None ≡ get_or (counted n bs) j None
counted_front n [] cs j lt = absurd (omega (arith, lt))
counted_front n (true ∷ bs) cs zero lt = refl
counted_front n (false ∷ bs) cs zero lt = refl
counted_front n (true ∷ bs) cs (suc j) lt = counted_front (suc n) bs cs j (omega (arith, lt))
counted_front n (false ∷ bs) cs (suc j) lt = counted_front n bs cs j (omega (arith, lt))

-- the term that there is
abbrev term_in : Term → Option Term → Term
term_in t (Some x) = x
term_in t None = t

-- the number of a term is that of its place
pub number_at_place : (terms : List Term) (numbers : List (Option ℕ)) (j : ℕ) (u : Term) → slice_get terms j ≡ Some u → ((i : ℕ) → slice_get terms i ≡ Some u → i ≡ j) → number_of terms numbers u ≡ get_or numbers j None
number_at_place [] numbers j u h alone = absurd (none-some u h)
number_at_place (t ∷ ts) [] j u h alone = refl
number_at_place (t ∷ ts) (n ∷ ns) zero u h alone = let same : same_term t u ≡ true = (terms_decide t u).1 (ap (term_in t) h) in rw same refl
number_at_place (t ∷ ts) (n ∷ ns) (suc j) u h alone = go (same_term t u) refl (number_at_place ts ns j u h (λ i at. omega (arith, alone (suc i) at)))
  where
    go : (b : Bool) → same_term t u ≡ b → number_of ts ns u ≡ get_or ns j None → number_of (t ∷ ts) (n ∷ ns) u ≡ get_or ns j None
    go true same rest = let zeroth : zero ≡ suc j = alone zero (ap Some ((terms_decide t u).0 same)) in absurd (omega (arith, zeroth))
    go false same rest = rw same rest

-- and its height
pub height_at_place : (terms : List Term) (heights : List ℕ) (j : ℕ) (u : Term) → slice_get terms j ≡ Some u → ((i : ℕ) → slice_get terms i ≡ Some u → i ≡ j) → height_of terms heights u ≡ get_or heights j 0
height_at_place [] heights j u h alone = absurd (none-some u h)
height_at_place (t ∷ ts) [] j u h alone = refl
height_at_place (t ∷ ts) (n ∷ ns) zero u h alone = let same : same_term t u ≡ true = (terms_decide t u).1 (ap (term_in t) h) in rw same refl
height_at_place (t ∷ ts) (n ∷ ns) (suc j) u h alone = go (same_term t u) refl (height_at_place ts ns j u h (λ i at. omega (arith, alone (suc i) at)))
  where
    go : (b : Bool) → same_term t u ≡ b → height_of ts ns u ≡ get_or ns j 0 → height_of (t ∷ ts) (n ∷ ns) u ≡ get_or ns j 0
    go true same rest = let zeroth : zero ≡ suc j = alone zero (ap Some ((terms_decide t u).0 same)) in absurd (omega (arith, zeroth))
    go false same rest = rw same rest

-- what is marked, has arguments, and is not in place
pub definition_mark_at : (terms : List Term) (marks : List Bool) (heights : List ℕ) (j : ℕ) (u : Term) → length marks ≡ length terms → length heights ≡ length terms → slice_get terms j ≡ Some u → get_or (definition_marks terms marks heights) j false ≡ get_or marks j false && (is_compound u && nat_eq (get_or heights j 0) 0)
definition_mark_at [] marks heights j u e f h = absurd (none-some u h)
definition_mark_at (t ∷ ts) [] heights j u e f h = absurd (omega (arith, e))
definition_mark_at (t ∷ ts) (b ∷ bs) [] j u e f h = absurd (omega (arith, f))
definition_mark_at (t ∷ ts) (b ∷ bs) (n ∷ ns) zero u e f h = ap (λ (o : Option Term). b && (of_some o && nat_eq n 0)) h
  where
    of_some : Option Term → Bool
    of_some (Some x) = is_compound x
    of_some None = false
definition_mark_at (t ∷ ts) (b ∷ bs) (n ∷ ns) (suc j) u e f h = definition_mark_at ts bs ns j u (omega (arith, e)) (omega (arith, f)) h

pub counted_length : (n : ℕ) (bs : List Bool) → length (counted n bs) ≡ length bs
counted_length n [] = refl
counted_length n (true ∷ bs) = ap suc (counted_length (suc n) bs)
counted_length n (false ∷ bs) = ap suc (counted_length n bs)

pub definition_marks_length : (ts : List Term) (bs : List Bool) (ns : List ℕ) → length bs ≡ length ts → length ns ≡ length ts → length (definition_marks ts bs ns) ≡ length ts
definition_marks_length [] bs ns e f = refl
definition_marks_length (t ∷ ts) [] ns e f = absurd (omega (arith, e))
definition_marks_length (t ∷ ts) (b ∷ bs) [] e f = absurd (omega (arith, f))
definition_marks_length (t ∷ ts) (b ∷ bs) (n ∷ ns) e f = ap suc (definition_marks_length ts bs ns (omega (arith, e)) (omega (arith, f)))

-- the clauses of marked assumptions, and of marked steps
abbrev pub assumes_of : List Bool → Derivation → List Clause
assumes_of (true ∷ bs) («assumption» t ∷ xs) = (t ∷ []) ∷ assumes_of bs xs
assumes_of (true ∷ bs) (by_rule r ps given c ∷ xs) = assumes_of bs xs
assumes_of (false ∷ bs) (x ∷ xs) = assumes_of bs xs
assumes_of bs xs = []

abbrev pub steps_of : List Bool → Derivation → List Clause
steps_of (true ∷ bs) («assumption» t ∷ xs) = steps_of bs xs
steps_of (true ∷ bs) (by_rule r ps given c ∷ xs) = c ∷ steps_of bs xs
steps_of (false ∷ bs) (x ∷ xs) = steps_of bs xs
steps_of bs xs = []

-- one more
abbrev pub with_assumed : Bool → Inference → List Clause → List Clause
with_assumed true («assumption» t) cs = cs ++ (t ∷ []) ∷ []
with_assumed true (by_rule r ps given c) cs = cs
with_assumed false x cs = cs

abbrev pub with_stepped : Bool → Inference → List Clause → List Clause
with_stepped true («assumption» t) cs = cs
with_stepped true (by_rule r ps given c) cs = cs ++ c ∷ []
with_stepped false x cs = cs

pub assumes_more : (bs : List Bool) (xs : Derivation) (b : Bool) (x : Inference) → length bs ≡ length xs → assumes_of (bs ++ b ∷ []) (xs ++ x ∷ []) ≡ with_assumed b x (assumes_of bs xs)
assumes_more [] [] true («assumption» t) e = refl
assumes_more [] [] true (by_rule r ps given c) e = refl
assumes_more [] [] false x e = refl
assumes_more [] (y ∷ xs) b x e = absurd (omega (arith, e))
assumes_more (c ∷ bs) [] b x e = absurd (omega (arith, e))
assumes_more (true ∷ bs) («assumption» t ∷ xs) true («assumption» u) e = ap (λ ys. (t ∷ []) ∷ ys) (assumes_more bs xs true («assumption» u) (omega (arith, e)))
assumes_more (true ∷ bs) («assumption» t ∷ xs) true (by_rule r ps given c) e = ap (λ ys. (t ∷ []) ∷ ys) (assumes_more bs xs true (by_rule r ps given c) (omega (arith, e)))
assumes_more (true ∷ bs) («assumption» t ∷ xs) false x e = ap (λ ys. (t ∷ []) ∷ ys) (assumes_more bs xs false x (omega (arith, e)))
assumes_more (true ∷ bs) (by_rule r ps given c ∷ xs) b x e = assumes_more bs xs b x (omega (arith, e))
assumes_more (false ∷ bs) (y ∷ xs) b x e = assumes_more bs xs b x (omega (arith, e))

-- what is behind the marks does not count
pub assumes_front : (bs : List Bool) (xs ys : Derivation) → length bs ≡ length xs → assumes_of bs (xs ++ ys) ≡ assumes_of bs xs
assumes_front [] [] ys e = refl
assumes_front [] (x ∷ xs) ys e = absurd (omega (arith, e))
assumes_front (b ∷ bs) [] ys e = absurd (omega (arith, e))
assumes_front (true ∷ bs) («assumption» t ∷ xs) ys e = ap (λ cs. (t ∷ []) ∷ cs) (assumes_front bs xs ys (omega (arith, e)))
assumes_front (true ∷ bs) (by_rule r ps given c ∷ xs) ys e = assumes_front bs xs ys (omega (arith, e))
assumes_front (false ∷ bs) (x ∷ xs) ys e = assumes_front bs xs ys (omega (arith, e))

-- terms as clauses of assumes
abbrev pub unit_clauses : List Term → List Clause
unit_clauses ts = map (λ (t : Term). t ∷ []) ts

-- these are the assumptions that have a number
pub planned_assumed : (h t : ℕ) (bs : List Bool) (xs : Derivation) → unit_clauses (terms_planned xs (counted_inferences h t bs xs)) ≡ assumes_of bs xs
planned_assumed h t [] [] = refl
planned_assumed h t [] («assumption» u ∷ xs) = refl
planned_assumed h t [] (by_rule r ps given c ∷ xs) = refl
planned_assumed h t (true ∷ bs) [] = refl
planned_assumed h t (false ∷ bs) [] = refl
planned_assumed h t (true ∷ bs) («assumption» u ∷ xs) = ap (λ cs. (u ∷ []) ∷ cs) (planned_assumed (suc h) t bs xs)
planned_assumed h t (true ∷ bs) (by_rule r ps given c ∷ xs) = planned_assumed h (suc t) bs xs
planned_assumed h t (false ∷ bs) («assumption» u ∷ xs) = planned_assumed h t bs xs
planned_assumed h t (false ∷ bs) (by_rule r ps given c ∷ xs) = planned_assumed h t bs xs

-- among them is each that is marked
pub planned_there : (h t : ℕ) (bs : List Bool) (xs : Derivation) (m : ℕ) (u : Term) → get_or bs m false ≡ true → slice_get xs m ≡ Some («assumption» u) → Contains (terms_planned xs (counted_inferences h t bs xs)) u
planned_there h t [] xs m u e f = absurd (false≢true e)
planned_there h t (b ∷ bs) [] m u e f = cc
planned_there h t (false ∷ bs) (x ∷ xs) zero u e f = absurd (false≢true e)
planned_there h t (true ∷ bs) (by_rule r ps given c ∷ xs) zero u e f = cc
planned_there h t (true ∷ bs) («assumption» v ∷ xs) zero u e f = let same : v ≡ u = cc in subst (Contains (v ∷ _)) same (first v _)
planned_there h t (true ∷ bs) («assumption» v ∷ xs) (suc m) u e f = later v _ u (planned_there (suc h) t bs xs m u e f)
planned_there h t (true ∷ bs) (by_rule r ps given c ∷ xs) (suc m) u e f = planned_there h (suc t) bs xs m u e f
planned_there h t (false ∷ bs) («assumption» v ∷ xs) (suc m) u e f = planned_there h t bs xs m u e f
planned_there h t (false ∷ bs) (by_rule r ps given c ∷ xs) (suc m) u e f = planned_there h t bs xs m u e f

pub steps_more : (bs : List Bool) (xs : Derivation) (b : Bool) (x : Inference) → length bs ≡ length xs → steps_of (bs ++ b ∷ []) (xs ++ x ∷ []) ≡ with_stepped b x (steps_of bs xs)
steps_more [] [] true («assumption» t) e = refl
steps_more [] [] true (by_rule r ps given c) e = refl
steps_more [] [] false x e = refl
steps_more [] (y ∷ xs) b x e = absurd (omega (arith, e))
steps_more (c ∷ bs) [] b x e = absurd (omega (arith, e))
steps_more (true ∷ bs) («assumption» t ∷ xs) b x e = steps_more bs xs b x (omega (arith, e))
steps_more (true ∷ bs) (by_rule r ps given c ∷ xs) true («assumption» u) e = ap (λ ys. c ∷ ys) (steps_more bs xs true («assumption» u) (omega (arith, e)))
steps_more (true ∷ bs) (by_rule r ps given c ∷ xs) true (by_rule q us gs w) e = ap (λ ys. c ∷ ys) (steps_more bs xs true (by_rule q us gs w) (omega (arith, e)))
steps_more (true ∷ bs) (by_rule r ps given c ∷ xs) false x e = ap (λ ys. c ∷ ys) (steps_more bs xs false x (omega (arith, e)))
steps_more (false ∷ bs) (y ∷ xs) b x e = steps_more bs xs b x (omega (arith, e))

-- a marked inference is under its number, among the assumes or among the steps
abbrev pub IsNumbered : (h t : ℕ) → List Bool → Derivation → Option ℕ → Inference → Type 0
IsNumbered h t bs xs number («assumption» u) = (i : ℕ) × (number ≡ Some (suc (i + h))) × (slice_get (assumes_of bs xs) i ≡ Some (u ∷ []))
IsNumbered h t bs xs number (by_rule r ps given c) = (i : ℕ) × (number ≡ Some (suc (i + t))) × (slice_get (steps_of bs xs) i ≡ Some c)

behind_assumed : (h t : ℕ) (bs : List Bool) (u : Term) (xs : Derivation) (number : Option ℕ) (x : Inference) → IsNumbered (suc h) t bs xs number x → IsNumbered h t (true ∷ bs) («assumption» u ∷ xs) number x
behind_assumed h t bs u xs number («assumption» w) (i, e, f) = let same : i + suc h ≡ suc i + h = omega arith in (suc i, e ∙ ap (λ m. Some (suc m)) same, f)
behind_assumed h t bs u xs number (by_rule r ps given c) k = k

behind_stepped : (h t : ℕ) (bs : List Bool) (q : _) (us : List ℕ) (gs : Trees) (w : Clause) (xs : Derivation) (number : Option ℕ) (x : Inference) → IsNumbered h (suc t) bs xs number x → IsNumbered h t (true ∷ bs) (by_rule q us gs w ∷ xs) number x
behind_stepped h t bs q us gs w xs number («assumption» u) k = k
behind_stepped h t bs q us gs w xs number (by_rule r ps given c) (i, e, f) = let same : i + suc t ≡ suc i + t = omega arith in (suc i, e ∙ ap (λ m. Some (suc m)) same, f)

behind_none : (h t : ℕ) (bs : List Bool) (y : Inference) (xs : Derivation) (number : Option ℕ) (x : Inference) → IsNumbered h t bs xs number x → IsNumbered h t (false ∷ bs) (y ∷ xs) number x
behind_none h t bs y xs number («assumption» u) k = k
behind_none h t bs y xs number (by_rule r ps given c) k = k

-- the inference that there is
abbrev of_some : Inference → Option Inference → Inference
of_some d (Some x) = x
of_some d None = d

pub inference_number : (h t : ℕ) (bs : List Bool) (xs : Derivation) (j : ℕ) (x : Inference) → get_or bs j false ≡ true → slice_get xs j ≡ Some x → IsNumbered h t bs xs (get_or (counted_inferences (suc h) (suc t) bs xs) j None) x
inference_number h t [] xs j x e f = absurd (false≢true e)
inference_number h t (b ∷ bs) [] j x e f = absurd (none-some x f)
inference_number h t (true ∷ bs) («assumption» u ∷ xs) zero x e f = subst (λ y. IsNumbered h t (true ∷ bs) («assumption» u ∷ xs) (Some (suc h)) y) (ap (of_some («assumption» u)) f) (zero, ap (λ m. Some (suc m)) (omega arith), refl)
inference_number h t (true ∷ bs) (by_rule r ps given c ∷ xs) zero x e f = subst (λ y. IsNumbered h t (true ∷ bs) (by_rule r ps given c ∷ xs) (Some (suc t)) y) (ap (of_some (by_rule r ps given c)) f) (zero, ap (λ m. Some (suc m)) (omega arith), refl)
inference_number h t (false ∷ bs) (y ∷ xs) zero x e f = absurd (false≢true e)
inference_number h t (true ∷ bs) («assumption» u ∷ xs) (suc j) x e f = behind_assumed h t bs u xs _ x (inference_number (suc h) t bs xs j x e f)
inference_number h t (true ∷ bs) (by_rule r ps given c ∷ xs) (suc j) x e f = behind_stepped h t bs r ps given c xs _ x (inference_number h (suc t) bs xs j x e f)
inference_number h t (false ∷ bs) (y ∷ xs) (suc j) x e f = behind_none h t bs y xs _ x (inference_number h t bs xs j x e f)

-- numbers do not depend on what is after
pub inferences_front : (h t : ℕ) (bs cs : List Bool) (xs ys : Derivation) (j : ℕ) → length bs ≡ length xs → j < length bs → get_or (counted_inferences h t (bs ++ cs) (xs ++ ys)) j None ≡ get_or (counted_inferences h t bs xs) j None
inferences_front h t [] cs xs ys j e lt = absurd (omega (arith, lt))
inferences_front h t (b ∷ bs) cs [] ys j e lt = absurd (omega (arith, e))
inferences_front h t (true ∷ bs) cs («assumption» u ∷ xs) ys zero e lt = refl
inferences_front h t (true ∷ bs) cs (by_rule r ps given c ∷ xs) ys zero e lt = refl
inferences_front h t (false ∷ bs) cs (x ∷ xs) ys zero e lt = refl
inferences_front h t (true ∷ bs) cs («assumption» u ∷ xs) ys (suc j) e lt = inferences_front (suc h) t bs cs xs ys j (omega (arith, e)) (omega (arith, lt))
inferences_front h t (true ∷ bs) cs (by_rule r ps given c ∷ xs) ys (suc j) e lt = inferences_front h (suc t) bs cs xs ys j (omega (arith, e)) (omega (arith, lt))
inferences_front h t (false ∷ bs) cs (x ∷ xs) ys (suc j) e lt = inferences_front h t bs cs xs ys j (omega (arith, e)) (omega (arith, lt))
