-- The heights of terms in place, from the least number up.
use Rattle.std.proofs.Common.{◌≡◌, ◌≤◌, ◌<◌, ℕ, zero, suc, ◌+◌, inl, inr, Bool, true, false, cond, ◌&&◌, List, [], ◌∷◌, ◌++◌, length, take, get_or, Some, All, Contains, refl, sym, ap, ap₂, ◌∙◌, subst, arith}
use Rattle.std.specs.Prelude.{nat_lt, max}
use Rattle.std.specs.List.{slice_get}
use Rattle.std.proofs.lemmas.Bool.{cases_eq, false≢true}
use Rattle.std.proofs.lemmas.Bool.Decides.{nat_tests}
use Rattle.std.proofs.lemmas.Option.{slice_get-get_or, get_or_from_slice_get, slice_get_within}
use Rattle.spec_text.proofs.Members.{first, later}
use Rattle.spec_sorts.specs.Terms.{Term, no_term}
use Rattle.spec_sorts.specs.Subsets.{arguments_of}
use Rattle.spec_sorts.proofs.General.{list_of-terms_of}
use Rattle.spec_proof_texts.specs.Lines.{level_limit, place_limit}
use Rattle.spec_proof_texts.specs.Plans.{height_of, greatest_height, height_over, how_many, AreHeights}
use Rattle.spec_proof_texts.proofs.Numbers.{height_at_place}
use Rattle.term_core.specs.declared.ids.TermId.{TermId}
use Rattle.term_core.specs.Tables.{TableView, Shape, shape_term, term_at, clause_at, AreDifferent}
use Rattle.alethe_writer.specs.Uses.{greatest_of, height_in, placed_more}

-- one number more
pub get_before : {A : Type 0} (xs : List A) (y d : A) (k : ℕ) → k < length xs → get_or (xs ++ y ∷ []) k d ≡ get_or xs k d
get_before [] y d k lt = absurd (omega (arith, lt))
get_before (x ∷ xs) y d zero lt = refl
get_before (x ∷ xs) y d (suc k) lt = get_before xs y d k (omega (arith, lt))

pub get_last : {A : Type 0} (xs : List A) (y d : A) → get_or (xs ++ y ∷ []) (length xs) d ≡ y
get_last [] y d = refl
get_last (x ∷ xs) y d = get_last xs y d

take_before : {A : Type 0} (xs : List A) (y : A) (k : ℕ) → k ≤ length xs → take k (xs ++ y ∷ []) ≡ take k xs
take_before xs y zero le = refl
take_before [] y (suc k) le = absurd (omega (arith, le))
take_before (x ∷ xs) y (suc k) le = ap (λ ys. x ∷ ys) (take_before xs y k (omega (arith, le)))

take_whole : {A : Type 0} (xs : List A) → take (length xs) xs ≡ xs
take_whole [] = refl
take_whole (x ∷ xs) = ap (λ ys. x ∷ ys) (take_whole xs)

many_more : (ns : List ℕ) (n : ℕ) → how_many (ns ++ n ∷ []) ≡ placed_more (how_many ns) n
many_more [] zero = refl
many_more [] (suc n) = refl
many_more (zero ∷ ns) n = many_more ns n
many_more (suc m ∷ ns) zero = ap suc (many_more ns zero)
many_more (suc m ∷ ns) (suc n) = ap suc (many_more ns (suc n))

-- the heights of terms by their places
greatest_there : (t : TableView) (heights : List ℕ) (ids : List TermId) → AreDifferent t.terms → length heights ≤ length t.terms → All (λ (id : TermId). id.0 < length heights) ids → greatest_of heights ids ≡ greatest_height (height_of t.terms heights) (clause_at t ids)
greatest_there t heights [] apart le below = refl
greatest_there t heights (id ∷ ids) apart le below =
    let lt : id.0 < length heights = below 0 id (omega arith) in
    let within : id.0 < length t.terms = omega (arith, lt, le) in
    let one : height_of t.terms heights (term_at t id) ≡ get_or heights id.0 0 = height_at_place t.terms heights id.0 (term_at t id) (slice_get-get_or t.terms id.0 no_term within) (λ i at. apart i id.0 (slice_get_within t.terms i (term_at t id) at) within (get_or_from_slice_get t.terms i (term_at t id) no_term at)) in
    ap₂ max (sym one) (greatest_there t heights ids apart le (λ k d l. below (suc k) d (omega (arith, l))))

greatest_shape : (t : TableView) (heights : List ℕ) (id : TermId) (s : Shape) → AreDifferent t.terms → length heights ≤ length t.terms → term_at t id ≡ shape_term t s → All (λ (i : TermId). i.0 < length heights) s.arguments → greatest_of heights s.arguments ≡ greatest_height (height_of t.terms heights) (arguments_of (term_at t id))
greatest_shape t heights id s apart le means below =
    greatest_there t heights s.arguments apart le below ∙ ap (greatest_height (height_of t.terms heights)) (sym (ap arguments_of means ∙ list_of-terms_of (clause_at t s.arguments)))

pub deepest_there : (t : TableView) (heights : List ℕ) (id : TermId) (s : Shape) (ids : List TermId) (d : ℕ) → AreDifferent t.terms → id.0 < length t.terms → length heights ≡ id.0 → term_at t id ≡ shape_term t s → All (λ (i : TermId). i.0 < id.0) s.arguments → ids ≡ s.arguments → d ≡ greatest_of heights ids → d ≡ greatest_height (height_of t.terms heights) (arguments_of (term_at t id))
deepest_there t heights id s ids d apart lt as_many means below same is =
    is ∙ ap (greatest_of heights) same ∙ greatest_shape t heights id s apart (omega (arith, lt, as_many)) means (subst (λ n. All (λ (i : TermId). i.0 < n) s.arguments) (sym as_many) below)

-- what is not in place, and what is
pub unwanted : (w : Bool) (d p : ℕ) → w ≡ false → 0 ≡ height_over w d p
unwanted true d p e = absurd (false≢true (sym e))
unwanted false d p e = refl

pub too_many : (w : Bool) (d p : ℕ) → place_limit ≤ p → 0 ≡ height_over w d p
too_many false d p le = refl
too_many true d p le = let e : nat_lt p place_limit ≡ false = grind (arith, nat_tests, le) in ap (λ b. cond (b && nat_lt d level_limit) (suc d) 0) (sym e)

pub too_deep : (w : Bool) (d p : ℕ) → level_limit ≤ d → 0 ≡ height_over w d p
too_deep false d p le = refl
too_deep true d p le = let e : nat_lt d level_limit ≡ false = grind (arith, nat_tests, le) in go (nat_lt p place_limit) e
  where
    go : (b : Bool) → nat_lt d level_limit ≡ false → 0 ≡ cond (b && nat_lt d level_limit) (suc d) 0
    go true e = ap (λ c. cond c (suc d) 0) (sym e)
    go false e = refl

pub in_place_over : (w : Bool) (d p : ℕ) → w ≡ true → p < place_limit → d < level_limit → suc d ≡ height_over w d p
in_place_over false d p e few low = absurd (false≢true e)
in_place_over true d p e few low =
    let a : nat_lt p place_limit ≡ true = grind (arith, nat_tests, few) in
    let b : nat_lt d level_limit ≡ true = grind (arith, nat_tests, low) in
    sym (λ i. cond (a i && b i) (suc d) 0)

-- the height at a place is right
abbrev IsHeightOf : TableView → List Bool → List ℕ → ℕ → Type 0
IsHeightOf t single heights k = get_or heights k 0 ≡ height_over (get_or single k false) (greatest_height (height_of t.terms heights) (arguments_of (get_or t.terms k no_term))) (how_many (take k heights))

-- The heights up to a number.
pub record AreHeightsTo (t : TableView) (single : List Bool) (n : ℕ) (heights : List ℕ) : Type 0 where
  pub as_many : length heights ≡ n
  pub each : (k : ℕ) → k < n → get_or heights k 0 ≡ height_over (get_or single k false) (greatest_height (height_of t.terms heights) (arguments_of (get_or t.terms k no_term))) (how_many (take k heights))

pub heights_none : (t : TableView) (single : List Bool) → AreHeightsTo t single 0 []
heights_none t single = record { as_many = refl; each = λ k lt. absurd (omega (arith, lt)) }

module _ (t : TableView) (apart : AreDifferent t.terms) (before : (k : ℕ) (v u : Term) → slice_get t.terms k ≡ Some v → Contains (arguments_of v) u → (j : ℕ) × (j < k) × (slice_get t.terms j ≡ Some u)) where
  -- a height more changes none of those below
  same_height : (heights : List ℕ) (n j : ℕ) (u : Term) → j < length heights → slice_get t.terms j ≡ Some u → height_of t.terms (heights ++ n ∷ []) u ≡ height_of t.terms heights u
  same_height heights n j u lt at =
      let alone : (i : ℕ) → slice_get t.terms i ≡ Some u → i ≡ j = λ i x. apart i j (slice_get_within t.terms i u x) (slice_get_within t.terms j u at) (get_or_from_slice_get t.terms i u no_term x ∙ sym (get_or_from_slice_get t.terms j u no_term at)) in
      height_at_place t.terms (heights ++ n ∷ []) j u at alone ∙ get_before heights n 0 j lt ∙ sym (height_at_place t.terms heights j u at alone)

  same_greatest : (heights : List ℕ) (n : ℕ) (us : List Term) → ((u : Term) → Contains us u → (j : ℕ) × (j < length heights) × (slice_get t.terms j ≡ Some u)) → greatest_height (height_of t.terms (heights ++ n ∷ [])) us ≡ greatest_height (height_of t.terms heights) us
  same_greatest heights n [] there = refl
  same_greatest heights n (u ∷ us) there =
      let x = there u (first u us) in
      ap₂ max (same_height heights n x.0 u x.1 x.2) (same_greatest heights n us (λ v c. there v (later u us v c)))

  below : (heights : List ℕ) (k : ℕ) → k ≤ length heights → k < length t.terms → (u : Term) → Contains (arguments_of (get_or t.terms k no_term)) u → (j : ℕ) × (j < length heights) × (slice_get t.terms j ≡ Some u)
  below heights k le lt u c =
      let x = before k (get_or t.terms k no_term) u (slice_get-get_or t.terms k no_term lt) c in
      (x.0, omega (arith, x.1, le), x.2)

  pub heights_more : (single : List Bool) (n m : ℕ) (heights : List ℕ) → n < length t.terms → m ≡ height_in t heights (get_or single n false) (how_many heights) (record { 0 = n }) → AreHeightsTo t single n heights → AreHeightsTo t single (n + 1) (heights ++ m ∷ [])
  heights_more single n m heights lt is h = record {
    as_many = length_more heights ∙ ap (λ i. i + 1) h.as_many;
    each = λ k less. elim (cases_eq k n) [
      | inl same ↦ subst (IsHeightOf t single (heights ++ m ∷ [])) (sym same) here
      | inr differ ↦ there k (grind (arith, less, differ))
    ];
  }
    where
      length_more : (xs : List ℕ) → length (xs ++ m ∷ []) ≡ length xs + 1
      length_more [] = refl
      length_more (x ∷ xs) = omega (arith, length_more xs)

      there : (k : ℕ) → k < n → IsHeightOf t single (heights ++ m ∷ []) k
      there k less =
          let greatest = same_greatest heights m (arguments_of (get_or t.terms k no_term)) (below heights k (omega (arith, less, h.as_many)) (omega (arith, less, lt))) in
          get_before heights m 0 k (omega (arith, less, h.as_many)) ∙ h.each k less
          ∙ (λ i. height_over (get_or single k false) (sym greatest i) (how_many (sym (take_before heights m k (omega (arith, less, h.as_many))) i)))

      here : IsHeightOf t single (heights ++ m ∷ []) n
      here =
          let greatest = same_greatest heights m (arguments_of (get_or t.terms n no_term)) (below heights n (omega (arith, h.as_many)) lt) in
          let front : take n (heights ++ m ∷ []) ≡ heights = take_before heights m n (omega (arith, h.as_many)) ∙ ap (λ i. take i heights) (sym h.as_many) ∙ take_whole heights in
          ap (λ i. get_or (heights ++ m ∷ []) i 0) (sym h.as_many) ∙ get_last heights m 0 ∙ is
          ∙ (λ i. height_over (get_or single n false) (sym greatest i) (how_many (sym front i)))

pub heights_many : (heights : List ℕ) (m places : ℕ) → places ≡ how_many heights → placed_more places m ≡ how_many (heights ++ m ∷ [])
heights_many heights m places is = ap (λ p. placed_more p m) is ∙ sym (many_more heights m)

pub few_more : (places m : ℕ) → placed_more places m ≤ places + 1
few_more places zero = omega arith
few_more places (suc m) = omega arith

pub heights_end : (t : TableView) (single : List Bool) (n : ℕ) (heights : List ℕ) → n ≡ length t.terms → AreHeightsTo t single n heights → AreHeights t.terms single heights
heights_end t single n heights e h = record {
  as_many = h.as_many ∙ e;
  each = λ k u at.
      let lt = slice_get_within t.terms k u at in
      let is : get_or t.terms k no_term ≡ u = get_or_from_slice_get t.terms k u no_term at in
      h.each k (omega (arith, lt, e)) ∙ ap (λ x. height_over (get_or single k false) (greatest_height (height_of t.terms heights) (arguments_of x)) (how_many (take k heights))) is;
}
