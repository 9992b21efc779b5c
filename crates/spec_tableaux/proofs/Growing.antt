-- A row more.
use Rattle.std.proofs.Common.{◌≡◌, ℕ, Bool, true, false, List, [], ◌∷◌, ◌++◌, refl, sym, ◌∙◌, ap, arith, cond, ◌==◌, ◌↔◌}
use Rattle.std.proofs.lemmas.Bool.{or_parts}
use Rattle.std.proofs.lemmas.Bool.Decides.{nat_tests}
use Rattle.spec_tableaux.specs.Spaces.{Space, IsSpace}
use Rattle.spec_tableaux.specs.Rows.{Entry, Row, sum_of, put, plus_times, with_flattened, flattened, with_row, Holds, Solves, row_of, is_basic, AreDistinct}
use Rattle.spec_tableaux.specs.SolvedForms.{IsTidy, AllVariables, AreTidy, AllRowVariables, IsNonbasic, IsSolved}
use Rattle.spec_tableaux.proofs.Sums.{sum_put, three, plus_origin_right}
use Rattle.spec_tableaux.proofs.Exchanges.{row_of_basic, row_holds, or_none}
use Rattle.spec_tableaux.proofs.SolvedForms.{tidy_put, over_put, over_row, over_more, over_both}

sum_plus : {A V : Type 0} (s : Space A V) → IsSpace s → (v : ℕ → V) (k : A) (es fs : List (Entry A)) → sum_of s v (plus_times s.numbers es k fs) ≡ s.plus (s.scale k (sum_of s v fs)) (sum_of s v es)
sum_plus s l v k es [] = sym (ap (λ t. s.plus t (sum_of s v es)) (l.scale_origin k) ∙ l.plus_origin _)
sum_plus s l v k es (f ∷ fs) = sum_put s l v f.variable (s.numbers.times k f.coefficient) (plus_times s.numbers es k fs)
    ∙ (λ i. s.plus (l.product_scale k f.coefficient (v f.variable) i) (sum_plus s l v k es fs i)) ∙ sym (l.plus_associative _ _ _) ∙ ap (λ t. s.plus t (sum_of s v es)) (sym (l.scale_plus k _ _))

-- what is added is worth its variable at every solution
sum_with_flattened : {A V : Type 0} (s : Space A V) → IsSpace s → (v : ℕ → V) (rs : List (Row A)) (es : List (Entry A)) (f : Entry A) → Solves s v rs → sum_of s v (with_flattened s.numbers rs es f) ≡ s.plus (s.scale f.coefficient (v f.variable)) (sum_of s v es)
sum_with_flattened s l v rs es f h = by (is_basic f.variable rs) refl
  where
    by : (q : Bool) → is_basic f.variable rs ≡ q → sum_of s v (cond q (plus_times s.numbers es f.coefficient (row_of f.variable rs).entries) (put s.numbers f.variable f.coefficient es)) ≡ s.plus (s.scale f.coefficient (v f.variable)) (sum_of s v es)
    by true e = sum_plus s l v f.coefficient es (row_of f.variable rs).entries ∙ ap (λ t. s.plus (s.scale f.coefficient t) (sum_of s v es)) (sym (row_holds s v f.variable rs e h).is ∙ ap v (row_of_basic f.variable rs))
    by false e = sum_put s l v f.variable f.coefficient es

pub sum_flattened : {A V : Type 0} (s : Space A V) → IsSpace s → (v : ℕ → V) (rs : List (Row A)) (es fs : List (Entry A)) → Solves s v rs → sum_of s v (flattened s.numbers rs es fs) ≡ s.plus (sum_of s v fs) (sum_of s v es)
sum_flattened s l v rs es [] h = sym (l.plus_origin _)
sum_flattened s l v rs es (f ∷ fs) h = sum_flattened s l v rs (with_flattened s.numbers rs es f) fs h ∙ ap (s.plus (sum_of s v fs)) (sum_with_flattened s l v rs es f h) ∙ three s l _ _ _ ∙ sym (l.plus_associative _ _ _)

pub solves_more : {A V : Type 0} (s : Space A V) (v : ℕ → V) (rs : List (Row A)) (r : Row A) → Solves s v (rs ++ r ∷ []) ↔ (Solves s v rs × Holds s v r)
solves_more s v [] r = (λ h. (tt, h.0), λ h. (h.1, tt))
solves_more s v (q ∷ rs) r = let g = solves_more s v rs r in (λ h. let k = g.0 h.1 in ((h.0, k.0), k.1), λ h. (h.0.0, g.1 (h.0.1, h.1)))

-- the solutions of the rows with one more are those of the rows at which b is the sum
pub row_added : {A V : Type 0} (s : Space A V) → IsSpace s → (v : ℕ → V) (rs : List (Row A)) (b : ℕ) (fs : List (Entry A)) → Solves s v (with_row s.numbers rs b fs) ↔ (Solves s v rs × (v b ≡ sum_of s v fs))
row_added s l v rs b fs =
    let g = solves_more s v rs (record { basic = b; entries = flattened s.numbers rs [] fs }) in
    let same : Solves s v rs → sum_of s v (flattened s.numbers rs [] fs) ≡ sum_of s v fs = λ h. sum_flattened s l v rs [] fs h ∙ plus_origin_right s l _ in
    (λ h. let k = g.0 h in (k.0, k.1.is ∙ same k.0), λ h. g.1 (h.0, record { is = h.1 ∙ sym (same h.0) }))

tidy_plus : {A V : Type 0} (s : Space A V) (k : A) (es gs : List (Entry A)) → IsTidy s.numbers 0 es → IsTidy s.numbers 0 (plus_times s.numbers es k gs)
tidy_plus s k es [] t = t
tidy_plus s k es (g ∷ gs) t = tidy_put s 0 g.variable (s.numbers.times k g.coefficient) (plus_times s.numbers es k gs) (omega arith) (tidy_plus s k es gs t)

over_plus : {A V : Type 0} (s : Space A V) (p : ℕ → Type 0) (k : A) (es gs : List (Entry A)) → AllVariables p es → AllVariables p gs → AllVariables p (plus_times s.numbers es k gs)
over_plus s p k es [] t u = t
over_plus s p k es (g ∷ gs) t u = over_put s p g.variable (s.numbers.times k g.coefficient) (plus_times s.numbers es k gs) u.0 (over_plus s p k es gs t u.1)

pub tidy_flattened : {A V : Type 0} (s : Space A V) (rs : List (Row A)) (es gs : List (Entry A)) → IsTidy s.numbers 0 es → IsTidy s.numbers 0 (flattened s.numbers rs es gs)
tidy_flattened s rs es [] t = t
tidy_flattened s rs es (g ∷ gs) t = tidy_flattened s rs (with_flattened s.numbers rs es g) gs (by (is_basic g.variable rs))
  where
    by : (q : Bool) → IsTidy s.numbers 0 (cond q (plus_times s.numbers es g.coefficient (row_of g.variable rs).entries) (put s.numbers g.variable g.coefficient es))
    by true = tidy_plus s g.coefficient es (row_of g.variable rs).entries t
    by false = tidy_put s 0 g.variable g.coefficient es (omega arith) t

-- p holds of the variables of the rows, and of those that are added as they are
pub over_flattened : {A V : Type 0} (s : Space A V) (p : ℕ → Type 0) (rs : List (Row A)) (es gs : List (Entry A)) → AllRowVariables p rs → AllVariables (λ y. IsNonbasic rs y → p y) gs → AllVariables p es → AllVariables p (flattened s.numbers rs es gs)
over_flattened s p rs es [] o h t = t
over_flattened s p rs es (g ∷ gs) o h t = over_flattened s p rs (with_flattened s.numbers rs es g) gs o h.1 (by (is_basic g.variable rs) refl)
  where
    by : (q : Bool) → is_basic g.variable rs ≡ q → AllVariables p (cond q (plus_times s.numbers es g.coefficient (row_of g.variable rs).entries) (put s.numbers g.variable g.coefficient es))
    by true e = over_plus s p g.coefficient es (row_of g.variable rs).entries t (over_row p g.variable rs o)
    by false e = over_put s p g.variable g.coefficient es (h.0 e) t

pub nonbasic_more : {A : Type 0} (y : ℕ) (rs : List (Row A)) (r : Row A) → is_basic y rs ≡ false → (r.basic == y) ≡ false → is_basic y (rs ++ r ∷ []) ≡ false
nonbasic_more y [] r h k = or_none _ _ k refl
nonbasic_more y (q ∷ rs) r h k = let g = or_parts (q.basic == y) _ h in or_none _ _ g.0 (nonbasic_more y rs r g.1 k)

distinct_more : {A : Type 0} (rs : List (Row A)) (r : Row A) → AreDistinct rs → is_basic r.basic rs ≡ false → AreDistinct (rs ++ r ∷ [])
distinct_more [] r d f = (refl, tt)
distinct_more (q ∷ rs) r d f =
    let g = or_parts (q.basic == r.basic) _ f in
    (nonbasic_more q.basic rs r d.0 (let h : (q.basic == r.basic) ≡ false = g.0 in let k : (r.basic == q.basic) ≡ false = grind (arith, nat_tests) in k), distinct_more rs r d.1 g.1)

tidy_more : {A V : Type 0} (s : Space A V) (rs : List (Row A)) (r : Row A) → AreTidy s.numbers rs → IsTidy s.numbers 0 r.entries → AreTidy s.numbers (rs ++ r ∷ [])
tidy_more s [] r t h = (h, tt)
tidy_more s (q ∷ rs) r t h = (t.0, tidy_more s rs r t.1 h)

pub over_rows : {A : Type 0} (p q : ℕ → Type 0) (rs : List (Row A)) (r : Row A) → ((y : ℕ) → p y → q y) → AllRowVariables p rs → AllVariables p r.entries → AllRowVariables q (rs ++ r ∷ [])
over_rows p q [] r w o h = (over_more p q r.entries w h, tt)
over_rows p q (a ∷ rs) r w o h = (over_more p q a.entries w o.0, over_rows p q rs r w o.1 h)

both_over : {A : Type 0} (p q : ℕ → Type 0) (rs : List (Row A)) → AllRowVariables p rs → AllRowVariables q rs → AllRowVariables (λ y. p y × q y) rs
both_over p q [] a b = tt
both_over p q (r ∷ rs) a b = (over_both p q r.entries a.0 b.0, both_over p q rs a.1 b.1)

-- the rows with one more, of a variable that they do not have, are in solved form
pub added_solved : {A V : Type 0} (s : Space A V) (rs : List (Row A)) (b : ℕ) (gs : List (Entry A)) → IsSolved s.numbers rs → IsNonbasic rs b → AllRowVariables (λ y. (y == b) ≡ false) rs → AllVariables (λ y. (y == b) ≡ false) gs
    → IsSolved s.numbers (with_row s.numbers rs b gs)
added_solved s rs b gs i f new other =
    let fits : ℕ → Type 0 = λ y. IsNonbasic rs y × ((y == b) ≡ false) in
    let rows : AllRowVariables fits rs = both_over (IsNonbasic rs) (λ y. (y == b) ≡ false) rs i.nonbasic new in
    let entries : AllVariables fits (flattened s.numbers rs [] gs) =
    over_flattened s fits rs [] gs rows (over_more (λ y. (y == b) ≡ false) (λ y. IsNonbasic rs y → fits y) gs (λ y h k. (k, h)) other) tt in
    record {
      distinct = distinct_more rs (record { basic = b; entries = flattened s.numbers rs [] gs }) i.distinct f;
      tidy = tidy_more s rs (record { basic = b; entries = flattened s.numbers rs [] gs }) i.tidy (tidy_flattened s rs [] gs tt);
      nonbasic = over_rows fits (IsNonbasic (with_row s.numbers rs b gs)) rs (record { basic = b; entries = flattened s.numbers rs [] gs })
          (λ y h. nonbasic_more y rs (record { basic = b; entries = flattened s.numbers rs [] gs }) h.0 (let g : (y == b) ≡ false = h.1 in let k : (b == y) ≡ false = grind (arith, nat_tests) in k)) rows entries;
    }
