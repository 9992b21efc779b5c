-- An exchange keeps the solved form.
use Rattle.std.proofs.Common.{◌≡◌, ℕ, suc, ◌≤◌, ◌<◌, Bool, true, false, List, [], ◌∷◌, refl, sym, ◌∙◌, ap, arith, cond, ◌==◌, ◌||◌, map, subst}
use Rattle.std.proofs.lemmas.Bool.{or_parts}
use Rattle.std.specs.Prelude.{nat_lt}
use Rattle.std.proofs.lemmas.Bool.Decides.{nat_tests}
use Rattle.spec_tableaux.specs.Spaces.{Space, IsSpace}
use Rattle.spec_tableaux.specs.Rows.{Entry, with_entry, put, minus_times, without, quotients, negated, coefficient_of, Row, row_of, Pivot, is_basic, exchanged_row, exchanged, pivot_row, substituted, substituted_row, AreDistinct, pivot_of}
use Rattle.spec_tableaux.specs.SolvedForms.{IsTidy, AllVariables, AllRowVariables, AreTidy, IsSolved, IsNonbasic}
use Rattle.spec_tableaux.proofs.Signs.{product_not_zero, inverse_not_zero, opposite_not_zero}
use Rattle.spec_tableaux.proofs.Exchanges.{or_none}

pub tidy_from : {A V : Type 0} (s : Space A V) (at to : ℕ) (es : List (Entry A)) → at ≤ to → IsTidy s.numbers to es → IsTidy s.numbers at es
tidy_from s at to [] h t = tt
tidy_from s at to (e ∷ es) h t = (omega (arith, t.0), t.1, t.2)

tidy_with : {A V : Type 0} (s : Space A V) (at x : ℕ) (c : A) (es : List (Entry A)) → at ≤ x → IsTidy s.numbers (suc x) es → IsTidy s.numbers at (with_entry s.numbers x c es)
tidy_with s at x c es h t = by (s.numbers.is_zero c) refl
  where
    by : (q : Bool) → s.numbers.is_zero c ≡ q → IsTidy s.numbers at (cond q es (record { variable = x; coefficient = c } ∷ es))
    by true e = tidy_from s at (suc x) es (omega arith) t
    by false e = (h, e, t)

pub tidy_put : {A V : Type 0} (s : Space A V) (at x : ℕ) (c : A) (es : List (Entry A)) → at ≤ x → IsTidy s.numbers at es → IsTidy s.numbers at (put s.numbers x c es)
tidy_put s at x c [] h t = tidy_with s at x c [] h tt
tidy_put s at x c (e ∷ es) h t = by (λ k. tidy_put s (suc e.variable) x c es k t.2) (nat_lt x e.variable) refl (x == e.variable) refl
  where
    by : (suc e.variable ≤ x → IsTidy s.numbers (suc e.variable) (put s.numbers x c es)) → (p : Bool) → nat_lt x e.variable ≡ p → (q : Bool) → (x == e.variable) ≡ q
        → IsTidy s.numbers at (cond p (with_entry s.numbers x c (e ∷ es)) (cond q (with_entry s.numbers x (s.numbers.plus e.coefficient c) es) (e ∷ put s.numbers x c es)))
    by go true i q j = tidy_with s at x c (e ∷ es) h (grind (arith, nat_tests), t.1, t.2)
    by go false i true j = let k : x ≡ e.variable = grind (arith, nat_tests) in tidy_with s at x (s.numbers.plus e.coefficient c) es h (subst (λ y. IsTidy s.numbers (suc y) es) (sym k) t.2)
    by go false i false j = (t.0, t.1, go (grind (arith, nat_tests)))

pub tidy_minus : {A V : Type 0} (s : Space A V) (k : A) (es fs : List (Entry A)) → IsTidy s.numbers 0 es → IsTidy s.numbers 0 (minus_times s.numbers es k fs)
tidy_minus s k es [] t = t
tidy_minus s k es (f ∷ fs) t = tidy_put s 0 f.variable (s.numbers.opposite (s.numbers.times k f.coefficient)) (minus_times s.numbers es k fs) (omega arith) (tidy_minus s k es fs t)

pub tidy_without : {A V : Type 0} (s : Space A V) (at x : ℕ) (es : List (Entry A)) → IsTidy s.numbers at es → IsTidy s.numbers at (without x es)
tidy_without s at x [] t = tt
tidy_without s at x (e ∷ es) t = by (tidy_without s (suc e.variable) x es t.2) (e.variable == x)
  where
    by : IsTidy s.numbers (suc e.variable) (without x es) → (q : Bool) → IsTidy s.numbers at (cond q es (e ∷ without x es))
    by go true = tidy_from s at (suc e.variable) es (omega (arith, t.0)) t.2
    by go false = (t.0, t.1, go)

pub tidy_quotients : {A V : Type 0} (s : Space A V) → IsSpace s → (at : ℕ) (d : A) (es : List (Entry A)) → s.numbers.is_zero d ≡ false → IsTidy s.numbers at es → IsTidy s.numbers at (quotients s.numbers d es)
tidy_quotients s l at d [] z t = tt
tidy_quotients s l at d (e ∷ es) z t = (t.0, (product_not_zero s.numbers l.numbers) _ _ t.1 ((inverse_not_zero s.numbers l.numbers) d z), tidy_quotients s l (suc e.variable) d es z t.2)

pub tidy_negated : {A V : Type 0} (s : Space A V) → IsSpace s → (at : ℕ) (es : List (Entry A)) → IsTidy s.numbers at es → IsTidy s.numbers at (negated s.numbers es)
tidy_negated s l at [] t = tt
tidy_negated s l at (e ∷ es) t = (t.0, (opposite_not_zero s.numbers l.numbers) _ t.1, tidy_negated s l (suc e.variable) es t.2)

over_with : {A V : Type 0} (s : Space A V) (p : ℕ → Type 0) (x : ℕ) (c : A) (es : List (Entry A)) → p x → AllVariables p es → AllVariables p (with_entry s.numbers x c es)
over_with s p x c es h t = by (s.numbers.is_zero c)
  where
    by : (q : Bool) → AllVariables p (cond q es (record { variable = x; coefficient = c } ∷ es))
    by true = t
    by false = (h, t)

pub over_put : {A V : Type 0} (s : Space A V) (p : ℕ → Type 0) (x : ℕ) (c : A) (es : List (Entry A)) → p x → AllVariables p es → AllVariables p (put s.numbers x c es)
over_put s p x c [] h t = over_with s p x c [] h tt
over_put s p x c (e ∷ es) h t = by (over_put s p x c es h t.1) (nat_lt x e.variable) (x == e.variable)
  where
    by : AllVariables p (put s.numbers x c es) → (a b : Bool) → AllVariables p (cond a (with_entry s.numbers x c (e ∷ es)) (cond b (with_entry s.numbers x (s.numbers.plus e.coefficient c) es) (e ∷ put s.numbers x c es)))
    by go true b = over_with s p x c (e ∷ es) h t
    by go false true = over_with s p x (s.numbers.plus e.coefficient c) es h t.1
    by go false false = (t.0, go)

pub over_minus : {A V : Type 0} (s : Space A V) (p : ℕ → Type 0) (k : A) (es fs : List (Entry A)) → AllVariables p es → AllVariables p fs → AllVariables p (minus_times s.numbers es k fs)
over_minus s p k es [] t u = t
over_minus s p k es (f ∷ fs) t u = over_put s p f.variable (s.numbers.opposite (s.numbers.times k f.coefficient)) (minus_times s.numbers es k fs) u.0 (over_minus s p k es fs t u.1)

pub over_quotients : {A V : Type 0} (s : Space A V) (p : ℕ → Type 0) (d : A) (es : List (Entry A)) → AllVariables p es → AllVariables p (quotients s.numbers d es)
over_quotients s p d [] t = tt
over_quotients s p d (e ∷ es) t = (t.0, over_quotients s p d es t.1)

pub over_negated : {A V : Type 0} (s : Space A V) (p : ℕ → Type 0) (es : List (Entry A)) → AllVariables p es → AllVariables p (negated s.numbers es)
over_negated s p [] t = tt
over_negated s p (e ∷ es) t = (t.0, over_negated s p es t.1)

pub over_more : {A : Type 0} (p q : ℕ → Type 0) (es : List (Entry A)) → ((y : ℕ) → p y → q y) → AllVariables p es → AllVariables q es
over_more p q [] w t = tt
over_more p q (e ∷ es) w t = (w e.variable t.0, over_more p q es w t.1)

-- the variables of a tidy list from `at` on are not below
pub over_from : {A V : Type 0} (s : Space A V) (at x : ℕ) (es : List (Entry A)) → x < at → IsTidy s.numbers at es → AllVariables (λ y. (y == x) ≡ false) es
over_from s at x [] h t = tt
over_from s at x (e ∷ es) h t = (let k : x < e.variable = omega (arith, t.0) in grind (arith, nat_tests), over_from s (suc e.variable) x es (omega (arith, t.0)) t.2)

pub over_both : {A : Type 0} (p q : ℕ → Type 0) (fs : List (Entry A)) → AllVariables p fs → AllVariables q fs → AllVariables (λ y. p y × q y) fs
over_both p q [] a b = tt
over_both p q (f ∷ fs) a b = ((a.0, b.0), over_both p q fs a.1 b.1)

-- x is not there any more
pub over_without : {A V : Type 0} (s : Space A V) (p : ℕ → Type 0) (at x : ℕ) (es : List (Entry A)) → IsTidy s.numbers at es → AllVariables p es → AllVariables (λ y. p y × ((y == x) ≡ false)) (without x es)
over_without s p at x [] t o = tt
over_without s p at x (e ∷ es) t o = by (over_without s p (suc e.variable) x es t.2 o.1) (e.variable == x) refl
  where
    by : AllVariables (λ y. p y × ((y == x) ≡ false)) (without x es) → (q : Bool) → (e.variable == x) ≡ q → AllVariables (λ y. p y × ((y == x) ≡ false)) (cond q es (e ∷ without x es))
    by go true h = over_both p (λ y. (y == x) ≡ false) es o.1 (over_from s (suc e.variable) x es (let k : e.variable ≡ x = grind (arith, nat_tests) in omega arith) t.2)
    by go false h = ((o.0, h), go)

-- a tidy list whose coefficient_of of x is 0 has no entry of x
pub entry_absent : {A V : Type 0} (s : Space A V) (at x : ℕ) (es : List (Entry A)) → IsTidy s.numbers at es → s.numbers.is_zero (coefficient_of s.numbers x es) ≡ true → AllVariables (λ y. (y == x) ≡ false) es
entry_absent s at x [] t z = tt
entry_absent s at x (e ∷ es) t z = by (e.variable == x) refl (entry_absent s (suc e.variable) x es t.2) z
  where
    by : (q : Bool) → (e.variable == x) ≡ q → (s.numbers.is_zero (coefficient_of s.numbers x es) ≡ true → AllVariables (λ y. (y == x) ≡ false) es) → s.numbers.is_zero (cond q e.coefficient (coefficient_of s.numbers x es)) ≡ true → ((e.variable == x) ≡ false) × AllVariables (λ y. (y == x) ≡ false) es
    by true h g z = absurd (let k = t.1 in cc)
    by false h g z = (h, g z)

pub over_row : {A : Type 0} (p : ℕ → Type 0) (b : ℕ) (rs : List (Row A)) → AllRowVariables p rs → AllVariables p (row_of b rs).entries
over_row p b [] o = tt
over_row p b (r ∷ rs) o = by (over_row p b rs o.1) (r.basic == b)
  where
    by : AllVariables p (row_of b rs).entries → (q : Bool) → AllVariables p (cond q r (row_of b rs)).entries
    by go true = o.0
    by go false = go

pub tidy_row : {A V : Type 0} (s : Space A V) (b : ℕ) (rs : List (Row A)) → AreTidy s.numbers rs → IsTidy s.numbers 0 (row_of b rs).entries
tidy_row s b [] t = tt
tidy_row s b (r ∷ rs) t = by (tidy_row s b rs t.1) (r.basic == b)
  where
    by : IsTidy s.numbers 0 (row_of b rs).entries → (q : Bool) → IsTidy s.numbers 0 (cond q r (row_of b rs)).entries
    by go true = t.0
    by go false = go

-- what is neither basic nor entering is not basic afterwards
pub nonbasic_after : {A V : Type 0} (s : Space A V) (t : Pivot A) (y : ℕ) (rs : List (Row A)) → is_basic y rs ≡ false → (t.entering == y) ≡ false → is_basic y (map (exchanged_row s.numbers t) rs) ≡ false
nonbasic_after s t y [] f h = refl
nonbasic_after s t y (r ∷ rs) f h = by (nonbasic_after s t y rs (or_parts _ _ f).1 h) (r.basic == t.leaving)
  where
    by : is_basic y (map (exchanged_row s.numbers t) rs) ≡ false → (q : Bool) → ((cond q (pivot_row s.numbers t) (substituted_row s.numbers t r)).basic == y || is_basic y (map (exchanged_row s.numbers t) rs)) ≡ false
    by go true = or_none _ _ h go
    by go false = or_none _ _ (or_parts _ _ f).0 go

-- nor is what left
pub leaving_nonbasic : {A V : Type 0} (s : Space A V) (t : Pivot A) (rs : List (Row A)) → (t.entering == t.leaving) ≡ false → is_basic t.leaving (map (exchanged_row s.numbers t) rs) ≡ false
leaving_nonbasic s t [] h = refl
leaving_nonbasic s t (r ∷ rs) h = by (leaving_nonbasic s t rs h) (r.basic == t.leaving) refl
  where
    by : is_basic t.leaving (map (exchanged_row s.numbers t) rs) ≡ false → (q : Bool) → (r.basic == t.leaving) ≡ q → ((cond q (pivot_row s.numbers t) (substituted_row s.numbers t r)).basic == t.leaving || is_basic t.leaving (map (exchanged_row s.numbers t) rs)) ≡ false
    by go true e = or_none _ _ h go
    by go false e = or_none _ _ e go

-- rows without the leaving variable keep their basic variables
same_basics : {A V : Type 0} (s : Space A V) (t : Pivot A) (y : ℕ) (rs : List (Row A)) → is_basic t.leaving rs ≡ false → is_basic y (map (exchanged_row s.numbers t) rs) ≡ is_basic y rs
same_basics s t y [] h = refl
same_basics s t y (r ∷ rs) h = by (r.basic == t.leaving) (or_parts _ _ h).0 ∙ ap (λ z. r.basic == y || z) (same_basics s t y rs (or_parts _ _ h).1)
  where
    by : (q : Bool) → q ≡ false → ((cond q (pivot_row s.numbers t) (substituted_row s.numbers t r)).basic == y || is_basic y (map (exchanged_row s.numbers t) rs)) ≡ (r.basic == y || is_basic y (map (exchanged_row s.numbers t) rs))
    by true e = absurd (cc)
    by false e = refl

distinct_after : {A V : Type 0} (s : Space A V) (t : Pivot A) (rs : List (Row A)) → AreDistinct rs → is_basic t.entering rs ≡ false → AreDistinct (map (exchanged_row s.numbers t) rs)
distinct_after s t [] d f = tt
distinct_after s t (r ∷ rs) d f = (by (r.basic == t.leaving) refl, distinct_after s t rs d.1 (or_parts _ _ f).1)
  where
    by : (q : Bool) → (r.basic == t.leaving) ≡ q → is_basic (cond q (pivot_row s.numbers t) (substituted_row s.numbers t r)).basic (map (exchanged_row s.numbers t) rs) ≡ false
    by true e = same_basics s t t.entering rs (subst (λ z. is_basic z rs ≡ false) (let k : r.basic ≡ t.leaving = grind (arith, nat_tests) in k) d.0) ∙ (or_parts _ _ f).1
    by false e = nonbasic_after s t r.basic rs d.0 (let g : (r.basic == t.entering) ≡ false = (or_parts _ _ f).0 in let k : (t.entering == r.basic) ≡ false = grind (arith, nat_tests) in k)

tidy_substituted : {A V : Type 0} (s : Space A V) (t : Pivot A) (c : A) (es : List (Entry A)) → IsTidy s.numbers 0 es → IsTidy s.numbers 0 (substituted s.numbers t c es)
tidy_substituted s t c es i = by (s.numbers.is_zero c)
  where
    by : (q : Bool) → IsTidy s.numbers 0 (cond q es (put s.numbers t.leaving (s.numbers.times c t.factor) (minus_times s.numbers (without t.entering es) c t.others)))
    by true = i
    by false = tidy_put s 0 t.leaving (s.numbers.times c t.factor) (minus_times s.numbers (without t.entering es) c t.others) (omega arith) (tidy_minus s c (without t.entering es) t.others (tidy_without s 0 t.entering es i))

tidy_after : {A V : Type 0} (s : Space A V) (t : Pivot A) (rs : List (Row A)) → IsTidy s.numbers 0 (pivot_row s.numbers t).entries → AreTidy s.numbers rs → AreTidy s.numbers (map (exchanged_row s.numbers t) rs)
tidy_after s t [] m i = tt
tidy_after s t (r ∷ rs) m i = (by (r.basic == t.leaving), tidy_after s t rs m i.1)
  where
    by : (q : Bool) → IsTidy s.numbers 0 (cond q (pivot_row s.numbers t) (substituted_row s.numbers t r)).entries
    by true = m
    by false = tidy_substituted s t (coefficient_of s.numbers t.entering r.entries) r.entries i.0

-- q holds of what leaves, of the others of the turn, and of what p holds of but for the entering variable
pub record Carries (A : Type 0) (p q : ℕ → Type 0) (t : Pivot A) : Type 0 where
  pub stay : (y : ℕ) → p y → (y == t.entering) ≡ false → q y
  pub leave : q t.leaving
  pub others : AllVariables q t.others

-- an entry of x is there, or its coefficient_of is 0
over_substituted : {A V : Type 0} (s : Space A V) → IsSpace s → (p q : ℕ → Type 0) (t : Pivot A) (es : List (Entry A)) → Carries A p q t → IsTidy s.numbers 0 es → AllVariables p es → AllVariables q (substituted s.numbers t (coefficient_of s.numbers t.entering es) es)
over_substituted s l p q t es w i o = by (s.numbers.is_zero (coefficient_of s.numbers t.entering es)) refl
  where
    by : (z : Bool) → s.numbers.is_zero (coefficient_of s.numbers t.entering es) ≡ z → AllVariables q (cond z es (put s.numbers t.leaving (s.numbers.times (coefficient_of s.numbers t.entering es) t.factor) (minus_times s.numbers (without t.entering es) (coefficient_of s.numbers t.entering es) t.others)))
    by true e = over_more (λ y. p y × ((y == t.entering) ≡ false)) q es (λ y h. w.stay y h.0 h.1) (over_both p (λ y. (y == t.entering) ≡ false) es o (entry_absent s 0 t.entering es i e))
    by false e = over_put s q t.leaving _ (minus_times s.numbers (without t.entering es) (coefficient_of s.numbers t.entering es) t.others) w.leave
        (over_minus s q (coefficient_of s.numbers t.entering es) (without t.entering es) t.others
        (over_more (λ y. p y × ((y == t.entering) ≡ false)) q (without t.entering es) (λ y h. w.stay y h.0 h.1) (over_without s p 0 t.entering es i o)) w.others)

pub over_after : {A V : Type 0} (s : Space A V) → IsSpace s → (p q : ℕ → Type 0) (t : Pivot A) (rs : List (Row A)) → Carries A p q t → AreTidy s.numbers rs → AllRowVariables p rs → AllVariables q (pivot_row s.numbers t).entries → AllRowVariables q (map (exchanged_row s.numbers t) rs)
over_after s l p q t [] w i o m = tt
over_after s l p q t (r ∷ rs) w i o m = (by (r.basic == t.leaving), over_after s l p q t rs w i.1 o.1 m)
  where
    by : (g : Bool) → AllVariables q (cond g (pivot_row s.numbers t) (substituted_row s.numbers t r)).entries
    by true = m
    by false = over_substituted s l p q t r.entries w i.0 o.0

pub apart : {A : Type 0} (b x : ℕ) (rs : List (Row A)) → is_basic b rs ≡ true → is_basic x rs ≡ false → (x == b) ≡ false
apart b x rs m f = by (x == b) refl
  where
    by : (q : Bool) → (x == b) ≡ q → q ≡ false
    by true e = let k : x ≡ b = grind (arith, nat_tests) in sym m ∙ ap (λ t. is_basic t rs) (sym k) ∙ f
    by false e = refl

-- the rows after an exchange are in solved form
pub exchange_solved : {A V : Type 0} (s : Space A V) → IsSpace s → (b x : ℕ) (rs : List (Row A)) → IsSolved s.numbers rs → is_basic b rs ≡ true → is_basic x rs ≡ false
    → s.numbers.is_zero (coefficient_of s.numbers x (row_of b rs).entries) ≡ false → IsSolved s.numbers (exchanged s.numbers b x rs)
exchange_solved s l b x rs i m f z =
    let es = (row_of b rs).entries in
    let t = pivot_of s.numbers b x es in
    let tidy : IsTidy s.numbers 0 (pivot_row s.numbers t).entries = tidy_put s 0 b t.factor (negated s.numbers t.others) (omega arith)
    (tidy_negated s l 0 t.others (tidy_quotients s l 0 (coefficient_of s.numbers x es) (without x es) z (tidy_without s 0 x es (tidy_row s b rs i.tidy)))) in
    let stay : (y : ℕ) → IsNonbasic rs y → (y == x) ≡ false → IsNonbasic (exchanged s.numbers b x rs) y = λ y h g. nonbasic_after s t y rs h (let k : (x == y) ≡ false = grind (arith, nat_tests) in k) in
    let leave : IsNonbasic (exchanged s.numbers b x rs) b = leaving_nonbasic s t rs (apart b x rs m f) in
    let others : AllVariables (IsNonbasic (exchanged s.numbers b x rs)) t.others = over_quotients s (IsNonbasic (exchanged s.numbers b x rs)) (coefficient_of s.numbers x es) (without x es)
    (over_more (λ y. IsNonbasic rs y × ((y == x) ≡ false)) (IsNonbasic (exchanged s.numbers b x rs)) (without x es) (λ y h. stay y h.0 h.1) (over_without s (IsNonbasic rs) 0 x es (tidy_row s b rs i.tidy) (over_row (IsNonbasic rs) b rs i.nonbasic))) in
    record {
      distinct = distinct_after s t rs i.distinct f;
      tidy = tidy_after s t rs tidy i.tidy;
      nonbasic = over_after s l (IsNonbasic rs) (IsNonbasic (exchanged s.numbers b x rs)) t rs (record { stay = stay; leave = leave; others = others }) i.tidy i.nonbasic
          (over_put s (IsNonbasic (exchanged s.numbers b x rs)) b t.factor (negated s.numbers t.others) leave (over_negated s (IsNonbasic (exchanged s.numbers b x rs)) t.others others));
    }
