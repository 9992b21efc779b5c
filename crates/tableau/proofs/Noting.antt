-- Columns to which row numbers are added, or from which one is taken.
use Rattle.std.proofs.Common.{◌≡◌, ◌≢◌, ℕ, suc, ◌<◌, ◌≤◌, ◌==◌, Bool, true, false, cond, nat_eq, nat_lt, ◌+◌, List, [], ◌∷◌, ◌++◌, append_assoc, length, set, Contains, Result, Ok, Err, OnOk, OnErr, inl, inr, refl, sym, ap, ◌∙◌, subst, arith, true≢false}
use Rattle.std.specs.Prelude.{◌↔◌, ◌⊎◌}
use Rattle.std.specs.List.{list_any}
use Rattle.std.proofs.lemmas.Bool.{eq-eqb}
use Rattle.std.proofs.lemmas.Bool.Decides.{nat_tests, Decides-eqb}
use Rattle.std.proofs.lemmas.List.{append-nil, set-get_or, get_or_past, get_or-set_same, get_or-set_other, length-set}
use Rattle.std.proofs.lemmas.Map.Made.{is_member-Decides}
use Rattle.spec_tableaux.specs.Rows.{Entry, Row, coefficient_of}
use Rattle.spec_tableaux.specs.SolvedForms.{IsTidy, AllVariables}
use Rattle.spec_tableaux.specs.Numbers.{Number, numbers}
use Rattle.spec_tableaux.proofs.SolvedForms.{over_more}
use Rattle.tableau.specs.Pivots.{NewRow, AllNumbers}
use Rattle.tableau.specs.Views.{row_at}
use Rattle.tableau.specs.Kept.{column_at, AreColumns, HasGrown, IsNoted, AreNoted, RowsAreNoted, Forgets, AreOverColumns}

pub member : (ks : List ℕ) (k : ℕ) → list_any (nat_eq k) ks ≡ true → Contains ks k
member ks k = (is_member-Decides Decides-eqb ks k).0

pub is_member_of : (ks : List ℕ) (k : ℕ) → Contains ks k → list_any (nat_eq k) ks ≡ true
is_member_of ks k = (is_member-Decides Decides-eqb ks k).1

-- the set without a number
pub removed : (old new : List ℕ) (n : ℕ) (test : ℕ → Bool) → ((k : ℕ) → test k ≡ nat_eq n k) → ((k : ℕ) → list_any (nat_eq k) new ≡ cond (test k) false (list_any (nat_eq k) old))
    → (k : ℕ) → Contains new k ↔ (Contains old k × (k ≢ n))
removed old new n test t h k = (to, from)
  where
    to : Contains new k → Contains old k × (k ≢ n)
    to c = by (test k) refl
      where
        by : (b : Bool) → test k ≡ b → Contains old k × (k ≢ n)
        by true e = absurd (true≢false (sym (is_member_of new k c) ∙ h k ∙ ap (λ b. cond b false (list_any (nat_eq k) old)) e))
        by false e = (member old k (sym (ap (λ b. cond b false (list_any (nat_eq k) old)) e) ∙ sym (h k) ∙ is_member_of new k c), λ s. true≢false (sym ((Decides-eqb n k).1 (sym s)) ∙ sym (t k) ∙ e))

    from : Contains old k × (k ≢ n) → Contains new k
    from c = by (test k) refl
      where
        by : (b : Bool) → test k ≡ b → Contains new k
        by true e = absurd (c.1 (sym ((Decides-eqb n k).0 (sym (t k) ∙ e))))
        by false e = member new k (h k ∙ ap (λ b. cond b false (list_any (nat_eq k) old)) e ∙ is_member_of old k c.0)

pub grown_none : (p : ℕ → Type 0) (old new : List (List ℕ)) → new ≡ old → HasGrown p old new
grown_none p old new e = record { count = ap length e; kept = λ y k c. subst (λ z. Contains (column_at z y) k) (sym e) c; others = λ y k c. inl (subst (λ z. Contains (column_at z y) k) e c) }

-- a column for another one
column_set : (old : List (List ℕ)) (y z : ℕ) (c : List ℕ) → y < length old → (z ≡ y → column_at (set old y c) z ≡ c) × (z ≢ y → column_at (set old y c) z ≡ column_at old z)
column_set old y z c l = (λ e. ap (λ x. column_at (set old y c) x) e ∙ get_or-set_same old y c [] l, λ n. get_or-set_other old y z c [] n)

-- each column is another one, or as it was
pub by_column : (P : ℕ → List ℕ → Type 0) (old : List (List ℕ)) (y : ℕ) (c : List ℕ) → y < length old → P y c → ((z : ℕ) → z ≢ y → P z (column_at old z)) → (z : ℕ) → P z (column_at (set old y c) z)
by_column P old y c l here others z = by (z == y) refl
  where
    by : (b : Bool) → (z == y) ≡ b → P z (column_at (set old y c) z)
    by true e = let s : z ≡ y = grind (arith, nat_tests) in subst (P z) (sym ((column_set old y z c l).0 s)) (subst (λ x. P x c) (sym s) here)
    by false e = let s : z ≢ y = λ q. absurd (grind (arith, nat_tests)) in subst (P z) (sym ((column_set old y z c l).1 s)) (others z s)

-- a number came into a column
pub grown_one : (old new : List (List ℕ)) (y n : ℕ) (c : List ℕ) → y < length old → new ≡ set old y c → ((k : ℕ) → Contains c k ↔ (Contains (column_at old y) k ⊎ (k ≡ n))) → HasGrown (λ k. k ≡ n) old new
grown_one old new y n c l e h = subst (HasGrown (λ k. k ≡ n) old) (sym e) (record {
  count = length-set old y c;
  kept = by_column (λ z ks. (k : ℕ) → Contains (column_at old z) k → Contains ks k) old y c l (λ k i. (h k).1 (inl i)) (λ z o k i. i);
  others = by_column (λ z ks. (k : ℕ) → Contains ks k → Contains (column_at old z) k ⊎ (k ≡ n)) old y c l (λ k i. (h k).0 i) (λ z o k i. inl i);
})

pub noted_one : (old new : List (List ℕ)) (y n : ℕ) (c : List ℕ) → y < length old → new ≡ set old y c → ((k : ℕ) → Contains c k ↔ (Contains (column_at old y) k ⊎ (k ≡ n))) → Contains (column_at new y) n
noted_one old new y n c l e h = subst (λ z. Contains (column_at z y) n) (sym e) (subst (λ z. Contains z n) (sym (get_or-set_same old y c [] l)) ((h n).1 (inr refl)))

pub grown_then : (p q : ℕ → Type 0) (a b c : List (List ℕ)) → ((k : ℕ) → q k → p k) → HasGrown p a b → HasGrown q b c → HasGrown p a c
grown_then p q a b c w g h = record {
  count = h.count ∙ g.count;
  kept = λ y k i. h.kept y k (g.kept y k i);
  others = λ y k i. elim (h.others y k i) [ inl o ↦ g.others y k o | inr n ↦ inr (w k n) ];
}

pub noted_more : (p : ℕ → Type 0) (a b : List (List ℕ)) (n : ℕ) (es : List (Entry Number)) → HasGrown p a b → IsNoted a n es → IsNoted b n es
noted_more p a b n es g i = over_more (λ y. Contains (column_at a y) n) (λ y. Contains (column_at b y) n) es (λ y c. g.kept y n c) i

pub all_noted_more : (p : ℕ → Type 0) (a b : List (List ℕ)) (cs : List NewRow) → HasGrown p a b → AreNoted a cs → AreNoted b cs
all_noted_more p a b [] g i = tt
all_noted_more p a b (c ∷ cs) g i = (noted_more p a b c.number c.row.entries g i.0, all_noted_more p a b cs g i.1)

-- what is so of each variable with a coefficient is so of the entries
over_tidy : (p : ℕ → Type 0) (from : ℕ) (es : List (Entry Number)) → IsTidy numbers from es → ((y : ℕ) → from ≤ y → numbers.is_zero (coefficient_of numbers y es) ≡ false → p y) → AllVariables p es
over_tidy p from [] t h = tt
over_tidy p from (e ∷ es) t h = (
  h e.variable t.0 (ap (λ b. numbers.is_zero (cond b e.coefficient (coefficient_of numbers e.variable es))) (eq-eqb e.variable e.variable refl) ∙ t.1),
  over_tidy p (suc e.variable) es t.2 (λ y l z. h y (let k = t.0 in omega (arith, l, k)) (ap (λ b. numbers.is_zero (cond b e.coefficient (coefficient_of numbers y es))) (let n : (e.variable == y) ≡ false = grind (arith, nat_tests) in n) ∙ z)),
)

-- the rows' numbers are in the columns of their entries
pub rows_known : (rs : List (Row Number)) (columns : List (List ℕ)) → ((k : ℕ) → k < length rs → IsTidy numbers 0 (row_at rs k).entries) → AreColumns rs columns → RowsAreNoted columns rs
rows_known rs columns t a k l = over_tidy (λ y. Contains (column_at columns y) k) 0 (row_at rs k).entries (t k l) (λ y h z. a.covers y k l z)

over_last : {A : Type 0} (p : ℕ → Type 0) (es : List (Entry A)) (e : Entry A) → AllVariables p es → p e.variable → AllVariables p (es ++ e ∷ [])
over_last p [] e o h = (h, tt)
over_last p (d ∷ es) e o h = (o.0, over_last p es e o.1 h)

noted_last : (a : List (List ℕ)) (cs : List NewRow) (c : NewRow) → AreNoted a cs → IsNoted a c.number c.row.entries → AreNoted a (cs ++ c ∷ [])
noted_last a [] c o h = (h, tt)
noted_last a (d ∷ cs) c o h = (o.0, noted_last a cs c o.1 h)

-- a number is in the columns of the entries up to here
pub record NotedSoFar (columns : List (List ℕ)) (n : ℕ) (whole rest : List (Entry Number)) : Type 0 where
  pub before : List (Entry Number)
  pub split : whole ≡ before ++ rest
  pub noted : IsNoted columns n before

pub none_so_far : (columns : List (List ℕ)) (n : ℕ) (whole : List (Entry Number)) → NotedSoFar columns n whole whole
none_so_far columns n whole = record { before = []; split = refl; noted = tt }

pub one_so_far : (p : ℕ → Type 0) (a b : List (List ℕ)) (n : ℕ) (whole rest more : List (Entry Number)) (e : Entry Number) → rest ≡ e ∷ more → HasGrown p a b → Contains (column_at b e.variable) n
    → NotedSoFar a n whole rest → NotedSoFar b n whole more
one_so_far p a b n whole rest more e g w c s = record {
  before = s.before ++ e ∷ [];
  split = s.split ∙ ap (λ z. s.before ++ z) g ∙ sym (append_assoc s.before (e ∷ []) more);
  noted = over_last (λ y. Contains (column_at b y) n) s.before e (noted_more p a b n s.before w s.noted) c;
}

pub all_so_far : (columns : List (List ℕ)) (n : ℕ) (whole rest : List (Entry Number)) → rest ≡ [] → NotedSoFar columns n whole rest → IsNoted columns n whole
all_so_far columns n whole rest e s = subst (IsNoted columns n) (sym (s.split ∙ ap (λ z. s.before ++ z) e ∙ append-nil s.before)) s.noted

-- the numbers of the changes up to here are in the columns of their entries
pub record ChangesSoFar (columns : List (List ℕ)) (whole rest : List NewRow) : Type 0 where
  pub before : List NewRow
  pub split : whole ≡ before ++ rest
  pub noted : AreNoted columns before

pub no_changes : (columns : List (List ℕ)) (whole : List NewRow) → ChangesSoFar columns whole whole
no_changes columns whole = record { before = []; split = refl; noted = tt }

pub one_change : (p : ℕ → Type 0) (a b : List (List ℕ)) (whole rest more : List NewRow) (c : NewRow) → rest ≡ c ∷ more → HasGrown p a b → IsNoted b c.number c.row.entries
    → ChangesSoFar a whole rest → ChangesSoFar b whole more
one_change p a b whole rest more c g w i s = record {
  before = s.before ++ c ∷ [];
  split = s.split ∙ ap (λ z. s.before ++ z) g ∙ sym (append_assoc s.before (c ∷ []) more);
  noted = noted_last b s.before c (all_noted_more p a b s.before w s.noted) i;
}

pub all_changes : (columns : List (List ℕ)) (whole rest : List NewRow) → rest ≡ [] → ChangesSoFar columns whole rest → AreNoted columns whole
all_changes columns whole rest e s = subst (AreNoted columns) (sym (s.split ∙ ap (λ z. s.before ++ z) e ∙ append-nil s.before)) s.noted

-- the first change of those that are left
pub numbered_first : (p : ℕ → Type 0) (cs more : List NewRow) (c : NewRow) → cs ≡ c ∷ more → AllNumbers p cs → p c.number × AllNumbers p more
numbered_first p cs more c e h = subst (AllNumbers p) e h

pub columns_first : (n : ℕ) (cs more : List NewRow) (c : NewRow) → cs ≡ c ∷ more → AreOverColumns n cs → AllVariables (λ y. y < n) c.row.entries × AreOverColumns n more
columns_first n cs more c e h = subst (AreOverColumns n) e h

-- a number went out of the columns up to here
pub record ForgetsSoFar (n at : ℕ) (old new : List (List ℕ)) : Type 0 where
  pub count : length new ≡ length old
  pub kept : (y k : ℕ) → k ≢ n → Contains (column_at old y) k → Contains (column_at new y) k
  pub others : (y k : ℕ) → Contains (column_at new y) k → Contains (column_at old y) k
  pub gone : (y k : ℕ) → y < at → Contains (column_at new y) k → k ≢ n

pub forgets_none : (n : ℕ) (old : List (List ℕ)) → ForgetsSoFar n 0 old old
forgets_none n old = record { count = refl; kept = λ y k o c. c; others = λ y k c. c; gone = λ y k l c. absurd (omega arith) }

pub forgets_one : (n at to : ℕ) (old new next : List (List ℕ)) (c : List ℕ) → at < length new → to ≡ at + 1 → next ≡ set new at c → ((k : ℕ) → Contains c k ↔ (Contains (column_at new at) k × (k ≢ n)))
    → ForgetsSoFar n at old new → ForgetsSoFar n to old next
forgets_one n at to old new next c l t e h s = subst (ForgetsSoFar n to old) (sym e) (record {
  count = length-set new at c ∙ s.count;
  kept = by_column (λ y ks. (k : ℕ) → k ≢ n → Contains (column_at old y) k → Contains ks k) new at c l (λ k o i. (h k).1 (s.kept at k o i, o)) (λ y o k q i. s.kept y k q i);
  others = by_column (λ y ks. (k : ℕ) → Contains ks k → Contains (column_at old y) k) new at c l (λ k i. s.others at k ((h k).0 i).0) (λ y o k i. s.others y k i);
  gone = λ y k. by_column (λ y ks. (k : ℕ) → y < to → Contains ks k → k ≢ n) new at c l (λ k q i. ((h k).0 i).1) (λ y o k q i. s.gone y k (omega (arith, o)) i) y k;
})

past : (columns : List (List ℕ)) (y k : ℕ) → length columns ≤ y → Contains (column_at columns y) k → ⊥
past columns y k l c = let d = subst (λ z. Contains z k) (get_or_past columns y [] l) c in omega (arith, d.1)

pub forgets_all : (n at : ℕ) (old new : List (List ℕ)) → length new ≤ at → ForgetsSoFar n at old new → Forgets n old new
forgets_all n at old new l s = record {
  count = s.count;
  kept = s.kept;
  others = λ y k c. (s.others y k c, s.gone y k (low y k c) c);
}
  where
    low : (y k : ℕ) → Contains (column_at new y) k → y < at
    low y k c = by (nat_lt y at) refl
      where
        by : (b : Bool) → nat_lt y at ≡ b → y < at
        by true e = grind (arith, nat_tests)
        by false e = absurd (past new y k (let w : at ≤ y = grind (arith, nat_tests) in omega arith) c)

-- a number came into a column, or there was no memory
pub note_grown : {T E : Type 0} (r : Result T E) (old : List (List ℕ)) (y n : ℕ) (c here : List ℕ) → y < length old → here ≡ column_at old y → OnOk r ((k : ℕ) → Contains c k ↔ (Contains here k ⊎ (k ≡ n))) → OnErr r (c ≡ here)
    → HasGrown (λ k. k ≡ n) old (set old y c)
note_grown (Ok x) old y n c here l e h u = grown_one old (set old y c) y n c l refl (subst (λ (z : List ℕ). (k : ℕ) → Contains c k ↔ (Contains z k ⊎ (k ≡ n))) e h)
note_grown (Err x) old y n c here l e h u = grown_none (λ k. k ≡ n) old (set old y c) (ap (set old y) (u ∙ e) ∙ set-get_or old y [])

pub note_noted : {T E : Type 0} (r : Result T E) (old : List (List ℕ)) (y n : ℕ) (c here : List ℕ) → y < length old → here ≡ column_at old y → OnOk r ((k : ℕ) → Contains c k ↔ (Contains here k ⊎ (k ≡ n)))
    → OnOk r (Contains (column_at (set old y c) y) n)
note_noted (Ok x) old y n c here l e h = noted_one old (set old y c) y n c l refl (subst (λ (z : List ℕ). (k : ℕ) → Contains c k ↔ (Contains z k ⊎ (k ≡ n))) e h)
note_noted (Err x) old y n c here l e h = tt

-- the number of one change came into columns
pub change_grown : (whole rest more : List NewRow) (c : NewRow) (a b d : List (List ℕ)) → rest ≡ c ∷ more → ((n : ℕ) → AllNumbers (λ k. k < n) whole → AllNumbers (λ k. k < n) rest)
    → ((n : ℕ) → AllNumbers (λ k. k < n) whole → HasGrown (λ k. k < n) a b) → HasGrown (λ k. k ≡ c.number) b d
    → (n : ℕ) → AllNumbers (λ k. k < n) whole → HasGrown (λ k. k < n) a d
change_grown whole rest more c a b d e w g h n l =
    let first = (numbered_first (λ k. k < n) rest more c e (w n l)).0 in
    grown_then (λ k. k < n) (λ k. k ≡ c.number) a b d (λ k s. subst (λ z. z < n) (sym s) first) (g n l) h
