-- Rows of a tableau: a basic variable as a sum of multiples of others; the pivot of two variables; a row more.
use Rattle.std.specs.Prelude.{◌≡◌, ℕ, Bool, false, List, [], ◌∷◌, ◌++◌, map, cond, ◌==◌, ◌||◌, nat_lt}
use Rattle.spec_tableaux.specs.Fields.{Field}
use Rattle.spec_tableaux.specs.Spaces.{Space}

-- a variable, by its number, and the coefficient before it
pub record Entry (A : Type 0) : Type 0 where
  pub variable : ℕ
  pub coefficient : A

-- the sum of a list of entries where the variables have the values v
abbrev pub sum_of : {A V : Type 0} → Space A V → (ℕ → V) → List (Entry A) → V
sum_of s v [] = s.origin
sum_of s v (e ∷ es) = s.plus (s.scale e.coefficient (v e.variable)) (sum_of s v es)

-- the entries, after one of x, if its coefficient is not 0
abbrev pub with_entry : {A : Type 0} → Field A → ℕ → A → List (Entry A) → List (Entry A)
with_entry f x c es = cond (f.is_zero c) es (record { variable = x; coefficient = c } ∷ es)

-- the entries, in the order of their variables, with c more of x; an entry that comes to 0 is dropped
abbrev pub put : {A : Type 0} → Field A → ℕ → A → List (Entry A) → List (Entry A)
put f x c [] = with_entry f x c []
put f x c (e ∷ es) =
    cond (nat_lt x e.variable) (with_entry f x c (e ∷ es))
    (cond (x == e.variable) (with_entry f x (f.plus e.coefficient c) es)
    (e ∷ put f x c es))

-- the entries es minus k times the entries gs
abbrev pub minus_times : {A : Type 0} → Field A → List (Entry A) → A → List (Entry A) → List (Entry A)
minus_times f es k [] = es
minus_times f es k (g ∷ gs) = put f g.variable (f.opposite (f.times k g.coefficient)) (minus_times f es k gs)

-- the entries es plus k times the entries gs
abbrev pub plus_times : {A : Type 0} → Field A → List (Entry A) → A → List (Entry A) → List (Entry A)
plus_times f es k [] = es
plus_times f es k (g ∷ gs) = put f g.variable (f.times k g.coefficient) (plus_times f es k gs)

-- the coefficient of x in a list of entries, 0 where it has none
abbrev pub coefficient_of : {A : Type 0} → Field A → ℕ → List (Entry A) → A
coefficient_of f x [] = f.zero
coefficient_of f x (e ∷ es) = cond (e.variable == x) e.coefficient (coefficient_of f x es)

-- the entries but for the first of x
abbrev pub without : {A : Type 0} → ℕ → List (Entry A) → List (Entry A)
without x [] = []
without x (e ∷ es) = cond (e.variable == x) es (e ∷ without x es)

-- the entries with each coefficient divided by d
abbrev pub quotients : {A : Type 0} → Field A → A → List (Entry A) → List (Entry A)
quotients f d [] = []
quotients f d (e ∷ es) = record { variable = e.variable; coefficient = f.times e.coefficient (f.inverse d) }
    ∷ quotients f d es

-- the entries with each coefficient negated
abbrev pub negated : {A : Type 0} → Field A → List (Entry A) → List (Entry A)
negated f [] = []
negated f (e ∷ es) = record { variable = e.variable; coefficient = f.opposite e.coefficient } ∷ negated f es

-- A row: the basic variable is the sum of the entries.
pub record Row (A : Type 0) : Type 0 where
  pub basic : ℕ
  pub entries : List (Entry A)

-- A row's equation divided by the coefficient of its entering variable, which is factor times the leaving variable
-- minus the
-- sum of the others.
pub record Pivot (A : Type 0) : Type 0 where
  pub leaving : ℕ
  pub entering : ℕ
  pub factor : A
  pub others : List (Entry A)

-- the row of the basic variable b with entries es, solved for x
abbrev pub pivot_of : {A : Type 0} → Field A → ℕ → ℕ → List (Entry A) → Pivot A
pivot_of f b x es = record {
  leaving = b;
  entering = x;
  factor = f.times f.one (f.inverse (coefficient_of f x es));
  others = quotients f (coefficient_of f x es) (without x es);
}

-- the row of the entering variable
abbrev pub pivot_row : {A : Type 0} → Field A → Pivot A → Row A
pivot_row f p = record { basic = p.entering; entries = put f p.leaving p.factor (negated f p.others) }

-- the entries es, in which the entering variable has the coefficient c, with it replaced by its sum
abbrev pub substituted : {A : Type 0} → Field A → Pivot A → A → List (Entry A) → List (Entry A)
substituted f p c es = cond (f.is_zero c) es
    (put f p.leaving (f.times c p.factor) (minus_times f (without p.entering es) c p.others))

-- a row with the entering variable replaced by its sum
abbrev pub substituted_row : {A : Type 0} → Field A → Pivot A → Row A → Row A
substituted_row f p r = record {
  basic = r.basic;
  entries = substituted f p (coefficient_of f p.entering r.entries) r.entries;
}

-- the first row of the basic variable b, and one without entries where there is none
abbrev pub row_of : {A : Type 0} → ℕ → List (Row A) → Row A
row_of b [] = record { basic = b; entries = [] }
row_of b (r ∷ rs) = cond (r.basic == b) r (row_of b rs)

-- a row after the exchange of a pivot
abbrev pub exchanged_row : {A : Type 0} → Field A → Pivot A → Row A → Row A
exchanged_row f p r = cond (r.basic == p.leaving) (pivot_row f p) (substituted_row f p r)

-- the rows after the exchange of the basic variable b and the nonbasic variable x
-- Source: Dutertre and de Moura, CAV 2006.
abbrev pub exchanged : {A : Type 0} → Field A → ℕ → ℕ → List (Row A) → List (Row A)
exchanged f b x rs = map (exchanged_row f (pivot_of f b x (row_of b rs).entries)) rs

-- The values v are a solution of a row.
pub record Holds {A V : Type 0} (s : Space A V) (v : ℕ → V) (r : Row A) : Type 0 where
  pub is : v r.basic ≡ sum_of s v r.entries

-- the values v are a solution of each row
abbrev pub Solves : {A V : Type 0} → Space A V → (ℕ → V) → List (Row A) → Type 0
Solves s v [] = Unit {0}
Solves s v (r ∷ rs) = Holds s v r × Solves s v rs

-- b is basic: a row has it as its basic variable
abbrev pub is_basic : {A : Type 0} → ℕ → List (Row A) → Bool
is_basic b [] = false
is_basic b (r ∷ rs) = (r.basic == b) || is_basic b rs

-- no two rows have one basic variable
abbrev pub AreDistinct : {A : Type 0} → List (Row A) → Type 0
AreDistinct [] = Unit {0}
AreDistinct (r ∷ rs) = (is_basic r.basic rs ≡ false) × AreDistinct rs

-- the entries es with g added, the variable of g by its row where it is basic
abbrev pub with_flattened : {A : Type 0} → Field A → List (Row A) → List (Entry A) → Entry A → List (Entry A)
with_flattened f rs es g =
    cond (is_basic g.variable rs) (plus_times f es g.coefficient (row_of g.variable rs).entries)
    (put f g.variable g.coefficient es)

-- the entries es with each of gs added, basic variables by their rows
abbrev pub flattened : {A : Type 0} → Field A → List (Row A) → List (Entry A) → List (Entry A) → List (Entry A)
flattened f rs es [] = es
flattened f rs es (g ∷ gs) = flattened f rs (with_flattened f rs es g) gs

-- the rows and one more, of the new variable b, which is the sum of gs
abbrev pub with_row : {A : Type 0} → Field A → List (Row A) → ℕ → List (Entry A) → List (Row A)
with_row f rs b gs = rs ++ record { basic = b; entries = flattened f rs [] gs } ∷ []
