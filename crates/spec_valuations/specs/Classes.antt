-- Values from classes of terms, truths and numbers. Source: Nelson and Oppen 1979.
use Rattle.std.specs.Prelude.{◌≡◌, ◌≢◌, ◌↔◌, ℕ, Bool, true, false, List, [], ◌∷◌, map, Contains, if◌then◌else◌}
use Rattle.spec_text.specs.Bytes.{Name}
use Rattle.spec_numbers.specs.Fractions.{Fraction, IsReduced}
use Rattle.spec_sorts.specs.Terms.{Sort, Truth, Number, Declared, Symbol, Equal, Ite, Apply, Term, Terms, app, of, pair}
use Rattle.spec_sorts.specs.Terms.{list_of, sort_of, same_term}
use Rattle.spec_sorts.specs.Values.{Value, truth, number, element}
use Rattle.spec_equality.specs.Congruence.{truth_term}
use Rattle.spec_valuations.specs.Tables.{Valuation, Obeys}

-- the value of a term of a sort, by its truth, its number or its class
abbrev pub value_in : Sort → Bool → Fraction → ℕ → Value
value_in Truth b q k = truth b
value_in Number b q k = number q
value_in (Declared n) b q k = element n k

-- the values that truths, numbers and classes give
abbrev pub value_by : (Term → Bool) → (Term → Fraction) → (Term → ℕ) → Valuation
value_by truths point class t = value_in (sort_of t) (truths t) (point t) (class t)

-- the class of a term among listed ones, by the numbers of their classes; of any other 0
abbrev pub class_in : List Term → List ℕ → Term → ℕ
class_in (t ∷ ts) (k ∷ ks) u = if same_term t u then k else class_in ts ks u
class_in _ _ u = 0

-- What classes of terms need where each term of sort Bool has its truth.
pub record AreClasses (truths : Term → Bool) (class : Term → ℕ) (terms : List Term) : Type 0 where
  -- a symbol's terms with arguments of the same classes are of one class
  pub congruent : (s : Symbol) (ts us : Terms) → Contains terms (app (Apply s) ts) → Contains terms (app (Apply s) us)
      → map class (list_of ts) ≡ map class (list_of us) → class (app (Apply s) ts) ≡ class (app (Apply s) us)
  -- each term of sort Bool is of the class of its truth
  pub truth_classes : (t : Term) → Contains terms t → sort_of t ≡ Truth → class t ≡ class (truth_term (truths t))
  -- and these are two
  pub apart : class (truth_term true) ≢ class (truth_term false)
  -- sides of an equality of elements are of one class exactly where it is true
  pub equalities : (s t : Term) (n : Name) → Contains terms (of Equal (s ∷ t ∷ [])) → sort_of s ≡ Declared n
      → (truths (of Equal (s ∷ t ∷ [])) ≡ true) ↔ (class s ≡ class t)

-- The numbers agree with the classes: shared terms have one number exactly where they are of one class.
pub record Agrees (point : Term → Fraction) (class : Term → ℕ) (shared : List Term) : Type 0 where
  -- two of them
  pub same : (s t : Term) → Contains shared s → Contains shared t → (point s ≡ point t) ↔ (class s ≡ class t)

-- shared are the arguments and the values of declared symbols with parameters, those of sort Real; on constants nothing
-- has to agree
pub record AreShared (terms shared : List Term) : Type 0 where
  -- applications of sort Real
  pub values : (s : Symbol) (ts : Terms) → Contains terms (app (Apply s) ts) → list_of ts ≢ []
      → sort_of (app (Apply s) ts) ≡ Number → Contains shared (app (Apply s) ts)
  -- arguments of sort Real
  pub arguments : (s : Symbol) (ts : Terms) (u : Term) → Contains terms (app (Apply s) ts) → Contains (list_of ts) u
      → sort_of u ≡ Number → Contains shared u

-- It is an equality of two terms among these.
pub record IsEqualityAmong (ts : List Term) (e : Term) : Type 0 where
  -- its sides
  pub left : Term
  pub left_in : Contains ts left
  pub right : Term
  pub right_in : Contains ts right
  -- it says that they are equal
  pub is : e ≡ pair Equal left right

-- an equality of numbers is true exactly where its sides have one number
abbrev pub TellsNumbers : (Term → Bool) → (Term → Fraction) → List Term → Type 0
TellsNumbers truths point terms = (s t : Term) → Contains terms (of Equal (s ∷ t ∷ [])) → sort_of s ≡ Number
    → (truths (of Equal (s ∷ t ∷ [])) ≡ true) ↔ (point s ≡ point t)

-- a choice of no truth value has the value of the branch that is chosen
abbrev pub Chooses : (Term → Bool) → Valuation → List Term → Type 0
Chooses truths v terms = (c a b : Term) → Contains terms (of Ite (c ∷ a ∷ b ∷ [])) → sort_of a ≢ Truth
    → (truths c ≡ true → v (of Ite (c ∷ a ∷ b ∷ [])) ≡ v a) × (truths c ≡ false → v (of Ite (c ∷ a ∷ b ∷ [])) ≡ v b)

-- the arguments of an equality or a choice are of sort Bool; of any other head nothing is asked
abbrev pub IsOfTruths : Term → Type 0
IsOfTruths (app Equal ts) = (u : Term) → Contains (list_of ts) u → sort_of u ≡ Truth
IsOfTruths (app Ite ts) = (u : Term) → Contains (list_of ts) u → sort_of u ≡ Truth
IsOfTruths (app h ts) = Unit {0}

-- Truths, numbers and classes that fit together.
pub record AreJoint (truths : Term → Bool) (point : Term → Fraction) (class : Term
    → ℕ) (terms shared : List Term) : Type 0 where
  -- the classes go with the truths
  pub classes : AreClasses truths class terms
  -- the shared terms
  pub shares : AreShared terms shared
  -- the numbers go with the classes
  pub agree : Agrees point class shared
  -- each number is in lowest terms
  pub reduced : (t : Term) → Contains terms t → sort_of t ≡ Number → IsReduced (point t)
  -- the numbers go with the truths
  pub numbers : TellsNumbers truths point terms
  -- choices have the value of the chosen branch
  pub choices : Chooses truths (value_by truths point class) terms
  -- heads of truth values, and those of numbers, mean what they mean
  pub formulas : (t : Term) → Contains terms t → IsOfTruths t → Obeys (value_by truths point class) t

-- What the clauses of `x_ite_then` and `x_ite_else` say where they are met: the equality of a choice with the branch
-- that its condition chooses.
pub record AreDefined (truths : Term → Bool) (terms : List Term) : Type 0 where
  -- the branches of a choice have one sort
  pub branches : (c a b : Term) → Contains terms (of Ite (c ∷ a ∷ b ∷ [])) → sort_of a ≢ Truth → sort_of a ≡ sort_of b
  -- the equality with the first branch is listed, and true where the condition is
  pub first : (c a b : Term) → Contains terms (of Ite (c ∷ a ∷ b ∷ [])) → sort_of a ≢ Truth
      → Contains terms (of Equal (of Ite (c ∷ a ∷ b ∷ []) ∷ a ∷ []))
      × (truths c ≡ true → truths (of Equal (of Ite (c ∷ a ∷ b ∷ []) ∷ a ∷ [])) ≡ true)
  -- the equality with the second is listed, and true where the condition is not
  pub second : (c a b : Term) → Contains terms (of Ite (c ∷ a ∷ b ∷ [])) → sort_of a ≢ Truth
      → Contains terms (of Equal (of Ite (c ∷ a ∷ b ∷ []) ∷ b ∷ []))
      × (truths c ≡ false → truths (of Equal (of Ite (c ∷ a ∷ b ∷ []) ∷ b ∷ [])) ≡ true)
