-- Sorts, symbols, and terms as read. Source: SMT-LIB 2.6, sections 3.5, 3.6 and 5.2, theories Core and Reals; the one
-- form for scripts and proofs is own.
use Rattle.std.specs.Prelude.{ℕ, zero, suc, Bool, true, false, ◌&&◌, List, [], ◌∷◌, get_or, nat_eq}
use Rattle.std.specs.Ordering.{int_eq}
use Rattle.std.specs.Str.{bytes_eq}
use Rattle.spec_text.specs.Bytes.{Name}
use Rattle.spec_numbers.specs.Fractions.{Fraction}

-- Bool, Real, or a declared sort.
pub data Sort : Type 0 where
  -- the sorts Bool and Real
  Truth Number : Sort
  -- a sort that a script declares, by its name
  Declared : Name → Sort

-- the sorts are one
abbrev pub same_sort : Sort → Sort → Bool
same_sort Truth Truth = true
same_sort Number Number = true
same_sort (Declared n) (Declared m) = bytes_eq n m
same_sort _ _ = false

-- the sorts are the same, in their order
abbrev pub same_sorts : List Sort → List Sort → Bool
same_sorts [] [] = true
same_sorts (s ∷ ss) (t ∷ ts) = same_sort s t && same_sorts ss ts
same_sorts _ _ = false

-- each of the sorts is this one
abbrev pub all_same : Sort → List Sort → Bool
all_same s [] = true
all_same s (t ∷ ts) = same_sort s t && all_same s ts

-- A declared name, with the sorts that it takes and gives.
pub record Symbol : Type 0 where
  -- the name, without bars
  pub name : Name
  -- the sorts of its arguments, in their order
  pub parameters : List Sort
  -- the sort that it gives
  pub result : Sort

-- a symbol that takes no arguments
abbrev pub constant : Name → Sort → Symbol
constant n s = record { name = n; parameters = []; result = s }

-- the symbols have one name and the same sorts
abbrev pub same_symbol : Symbol → Symbol → Bool
same_symbol f g = bytes_eq f.name g.name && (same_sorts f.parameters g.parameters && same_sort f.result g.result)

-- the pairs are the same, which in lowest terms means that the numbers are
abbrev pub same_fraction : Fraction → Fraction → Bool
same_fraction p q = int_eq p.num q.num && nat_eq p.den q.den

-- What is before the arguments of a term. Chains, `distinct`, `>` and `>=` are read as terms of these.
pub data Head : Type 0 where
  -- the heads of theory Core
  True False Not And Or Xor Implies Equal Ite : Head
  -- the heads of theory Reals; `Minus` takes one argument or two
  Minus Plus Times Divide Less AtMost : Head
  -- a number
  Literal : Fraction → Head
  -- a declared symbol
  Apply : Symbol → Head
  -- the parameter of that number, from 0, in the body of a definition, and its sort
  Parameter : ℕ → Sort → Head

-- the heads are one
abbrev pub same_head : Head → Head → Bool
same_head True True = true
same_head False False = true
same_head Not Not = true
same_head And And = true
same_head Or Or = true
same_head Xor Xor = true
same_head Implies Implies = true
same_head Equal Equal = true
same_head Ite Ite = true
same_head Minus Minus = true
same_head Plus Plus = true
same_head Times Times = true
same_head Divide Divide = true
same_head Less Less = true
same_head AtMost AtMost = true
same_head (Literal p) (Literal q) = same_fraction p q
same_head (Apply f) (Apply g) = same_symbol f g
same_head (Parameter j s) (Parameter k t) = nat_eq j k && same_sort s t
same_head _ _ = false

mutual
  -- A head with its arguments.
  pub data Term : Type 0 where
    -- the head before its arguments
    app : Head → Terms → Term

  -- Terms, one after the other.
  pub data Terms : Type 0 where
    -- no term
    nil : Terms
    -- a term before others
    cons : Term → Terms → Terms

-- the terms of a list, in its order
abbrev pub terms_of : List Term → Terms
terms_of [] = nil
terms_of (t ∷ ts) = cons t (terms_of ts)

-- the list of terms, in their order
abbrev pub list_of : Terms → List Term
list_of nil = []
list_of (cons t ts) = t ∷ list_of ts

-- a head before arguments
abbrev pub of : Head → List Term → Term
of h ts = app h (terms_of ts)

-- no arguments, where there should be some
abbrev pub no_term : Term
no_term = of False []

-- a symbol without arguments
abbrev pub constant_term : Symbol → Term
constant_term s = of (Apply s) []

-- the negation of a term
abbrev pub negated : Term → Term
negated t = of Not (t ∷ [])

-- a head before two terms
abbrev pub pair : Head → Term → Term → Term
pair h t u = of h (t ∷ u ∷ [])

-- terms are equal where they are read the same
unfoldable mutual
  -- the terms are one
  pub same_term : Term → Term → Bool
  same_term (app h ts) (app g us) = same_head h g && same_terms ts us

  -- as many terms, and the same in their order
  pub same_terms : Terms → Terms → Bool
  same_terms nil nil = true
  same_terms (cons t ts) (cons u us) = same_term t u && same_terms ts us
  same_terms _ _ = false

-- the sort of a head's terms, where its second argument has a sort: `ite` has that of its second
abbrev pub sort_given : Head → Sort → Sort
sort_given Ite s = s
sort_given Minus s = Number
sort_given Plus s = Number
sort_given Times s = Number
sort_given Divide s = Number
sort_given (Literal q) s = Number
sort_given (Apply f) s = f.result
sort_given (Parameter k t) s = t
sort_given h s = Truth

-- the sort of a term whose head takes its arguments
unfoldable mutual
  -- the sort of a term
  pub sort_of : Term → Sort
  sort_of (app h ts) = sort_given h (second_sort ts)

  -- the sort of the second of terms
  pub second_sort : Terms → Sort
  second_sort (cons t (cons u us)) = sort_of u
  second_sort _ = Truth

-- the parameter of that number has the sort
abbrev pub has_parameter : List Sort → ℕ → Sort → Bool
has_parameter [] k s = false
has_parameter (p ∷ ps) zero s = same_sort p s
has_parameter (p ∷ ps) (suc k) s = has_parameter ps k s

-- the head takes arguments of these sorts, where the parameters have the sorts given first; `and`, `or`, `+` and `*`
-- take any number from one
abbrev pub head_takes : List Sort → Head → List Sort → Bool
head_takes ps True [] = true
head_takes ps False [] = true
head_takes ps Not (Truth ∷ []) = true
head_takes ps And (s ∷ ss) = all_same Truth (s ∷ ss)
head_takes ps Or (s ∷ ss) = all_same Truth (s ∷ ss)
head_takes ps Xor (Truth ∷ Truth ∷ []) = true
head_takes ps Implies (Truth ∷ Truth ∷ []) = true
head_takes ps Equal (s ∷ t ∷ []) = same_sort s t
head_takes ps Ite (Truth ∷ s ∷ t ∷ []) = same_sort s t
head_takes ps Minus (Number ∷ []) = true
head_takes ps Minus (Number ∷ Number ∷ []) = true
head_takes ps Plus (s ∷ ss) = all_same Number (s ∷ ss)
head_takes ps Times (s ∷ ss) = all_same Number (s ∷ ss)
head_takes ps Divide (Number ∷ Number ∷ []) = true
head_takes ps Less (Number ∷ Number ∷ []) = true
head_takes ps AtMost (Number ∷ Number ∷ []) = true
head_takes ps (Literal q) [] = true
head_takes ps (Apply f) ss = same_sorts f.parameters ss
head_takes ps (Parameter k s) [] = has_parameter ps k s
head_takes ps _ _ = false

-- the sorts of terms, in their order
abbrev pub sorts_of : Terms → List Sort
sorts_of nil = []
sorts_of (cons t ts) = sort_of t ∷ sorts_of ts

-- each head of a term takes its arguments, where parameters have these sorts
unfoldable mutual
  -- in a term
  pub is_sorted : List Sort → Term → Bool
  is_sorted ps (app h ts) = head_takes ps h (sorts_of ts) && are_sorted ps ts

  -- in terms
  pub are_sorted : List Sort → Terms → Bool
  are_sorted ps nil = true
  are_sorted ps (cons t ts) = is_sorted ps t && are_sorted ps ts

-- the term with each parameter replaced by the argument of its number
unfoldable mutual
  -- in a term
  pub filled : List Term → Term → Term
  filled ts (app (Parameter k s) us) = get_or ts k no_term
  filled ts (app h us) = app h (filled_all ts us)

  -- in terms
  pub filled_all : List Term → Terms → Terms
  filled_all ts nil = nil
  filled_all ts (cons u us) = cons (filled ts u) (filled_all ts us)
