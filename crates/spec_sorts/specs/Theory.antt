-- Theories Core and Reals: how many arguments of which sorts each head takes, when it is refused, and the term that it
-- is read as. Source: SMT-LIB 2.6, theories Core and Reals; what chains and `distinct` are read as, that `and`, `or`,
-- `+` and `*` take one argument too, and what is linear, is own.
use Rattle.std.specs.Prelude.{ℕ, suc, pos, Bool, true, false, not, ◌&&◌, List, [], ◌∷◌, map, Option, Some, None, codes}
use Rattle.std.specs.Prelude.{nat_le, if◌then◌else◌}
use Rattle.std.specs.Ordering.{int_eq}
use Rattle.std.specs.Str.{bytes_eq}
use Rattle.spec_text.specs.declared.Fault.{Fault}
use Rattle.spec_text.specs.declared.Fault.TheVariants.{NotLinear, ZeroDivisor}
use Rattle.spec_text.specs.Bytes.{Name}
use Rattle.spec_sorts.specs.Lists.{left, right, neighbours, all_pairs}
use Rattle.spec_sorts.specs.Terms.{Sort, Truth, Number, Head, True, False, Not, And, Or, Xor, Implies, Equal, Ite}
use Rattle.spec_sorts.specs.Terms.{Minus, Plus, Times, Divide, Less, AtMost, Literal, Term, Terms, app, nil, cons, of}
use Rattle.spec_sorts.specs.Terms.{no_term, negated, pair, same_sort, all_same}

-- what a list of pairs has for a name
abbrev pub look_up : {A : Type 0} → List (Name × A) → Name → Option A
look_up [] n = None
look_up (e ∷ es) n = if bytes_eq e.0 n then Some e.1 else look_up es n

-- The sorts that a head takes.
pub data Takes : Type 0 where
  -- all arguments have this sort
  each_of : Sort → Takes
  -- all arguments have one sort
  alike : Takes
  -- a truth value, and two of one sort
  choice : Takes

-- the sorts are those that are taken
abbrev pub sorts_fit : Takes → List Sort → Bool
sorts_fit (each_of s) ss = all_same s ss
sorts_fit alike [] = true
sorts_fit alike (s ∷ ss) = all_same s ss
sorts_fit choice (Truth ∷ s ∷ t ∷ []) = same_sort s t
sorts_fit choice _ = false

-- How a head of a theory is read.
pub record Rule : Type 0 where
  -- the least number of arguments
  pub least : ℕ
  -- the greatest number of arguments, where there is one
  pub most : Option ℕ
  -- the sorts of the arguments
  pub takes : Takes
  -- why arguments of these sorts are refused, if they are
  pub fault : List Term → Option Fault
  -- the term of the arguments' terms
  pub reads : List Term → Term

-- the number is no greater than the greatest, where there is one
abbrev pub is_at_most : ℕ → Option ℕ → Bool
is_at_most n None = true
is_at_most n (Some most) = nat_le n most

-- the head takes so many arguments
abbrev pub takes_count : Rule → ℕ → Bool
takes_count r n = nat_le r.least n && is_at_most n r.most

-- no arguments are refused
abbrev pub never : List Term → Option Fault
never ts = None

-- a head of exactly so many arguments
abbrev pub exactly : ℕ → Takes → (List Term → Term) → Rule
exactly n s f = record { least = n; most = Some n; takes = s; fault = never; reads = f }

-- a head of at least so many arguments
abbrev pub at_least : ℕ → Takes → (List Term → Term) → Rule
at_least n s f = record { least = n; most = None; takes = s; fault = never; reads = f }

-- the negation of an equality
abbrev pub unequal : Term → Term → Term
unequal t u = negated (pair Equal t u)

-- a head before two terms, the second of them first
abbrev pub turned : Head → Term → Term → Term
turned h t u = pair h u t

-- one term alone, or the conjunction of several
abbrev pub conjunction : List Term → Term
conjunction (t ∷ []) = t
conjunction ts = of And ts

-- the conjunction of a term for each pair
abbrev pub each_pair : (Term → Term → Term) → List (Term × Term) → Term
each_pair f ps = conjunction (map (λ p. f p.0 p.1) ps)

-- the negative of one term, or differences to the left
abbrev pub differences : List Term → Term
differences (t ∷ []) = of Minus (t ∷ [])
differences ts = left no_term (pair Minus) ts

-- a constant term has nothing but these heads
abbrev pub keeps_constant : Head → Bool
keeps_constant Minus = true
keeps_constant Plus = true
keeps_constant Times = true
keeps_constant Divide = true
keeps_constant (Literal q) = true
keeps_constant h = false

-- a constant term is a literal, or `-`, `+`, `*`, `/` before constant terms
unfoldable mutual
  -- a term
  pub is_constant : Term → Bool
  is_constant (app h ts) = keeps_constant h && are_constant ts

  -- each of terms
  pub are_constant : Terms → Bool
  are_constant nil = true
  are_constant (cons t ts) = is_constant t && are_constant ts

-- what may be a divisor: a literal, `(- d)` or `(/ d e)` of divisors
unfoldable pub is_divisor : Term → Bool
is_divisor (app (Literal q) ts) = true
is_divisor (app Minus (cons d nil)) = is_divisor d
is_divisor (app Divide (cons d (cons e nil))) = is_divisor d && is_divisor e
is_divisor t = false

-- a divisor is zero where its literal is 0, or what `-` or `/` has first is zero
unfoldable pub is_zero_divisor : Term → Bool
is_zero_divisor (app (Literal q) ts) = int_eq q.num (pos 0)
is_zero_divisor (app Minus (cons d ts)) = is_zero_divisor d
is_zero_divisor (app Divide (cons d ts)) = is_zero_divisor d
is_zero_divisor t = false

-- how many terms pass a test
abbrev pub count_of : (Term → Bool) → List Term → ℕ
count_of test [] = 0
count_of test (t ∷ ts) = if test t then suc (count_of test ts) else count_of test ts

-- each term passes a test
abbrev pub each_passes : (Term → Bool) → List Term → Bool
each_passes test [] = true
each_passes test (t ∷ ts) = test t && each_passes test ts

-- at most one factor is no constant
abbrev pub product_fault : List Term → Option Fault
product_fault ts = if nat_le (count_of (λ t. not (is_constant t)) ts) 1 then None else Some NotLinear

-- each divisor may be one, and then none of them is zero
abbrev pub divisors_fault : List Term → Option Fault
divisors_fault ds = if not (each_passes is_divisor ds) then Some NotLinear else if not
    (each_passes (λ d. not (is_zero_divisor d)) ds) then Some ZeroDivisor else None

-- all arguments but the first are divisors
abbrev pub quotient_fault : List Term → Option Fault
quotient_fault [] = None
quotient_fault (t ∷ ds) = divisors_fault ds

-- the heads of theories Core and Reals but literals
abbrev pub theory : List (Name × Rule)
theory =
    (codes "true", exactly 0 alike (λ ts. of True ts)) ∷
    (codes "false", exactly 0 alike (λ ts. of False ts)) ∷
    (codes "not", exactly 1 (each_of Truth) (λ ts. of Not ts)) ∷
    (codes "and", at_least 1 (each_of Truth) (λ ts. of And ts)) ∷
    (codes "or", at_least 1 (each_of Truth) (λ ts. of Or ts)) ∷
    (codes "xor", at_least 2 (each_of Truth) (λ ts. left no_term (pair Xor) ts)) ∷
    (codes "=>", at_least 2 (each_of Truth) (λ ts. right no_term (pair Implies) ts)) ∷
    (codes "=", at_least 2 alike (λ ts. each_pair (pair Equal) (neighbours ts))) ∷
    (codes "distinct", at_least 2 alike (λ ts. each_pair unequal (all_pairs ts))) ∷
    (codes "ite", exactly 3 choice (λ ts. of Ite ts)) ∷
    (codes "-", at_least 1 (each_of Number) differences) ∷
    (codes "+", at_least 1 (each_of Number) (λ ts. of Plus ts)) ∷
    (codes "*", record (at_least 1 (each_of Number) (λ ts. of Times ts)) { fault = product_fault }) ∷
    (codes "/", record (at_least 2 (each_of Number) (λ ts. left no_term (pair Divide) ts)) { fault = quotient_fault }) ∷
    (codes "<", at_least 2 (each_of Number) (λ ts. each_pair (pair Less) (neighbours ts))) ∷
    (codes "<=", at_least 2 (each_of Number) (λ ts. each_pair (pair AtMost) (neighbours ts))) ∷
    (codes ">", at_least 2 (each_of Number) (λ ts. each_pair (turned Less) (neighbours ts))) ∷
    (codes ">=", at_least 2 (each_of Number) (λ ts. each_pair (turned AtMost) (neighbours ts))) ∷ []

-- a theory has the name
abbrev pub is_of_theory : Name → Bool
is_of_theory n = found (look_up theory n)
  where
    found : Option Rule → Bool
    found None = false
    found (Some r) = true
