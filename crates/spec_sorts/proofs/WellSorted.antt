-- Well-sorted terms: sorts that are the same, heads before arguments, and arguments for parameters.
use Rattle.std.proofs.Common.{◌≡◌, ℕ, zero, suc, true, ◌&&◌, List, [], ◌∷◌, map, get_or, Contains, refl, sym, ap, ◌∙◌, ◌≢◌, false}
use Rattle.std.specs.List.{AllByRecursion}
use Rattle.std.proofs.lemmas.Bool.{false≢true, and_parts}
use Rattle.std.proofs.lemmas.Slice.Eq.{bytes_eq-Decides}
use Rattle.spec_sorts.specs.Terms.{Sort, Truth, Number, Declared, Symbol, Head, True, False, Not, And, Or, Xor, Implies, Equal, Ite, Minus, Plus, Times, Divide, Less, AtMost, Literal, Apply, Parameter, Term, Terms, app, nil, cons, of, terms_of, no_term, same_sort, same_sorts, has_parameter, sort_given, sort_of, second_sort, head_takes, sorts_of, is_sorted, are_sorted, filled, filled_all}
use Rattle.spec_sorts.specs.WellSorted.{AllHeads, AllHeadsIn, IsHeadOver, IsWellSorted}

-- sorts that are the same are one
pub same_sort_is : (s t : Sort) → same_sort s t ≡ true → s ≡ t
same_sort_is Truth Truth h = refl
same_sort_is Truth Number h = absurd (false≢true h)
same_sort_is Truth (Declared n) h = absurd (false≢true h)
same_sort_is Number Truth h = absurd (false≢true h)
same_sort_is Number Number h = refl
same_sort_is Number (Declared n) h = absurd (false≢true h)
same_sort_is (Declared n) Truth h = absurd (false≢true h)
same_sort_is (Declared n) Number h = absurd (false≢true h)
same_sort_is (Declared n) (Declared m) h = ap Declared ((bytes_eq-Decides n m).0 h)

-- a sort is the same as itself
pub same_sort_itself : (s : Sort) → same_sort s s ≡ true
same_sort_itself Truth = refl
same_sort_itself Number = refl
same_sort_itself (Declared n) = (bytes_eq-Decides n n).1 refl

-- a sort other than Bool
pub other_sort : (s : Sort) → s ≢ Truth → same_sort Truth s ≡ false
other_sort Truth e = absurd (e refl)
other_sort s e = refl

-- what a choice takes: a truth value, and two of one sort
pub choice_takes : (c a b : Sort) → head_takes [] Ite (c ∷ a ∷ b ∷ []) ≡ true → (c ≡ Truth) × (a ≡ b)
choice_takes Truth a b e = (refl, same_sort_is a b e)
choice_takes Number a b e = absurd (false≢true e)
choice_takes (Declared n) a b e = absurd (false≢true e)

-- what comparisons take: two numbers
pub less_takes : (ss : List Sort) → head_takes [] Less ss ≡ true → ss ≡ Number ∷ Number ∷ []
less_takes (Number ∷ Number ∷ []) e = refl
less_takes _ e = absurd (false≢true e)

pub at_most_takes : (ss : List Sort) → head_takes [] AtMost ss ≡ true → ss ≡ Number ∷ Number ∷ []
at_most_takes (Number ∷ Number ∷ []) e = refl
at_most_takes _ e = absurd (false≢true e)

-- the sorts of terms, from their list
pub sorts_of_list : (ts : List Term) → sorts_of (terms_of ts) ≡ map sort_of ts
sorts_of_list [] = refl
sorts_of_list (t ∷ ts) = ap (λ ss. sort_of t ∷ ss) (sorts_of_list ts)

module _ (symbols : List Symbol) (ps : List Sort) where
  -- each of terms is well sorted
  abbrev pub Each : List Term → Type 0
  Each ts = AllByRecursion (IsWellSorted symbols ps) ts

  sorted_list : (ts : List Term) → Each ts → (are_sorted ps (terms_of ts) ≡ true) × AllHeadsIn (IsHeadOver symbols) (terms_of ts)
  unfolding are_sorted AllHeadsIn
  sorted_list [] h = (refl, tt)
  sorted_list (t ∷ ts) h = let k = sorted_list ts h.1 in ((λ j. h.0.sorted j && k.0 j), (h.0.heads, k.1))

  -- a head before well-sorted arguments that it takes
  pub before : (h : Head) (ts : List Term) → head_takes ps h (map sort_of ts) ≡ true → IsHeadOver symbols h → Each ts → IsWellSorted symbols ps (of h ts)
  unfolding is_sorted AllHeads
  before h ts takes over each =
      let k = sorted_list ts each in
      let takes_these : head_takes ps h (sorts_of (terms_of ts)) ≡ true = ap (head_takes ps h) (sorts_of_list ts) ∙ takes in
      record { sorted = (λ j. takes_these j && k.0 j); heads = (over, k.1) }

-- a head that is no parameter
abbrev pub IsPlain : Head → Type 0
IsPlain (Parameter k s) = ⊥
IsPlain _ = Unit {0}

-- and takes the same arguments, whatever the parameters are
takes_anywhere : (ps qs : List Sort) (h : Head) (ss : List Sort) → IsPlain h → head_takes qs h ss ≡ true → head_takes ps h ss ≡ true
takes_anywhere ps qs True [] p h = h
takes_anywhere ps qs False [] p h = h
takes_anywhere ps qs Not (Truth ∷ []) p h = h
takes_anywhere ps qs And (s ∷ ss) p h = h
takes_anywhere ps qs Or (s ∷ ss) p h = h
takes_anywhere ps qs Xor (Truth ∷ Truth ∷ []) p h = h
takes_anywhere ps qs Implies (Truth ∷ Truth ∷ []) p h = h
takes_anywhere ps qs Equal (s ∷ t ∷ []) p h = h
takes_anywhere ps qs Ite (Truth ∷ s ∷ t ∷ []) p h = h
takes_anywhere ps qs Minus (Number ∷ []) p h = h
takes_anywhere ps qs Minus (Number ∷ Number ∷ []) p h = h
takes_anywhere ps qs Plus (s ∷ ss) p h = h
takes_anywhere ps qs Times (s ∷ ss) p h = h
takes_anywhere ps qs Divide (Number ∷ Number ∷ []) p h = h
takes_anywhere ps qs Less (Number ∷ Number ∷ []) p h = h
takes_anywhere ps qs AtMost (Number ∷ Number ∷ []) p h = h
takes_anywhere ps qs (Literal q) [] p h = h
takes_anywhere ps qs (Apply f) ss p h = h
takes_anywhere ps qs (Parameter k s) ss p h = absurd p
takes_anywhere ps qs _ _ p h = absurd (false≢true h)

-- the sort of a head's terms is given by that of its second argument
head_sort : (h : Head) (us vs : Terms) → second_sort us ≡ second_sort vs → sort_of (app h us) ≡ sort_of (app h vs)
unfolding sort_of
head_sort h us vs e = ap (sort_given h) e

module _ (symbols : List Symbol) (ps qs : List Sort) (ts : List Term) where
  -- what means a term is well sorted where the parameters' sorts are these, and has its sort
  abbrev pub KeepsSort : Term → Term → Type 0
  KeepsSort v u = IsWellSorted symbols ps v × (sort_of v ≡ sort_of u)

  -- the argument for a parameter is well sorted, and of its sort
  argument_keeps_sort : (qs : List Sort) (ts : List Term) (k : ℕ) (s : Sort) → same_sorts qs (map sort_of ts) ≡ true → Each symbols ps ts → has_parameter qs k s ≡ true → IsWellSorted symbols ps (get_or ts k no_term) × (sort_of (get_or ts k no_term) ≡ s)
  argument_keeps_sort [] ts k s e a h = absurd (false≢true h)
  argument_keeps_sort (q ∷ qs) [] k s e a h = absurd (false≢true e)
  argument_keeps_sort (q ∷ qs) (t ∷ ts) zero s e a h = (a.0, sym (same_sort_is q (sort_of t) (and_parts _ _ e).0) ∙ same_sort_is q s h)
  argument_keeps_sort (q ∷ qs) (t ∷ ts) (suc k) s e a h = argument_keeps_sort qs ts k s (and_parts _ _ e).1 a.1 h

  -- terms that stand for others
  pub record AllKeepSorts (vs us : Terms) : Type 0 where
    pub sorted : are_sorted ps vs ≡ true
    pub heads : AllHeadsIn (IsHeadOver symbols) vs
    pub sorts : sorts_of vs ≡ sorts_of us
    pub second : second_sort vs ≡ second_sort us

  mutual
    unfolding is_sorted are_sorted AllHeads AllHeadsIn filled filled_all sort_of second_sort

    -- a term with arguments for its parameters
    pub filled_keeps_sort : same_sorts qs (map sort_of ts) ≡ true → Each symbols ps ts → (u : Term) → is_sorted qs u ≡ true → AllHeads (IsHeadOver symbols) u → KeepsSort (filled ts u) u
    filled_keeps_sort e a (app (Parameter k s) nil) h o = argument_keeps_sort qs ts k s e a (and_parts _ _ h).0
    filled_keeps_sort e a (app (Parameter k s) (cons u us)) h o = absurd (false≢true h)
    filled_keeps_sort e a (app g us) h o =
        let k = all_keep_sorts e a us (and_parts _ _ h).1 o.1 in
        let takes : head_takes ps g (sorts_of (filled_all ts us)) ≡ true = ap (head_takes ps g) k.sorts ∙ takes_anywhere ps qs g (sorts_of us) tt (and_parts _ _ h).0 in
        (record { sorted = (λ j. takes j && k.sorted j); heads = (o.0, k.heads) }, head_sort g (filled_all ts us) us k.second)

    -- and so it is in terms
    pub all_keep_sorts : same_sorts qs (map sort_of ts) ≡ true → Each symbols ps ts → (us : Terms) → are_sorted qs us ≡ true → AllHeadsIn (IsHeadOver symbols) us → AllKeepSorts (filled_all ts us) us
    all_keep_sorts e a nil h o = record { sorted = refl; heads = tt; sorts = refl; second = refl }
    all_keep_sorts e a (cons u nil) h o =
        let k = filled_keeps_sort e a u (and_parts _ _ h).0 o.0 in
        record { sorted = (λ j. k.0.sorted j && true); heads = (k.0.heads, tt); sorts = (λ j. k.1 j ∷ []); second = refl }
    all_keep_sorts e a (cons u (cons v vs)) h o =
        let k = filled_keeps_sort e a u (and_parts _ _ h).0 o.0 in
        let l = all_keep_sorts e a (cons v vs) (and_parts _ _ h).1 o.1 in
        let m = filled_keeps_sort e a v (and_parts _ _ (and_parts _ _ h).1).0 o.1.0 in
        record { sorted = (λ j. k.0.sorted j && l.sorted j); heads = (k.0.heads, l.heads); sorts = (λ j. k.1 j ∷ l.sorts j); second = m.1 }

-- a term with well-sorted arguments for its parameters
pub filled_sorted : (symbols : List Symbol) (ps qs : List Sort) (ts : List Term) (u : Term) → IsWellSorted symbols qs u → same_sorts qs (map sort_of ts) ≡ true → Each symbols ps ts → IsWellSorted symbols ps (filled ts u) × (sort_of (filled ts u) ≡ sort_of u)
filled_sorted symbols ps qs ts u w e a = filled_keeps_sort symbols ps qs ts e a u w.sorted w.heads

module _ (symbols more : List Symbol) (among : (f : Symbol) → Contains symbols f → Contains more f) where
  head_over : (h : Head) → IsHeadOver symbols h → IsHeadOver more h
  head_over True o = o
  head_over False o = o
  head_over Not o = o
  head_over And o = o
  head_over Or o = o
  head_over Xor o = o
  head_over Implies o = o
  head_over Equal o = o
  head_over Ite o = o
  head_over Minus o = o
  head_over Plus o = o
  head_over Times o = o
  head_over Divide o = o
  head_over Less o = o
  head_over AtMost o = o
  head_over (Literal q) o = o
  head_over (Apply f) o = among f o
  head_over (Parameter k s) o = o

  mutual
    unfolding AllHeads AllHeadsIn

    heads_over : (t : Term) → AllHeads (IsHeadOver symbols) t → AllHeads (IsHeadOver more) t
    heads_over (app h ts) o = (head_over h o.0, all_heads_over ts o.1)

    all_heads_over : (ts : Terms) → AllHeadsIn (IsHeadOver symbols) ts → AllHeadsIn (IsHeadOver more) ts
    all_heads_over nil o = tt
    all_heads_over (cons t ts) o = (heads_over t o.0, all_heads_over ts o.1)

  -- a term over symbols is one over more of them
  pub sorted_over : (ps : List Sort) (t : Term) → IsWellSorted symbols ps t → IsWellSorted more ps t
  sorted_over ps t w = record { sorted = w.sorted; heads = heads_over t w.heads }
