-- The value of a well-sorted term has the term's sort.
use Rattle.std.proofs.Common.{◌≡◌, ℕ, zero, suc, arith, Bool, true, false, List, [], ◌∷◌, get_or, pos, cond, refl, sym, subst}
use Rattle.std.specs.List.{AllByRecursion}
use Rattle.std.proofs.Math.Nat.{one-le-pow}
use Rattle.std.proofs.lemmas.Bool.{false≢true, and_parts}
use Rattle.std.proofs.lemmas.List.Elements.{All-contains, recursion_from_All}
use Rattle.spec_numbers.specs.Fractions.{Fraction, IsReduced, plus, times, inverse, divide, zero_fraction, one_fraction}
use Rattle.spec_numbers.proofs.Lowest.{lowest-reduced}
use Rattle.spec_numbers.proofs.Field.{sum_reduced, product_reduced, opposite-reduced, inverse-reduced, minus-reduced}
use Rattle.spec_sorts.specs.Lists.{left}
use Rattle.spec_sorts.specs.Numerals.{digits_number, literal_value}
use Rattle.spec_sorts.specs.Terms.{Sort, Truth, Number, Symbol, Head, True, False, Not, And, Or, Xor, Implies, Equal, Ite, Minus, Plus, Times, Divide, Less, AtMost, Literal, Apply, Parameter, Term, Terms, app, nil, cons, all_same, has_parameter, sort_given, sort_of, second_sort, head_takes, sorts_of, is_sorted, are_sorted}
use Rattle.spec_sorts.specs.WellSorted.{AllHeads, AllHeadsIn, IsHeadOver, IsWellSorted, IsFormulaOver}
use Rattle.spec_sorts.specs.Values.{Value, truth, number, element, is_true, number_in, chosen, same_values, HasSort, HaveSorts, TableRow, first_fit, Interpretation, table_value, IsRowOf, IsTableOf, Interprets}
use Rattle.spec_sorts.specs.TermValues.{by_numbers, head_value, value_at, values_at}
use Rattle.spec_sorts.proofs.WellSorted.{same_sort_is, IsPlain}

-- a literal is in lowest terms
pub literal_reduced : (literal : List ℕ) → IsReduced (literal_value literal)
unfolding literal_value
literal_reduced literal = lowest-reduced (pos (digits_number literal)) _ (one-le-pow _ 10 (omega arith))

-- the number that a value of sort Real is
reduced_in : (v : Value) → HasSort Number v → IsReduced (number_in v)
reduced_in (number q) h = h
reduced_in (truth b) h = absurd h
reduced_in (element n k) h = absurd h

quotient_reduced : (x y : Fraction) → IsReduced x → IsReduced y → IsReduced (divide x y)
quotient_reduced x y p q = product_reduced x (inverse y) p (inverse-reduced y q)

-- numbers taken to the left are a number
left_number : (f : Fraction → Fraction → Fraction) → ((x y : Fraction) → IsReduced x → IsReduced y → IsReduced (f x y)) → (d v : Value) (ss : List Sort) (vs : List Value) → HasSort Number v → all_same Number ss ≡ true → HaveSorts ss vs → HasSort Number (left d (by_numbers f) (v ∷ vs))
left_number f r d v [] [] h e k = h
left_number f r d v [] (w ∷ ws) h e k = absurd k
left_number f r d v (s ∷ ss) [] h e k = absurd k
left_number f r d v (s ∷ ss) (w ∷ ws) h e k =
    let w_number = subst (λ x. HasSort x w) (sym (same_sort_is Number s (and_parts _ _ e).0)) k.0 in
    left_number f r d (by_numbers f v w) ss ws (r (number_in v) (number_in w) (reduced_in v h) (reduced_in w w_number)) (and_parts _ _ e).1 k.1

-- a row of a symbol's table, or its default
fit_sort : (s : Symbol) (rs : List TableRow) (default : Value) (vs : List Value) → HasSort s.result default → AllByRecursion (IsRowOf s) rs → HasSort s.result (first_fit rs default vs)
fit_sort s [] default vs d h = d
fit_sort s (r ∷ rs) default vs d h = go (same_values r.arguments vs) (fit_sort s rs default vs d h.1)
  where
    go : (c : Bool) → HasSort s.result (first_fit rs default vs) → HasSort s.result (cond c r.value (first_fit rs default vs))
    go true later = h.0.value
    go false later = later

table_sort : (s : Symbol) (i : Interpretation) (vs : List Value) → IsTableOf s (i.table s.name) → HasSort s.result (table_value i s.name vs)
table_sort s i vs t = fit_sort s (i.table s.name).rows (i.table s.name).default vs t.default (recursion_from_All (IsRowOf s) (i.table s.name).rows t.rows)

-- a parameter's value has its sort
parameter_sort : (ps : List Sort) (vs : List Value) (k : ℕ) (s : Sort) → has_parameter ps k s ≡ true → HaveSorts ps vs → HasSort s (get_or vs k (truth false))
parameter_sort [] vs k s e h = absurd (false≢true e)
parameter_sort (p ∷ ps) [] k s e h = absurd h
parameter_sort (p ∷ ps) (v ∷ vs) zero s e h = subst (λ x. HasSort x v) (same_sort_is p s e) h.0
parameter_sort (p ∷ ps) (v ∷ vs) (suc k) s e h = parameter_sort ps vs k s e h.1

-- the second of sorts
abbrev second_of : List Sort → Sort
second_of (s ∷ t ∷ ss) = t
second_of _ = Truth

second_is : (ts : Terms) → second_sort ts ≡ second_of (sorts_of ts)
unfolding second_sort
second_is nil = refl
second_is (cons t nil) = refl
second_is (cons t (cons u us)) = refl

-- the second or the third of three values, of which both have the sort of the second
chosen_sort : (ps ss : List Sort) (vs : List Value) → head_takes ps Ite ss ≡ true → HaveSorts ss vs → HasSort (second_of ss) (chosen vs)
chosen_sort ps (Truth ∷ s ∷ t ∷ []) (c ∷ v ∷ w ∷ vs) e k = go (is_true c)
  where
    go : (b : Bool) → HasSort s (cond b v w)
    go true = k.1.0
    go false = subst (λ x. HasSort x w) (sym (same_sort_is s t e)) k.1.1.0
chosen_sort ps (Truth ∷ s ∷ t ∷ []) (c ∷ v ∷ []) e k = absurd k.1.1
chosen_sort ps (Truth ∷ s ∷ t ∷ []) (c ∷ []) e k = absurd k.1
chosen_sort ps (Truth ∷ s ∷ t ∷ []) [] e k = absurd k
chosen_sort ps _ vs e k = absurd (false≢true e)

module _ (i : Interpretation) (symbols : List Symbol) (interprets : Interprets i symbols) (ps : List Sort) where
  minus_sort : (ss : List Sort) (vs : List Value) → head_takes ps Minus ss ≡ true → HaveSorts ss vs → HasSort Number (head_value i Minus vs)
  minus_sort (Number ∷ []) (v ∷ []) e k = opposite-reduced (number_in v) (reduced_in v k.0)
  minus_sort (Number ∷ []) (v ∷ w ∷ vs) e k = absurd k.1
  minus_sort (Number ∷ []) [] e k = absurd k
  minus_sort (Number ∷ Number ∷ []) (v ∷ w ∷ vs) e k = minus-reduced (number_in v) (number_in w) (reduced_in v k.0) (reduced_in w k.1.0)
  minus_sort (Number ∷ Number ∷ []) (v ∷ []) e k = absurd k.1
  minus_sort (Number ∷ Number ∷ []) [] e k = absurd k
  minus_sort _ vs e k = absurd (false≢true e)

  divide_sort : (ss : List Sort) (vs : List Value) → head_takes ps Divide ss ≡ true → HaveSorts ss vs → HasSort Number (head_value i Divide vs)
  divide_sort (Number ∷ Number ∷ []) (v ∷ w ∷ vs) e k = quotient_reduced (number_in v) (number_in w) (reduced_in v k.0) (reduced_in w k.1.0)
  divide_sort (Number ∷ Number ∷ []) (v ∷ []) e k = absurd k.1
  divide_sort (Number ∷ Number ∷ []) [] e k = absurd k
  divide_sort _ vs e k = absurd (false≢true e)

  many_sort : (f : Fraction → Fraction → Fraction) → ((x y : Fraction) → IsReduced x → IsReduced y → IsReduced (f x y)) → (d : Value) (s : Sort) (ss : List Sort) (vs : List Value) → all_same Number (s ∷ ss) ≡ true → HaveSorts (s ∷ ss) vs → HasSort Number (left d (by_numbers f) vs)
  many_sort f r d s ss [] e k = absurd k
  many_sort f r d s ss (v ∷ vs) e k = left_number f r d v ss vs (subst (λ x. HasSort x v) (sym (same_sort_is Number s (and_parts _ _ e).0)) k.0) (and_parts _ _ e).1 k.1

  -- what a head gives has its sort
  given_sort : (h : Head) (ss : List Sort) (vs : List Value) → IsPlain h → IsHeadOver symbols h → head_takes ps h ss ≡ true → HaveSorts ss vs → HasSort (sort_given h (second_of ss)) (head_value i h vs)
  given_sort True ss vs p o e k = tt
  given_sort False ss vs p o e k = tt
  given_sort Not ss vs p o e k = tt
  given_sort And ss vs p o e k = tt
  given_sort Or ss vs p o e k = tt
  given_sort Xor ss (v ∷ w ∷ vs) p o e k = tt
  given_sort Xor ss (v ∷ []) p o e k = tt
  given_sort Xor ss [] p o e k = tt
  given_sort Implies ss (v ∷ w ∷ vs) p o e k = tt
  given_sort Implies ss (v ∷ []) p o e k = tt
  given_sort Implies ss [] p o e k = tt
  given_sort Equal ss (v ∷ w ∷ vs) p o e k = tt
  given_sort Equal ss (v ∷ []) p o e k = tt
  given_sort Equal ss [] p o e k = tt
  given_sort Ite ss vs p o e k = chosen_sort ps ss vs e k
  given_sort Minus ss vs p o e k = minus_sort ss vs e k
  given_sort Plus [] vs p o e k = absurd (false≢true e)
  given_sort Plus (s ∷ ss) vs p o e k = many_sort plus sum_reduced (number zero_fraction) s ss vs e k
  given_sort Times [] vs p o e k = absurd (false≢true e)
  given_sort Times (s ∷ ss) vs p o e k = many_sort times product_reduced (number one_fraction) s ss vs e k
  given_sort Divide ss vs p o e k = divide_sort ss vs e k
  given_sort Less ss (v ∷ w ∷ vs) p o e k = tt
  given_sort Less ss (v ∷ []) p o e k = tt
  given_sort Less ss [] p o e k = tt
  given_sort AtMost ss (v ∷ w ∷ vs) p o e k = tt
  given_sort AtMost ss (v ∷ []) p o e k = tt
  given_sort AtMost ss [] p o e k = tt
  given_sort (Literal q) ss vs p o e k = o
  given_sort (Apply f) ss vs p o e k = table_sort f i vs (All-contains (λ s. IsTableOf s (i.table s.name)) symbols f interprets o)
  given_sort (Parameter j s) ss vs p o e k = absurd p

  mutual
    unfolding value_at values_at is_sorted are_sorted AllHeads AllHeadsIn sort_of

    value_sort : (vs : List Value) → HaveSorts ps vs → (t : Term) → is_sorted ps t ≡ true → AllHeads (IsHeadOver symbols) t → HasSort (sort_of t) (value_at i vs t)
    value_sort vs h (app (Parameter k s) nil) e o = parameter_sort ps vs k s (and_parts _ _ e).0 h
    value_sort vs h (app (Parameter k s) (cons u us)) e o = absurd (false≢true e)
    value_sort vs h (app g ts) e o = subst (λ s. HasSort (sort_given g s) (head_value i g (values_at i vs ts))) (sym (second_is ts)) (given_sort g (sorts_of ts) (values_at i vs ts) tt o.0 (and_parts _ _ e).0 (values_sort vs h ts (and_parts _ _ e).1 o.1))

    values_sort : (vs : List Value) → HaveSorts ps vs → (ts : Terms) → are_sorted ps ts ≡ true → AllHeadsIn (IsHeadOver symbols) ts → HaveSorts (sorts_of ts) (values_at i vs ts)
    values_sort vs h nil e o = tt
    values_sort vs h (cons t ts) e o = (value_sort vs h t (and_parts _ _ e).0 o.0, values_sort vs h ts (and_parts _ _ e).1 o.1)

  -- the value of a well-sorted term has its sort
  pub value_has_sort : (vs : List Value) (t : Term) → IsWellSorted symbols ps t → HaveSorts ps vs → HasSort (sort_of t) (value_at i vs t)
  value_has_sort vs t w h = value_sort vs h t w.sorted w.heads

-- a value of sort Bool is a truth value
pub truth_of_sort : (v : Value) → HasSort Truth v → (b : Bool) × (v ≡ truth b)
truth_of_sort (truth b) h = (b, refl)
truth_of_sort (number q) h = absurd h
truth_of_sort (element n k) h = absurd h

-- a formula has a truth value
pub formula_value : (i : Interpretation) (symbols : List Symbol) (t : Term) → Interprets i symbols → IsFormulaOver symbols t → (b : Bool) × (value_at i [] t ≡ truth b)
formula_value i symbols t interprets f = truth_of_sort (value_at i [] t) (subst (λ s. HasSort s (value_at i [] t)) f.sort (value_has_sort i symbols interprets [] [] t f.term tt))
