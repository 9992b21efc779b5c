-- The numbers of terms obey the heads of arithmetic, so a form has the number of its term.
use Rattle.std.proofs.Common.{◌≡◌, true, false, List, [], ◌∷◌, map, Ok, refl, ap, ◌∙◌}
use Rattle.std.specs.List.{AllByRecursion}
use Rattle.std.proofs.lemmas.Bool.{false≢true, and_parts}
use Rattle.spec_numbers.specs.Fractions.{Fraction, zero_fraction, one_fraction, plus, times, opposite, inverse, IsReduced}
use Rattle.spec_numbers.proofs.Field.{opposite-reduced, inverse-reduced, sum_reduced, product_reduced}
use Rattle.spec_sorts.specs.Lists.{left}
use Rattle.spec_sorts.specs.Terms.{Sort, Truth, Number, Declared, Symbol, Head, Minus, Plus, Times, Divide, Literal, Term, Terms, app, nil, cons, list_of, sort_of, sorts_of, head_takes, is_sorted, are_sorted}
use Rattle.spec_sorts.specs.WellSorted.{AllHeads, IsHeadOver, IsWellSorted}
use Rattle.spec_sorts.specs.Values.{Value, truth, number, Interpretation}
use Rattle.spec_sorts.specs.TermValues.{by_numbers, head_value}
use Rattle.spec_sorts.specs.Theory.{keeps_constant}
use Rattle.spec_arithmetic.specs.Forms.{Form, form}
use Rattle.spec_arithmetic.specs.Numbers.{head_number, number_at, numbers_at}
use Rattle.spec_arithmetic.proofs.Reals.{IsReal, AreReal, arguments_real, reals_parts, plus_takes, times_takes, minus_takes, divide_takes}
use Rattle.spec_arithmetic.proofs.FormTerms.{Gives, ObeyArithmetic, obeying_gives}

-- the numbers of terms as values
abbrev pub as_values : (Term → Fraction) → Term → Value
as_values n t = number (number_at n t)

-- numbers in lowest terms taken to the left
left_reduced : (d : Fraction) (f : Fraction → Fraction → Fraction) → ((p q : Fraction) → IsReduced p → IsReduced q → IsReduced (f p q))
    → (p : Fraction) (ps : List Fraction) → IsReduced p → AllByRecursion IsReduced ps → IsReduced (left d f (p ∷ ps))
left_reduced d f keeps p [] r rs = r
left_reduced d f keeps p (q ∷ ps) r rs = left_reduced d f keeps (f p q) ps (keeps p q r rs.0) rs.1

-- what a head gives at such numbers
head_reduced : (symbols : List Symbol) (h : Head) (ps : List Fraction) (other : Fraction) → IsHeadOver symbols h → AllByRecursion IsReduced ps → IsReduced other → IsReduced (head_number h ps other)
head_reduced symbols Plus [] other o rs r = r
head_reduced symbols Plus (p ∷ ps) other o rs r = left_reduced zero_fraction plus sum_reduced p ps rs.0 rs.1
head_reduced symbols Times [] other o rs r = r
head_reduced symbols Times (p ∷ ps) other o rs r = left_reduced one_fraction times product_reduced p ps rs.0 rs.1
head_reduced symbols Minus [] other o rs r = r
head_reduced symbols Minus (p ∷ []) other o rs r = opposite-reduced p rs.0
head_reduced symbols Minus (p ∷ q ∷ ps) other o rs r = sum_reduced p (opposite q) rs.0 (opposite-reduced q rs.1.0)
head_reduced symbols Divide [] other o rs r = r
head_reduced symbols Divide (p ∷ []) other o rs r = r
head_reduced symbols Divide (p ∷ q ∷ ps) other o rs r = product_reduced p (inverse q) rs.0 (inverse-reduced q rs.1.0)
head_reduced symbols (Literal q) ps other o rs r = o
head_reduced symbols h ps other o rs r = r

-- the head of a well-sorted term takes its arguments
pub takes : (symbols : List Symbol) (h : Head) (ts : Terms) → IsWellSorted symbols [] (app h ts) → head_takes [] h (sorts_of ts) ≡ true
unfolding is_sorted
takes symbols h ts w = (and_parts (head_takes [] h (sorts_of ts)) (are_sorted [] ts) w.sorted).0

-- numbers taken to the left, as values
left_numbers : (d : Fraction) (f : Fraction → Fraction → Fraction) (p : Fraction) (ps : List Fraction)
    → number (left d f (p ∷ ps)) ≡ left (number d) (by_numbers f) (number p ∷ map number ps)
left_numbers d f p [] = refl
left_numbers d f p (q ∷ ps) = left_numbers d f (f p q) ps

numbers_listed : (n : Term → Fraction) (ts : Terms) → map number (numbers_at n ts) ≡ map (as_values n) (list_of ts)
unfolding numbers_at
numbers_listed n nil = refl
numbers_listed n (cons t ts) = ap (λ vs. as_values n t ∷ vs) (numbers_listed n ts)

-- a term has the number that its head gives at its arguments' numbers
pub number_obeys : (symbols : List Symbol) (n : Term → Fraction) (i : Interpretation) (h : Head) (ts : Terms) → keeps_constant h ≡ true → IsWellSorted symbols [] (app h ts)
    → number (number_at n (app h ts)) ≡ head_value i h (map (as_values n) (list_of ts))
unfolding number_at numbers_at
number_obeys symbols n i Plus nil k w = absurd (false≢true (takes symbols Plus nil w))
number_obeys symbols n i Plus (cons t ts) k w =
    left_numbers zero_fraction plus (number_at n t) (numbers_at n ts) ∙ ap (λ vs. left (number zero_fraction) (by_numbers plus) (as_values n t ∷ vs)) (numbers_listed n ts)
number_obeys symbols n i Times nil k w = absurd (false≢true (takes symbols Times nil w))
number_obeys symbols n i Times (cons t ts) k w =
    left_numbers one_fraction times (number_at n t) (numbers_at n ts) ∙ ap (λ vs. left (number one_fraction) (by_numbers times) (as_values n t ∷ vs)) (numbers_listed n ts)
number_obeys symbols n i Minus nil k w = absurd (false≢true (takes symbols Minus nil w))
number_obeys symbols n i Minus (cons t nil) k w = refl
number_obeys symbols n i Minus (cons t (cons u ts)) k w = refl
number_obeys symbols n i Divide nil k w = absurd (false≢true (takes symbols Divide nil w))
number_obeys symbols n i Divide (cons t nil) k w = absurd (false≢true (divide_two (sort_of t) (takes symbols Divide (cons t nil) w)))
  where
    divide_two : (s : Sort) → head_takes [] Divide (s ∷ []) ≡ true → false ≡ true
    divide_two Truth e = e
    divide_two Number e = e
    divide_two (Declared m) e = e
number_obeys symbols n i Divide (cons t (cons u ts)) k w = refl
number_obeys symbols n i (Literal q) ts k w = refl
number_obeys symbols n i h ts k w = absurd (false≢true k)

-- an interpretation of which nothing is asked
some_interpretation : Interpretation
some_interpretation = record { table = λ n. record { rows = []; default = truth false } }

module _ (symbols : List Symbol) (n : Term → Fraction) (reduced : (t : Term) → IsReduced (n t)) where
  mutual
    unfolding number_at numbers_at AllHeads

    -- the number of a term of sort Real is in lowest terms
    pub number_reduced : (t : Term) → IsReal symbols t → IsReduced (number_at n t)
    number_reduced (app Plus ts) r =
        head_reduced symbols Plus (numbers_at n ts) (n (app Plus ts)) tt (numbers_reduced ts (arguments_real symbols Plus ts plus_takes r.term)) (reduced (app Plus ts))
    number_reduced (app Times ts) r =
        head_reduced symbols Times (numbers_at n ts) (n (app Times ts)) tt (numbers_reduced ts (arguments_real symbols Times ts times_takes r.term)) (reduced (app Times ts))
    number_reduced (app Minus ts) r =
        head_reduced symbols Minus (numbers_at n ts) (n (app Minus ts)) tt (numbers_reduced ts (arguments_real symbols Minus ts minus_takes r.term)) (reduced (app Minus ts))
    number_reduced (app Divide ts) r =
        head_reduced symbols Divide (numbers_at n ts) (n (app Divide ts)) tt (numbers_reduced ts (arguments_real symbols Divide ts divide_takes r.term)) (reduced (app Divide ts))
    number_reduced (app (Literal q) ts) r = r.term.heads.0
    number_reduced (app h ts) r = reduced (app h ts)

    numbers_reduced : (ts : Terms) → AreReal symbols ts → AllByRecursion IsReduced (numbers_at n ts)
    numbers_reduced nil r = tt
    numbers_reduced (cons t ts) r = let parts = reals_parts symbols t ts r in (number_reduced t parts.0, numbers_reduced ts parts.1)

  numbers_obey : (i : Interpretation) → ObeyArithmetic i symbols (as_values n)
  numbers_obey i = record {
    numbers = λ t r. record { fraction = number_at n t; same = refl; reduced = number_reduced t r };
    obeys = λ h ts k r. number_obeys symbols n i h ts k r.term;
  }

  -- a form has the number of its term, and is in lowest terms
  pub form_number : (t : Term) (f : Form) → form t ≡ Ok f → IsReal symbols t → Gives (number_at n) (as_values n t) f
  form_number = obeying_gives some_interpretation symbols (as_values n) (numbers_obey some_interpretation)
