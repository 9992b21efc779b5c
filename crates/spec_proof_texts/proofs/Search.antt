-- Where the terms of a check and the interface equalities can be read back whole, so can all that a search speaks of, and what is made of that.
use Rattle.std.proofs.Common.{List, [], ◌∷◌, All, Contains, true, false, subst, arith, refl}
use Rattle.spec_text.proofs.Members.{none, each_of}
use Rattle.spec_sorts.specs.Terms.{True, False, Not, Ite, Equal, AtMost, Times, Divide, Term, Terms, app, nil, cons, of, list_of, negated, pair}
use Rattle.spec_sorts.specs.Subsets.{arguments_of}
use Rattle.spec_arithmetic.specs.Numbers.{IsLinear}
use Rattle.spec_arithmetic.proofs.Linear.{argument_linear}
use Rattle.spec_derivations.specs.Problems.{Problem, known_terms}
use Rattle.spec_derivations.specs.Base.{branch_equalities}
use Rattle.spec_derivations.specs.Orders.{order_fact, whole_terms}
use Rattle.spec_derivations.specs.Lemmas.{IsMadeOf, given, is_true, is_false, is_equality, is_negation}
use Rattle.spec_derivations.specs.Spent.{IsAtomOf, subterm, with_first, with_second, forth, back}
use Rattle.spec_derivations.proofs.Below.{subterms_have}
use Rattle.spec_valuations.proofs.Speaking.{choice, truth_fact, both_have, all_branches, whole_have}
use Rattle.spec_valuations.proofs.Linear.{whole_linear}
use Rattle.spec_proof_texts.specs.Printable.{IsReadable}
use Rattle.spec_proof_texts.specs.Readable.{HasDecimals, HaveDecimals, IsReadableWhole}
use Rattle.spec_proof_texts.proofs.ReadableHeads.{before}

-- the head of such a term can be read
pub head_readable : (t : Term) → IsLinear t → HasDecimals t → IsReadable t
unfolding IsLinear HasDecimals
head_readable (app Times ts) l d = record { text = d.0; linear = l.0 }
head_readable (app Divide ts) l d = record { text = d.0; linear = l.0 }
head_readable (app h ts) l d = record { text = d.0; linear = refl }

-- the arguments of a term with decimals have them
members_decimal : (ts : Terms) → HaveDecimals ts → (u : Term) → Contains (list_of ts) u → HasDecimals u
unfolding HaveDecimals
members_decimal nil d u u_in = absurd (none u u_in)
members_decimal (cons t ts) d u u_in = each_of HasDecimals t (list_of ts) d.0 (members_decimal ts d.1) u u_in

argument_decimal : (t : Term) → HasDecimals t → (u : Term) → Contains (arguments_of t) u → HasDecimals u
unfolding HasDecimals
argument_decimal (app h ts) d = members_decimal ts d.1

pub argument_readable : (t : Term) → IsReadableWhole t → (u : Term) → Contains (arguments_of t) u → IsReadableWhole u
argument_readable t a u u_in = (argument_linear t a.0 u u_in, argument_decimal t a.1 u u_in)

-- an equality, an order, and an order's negation
equality_decimal : (s t : Term) → HasDecimals s → HasDecimals t → HasDecimals (pair Equal s t)
unfolding HasDecimals HaveDecimals
equality_decimal s t d e = (tt, (d, (e, tt)))

order_decimal : (s t : Term) → HasDecimals s → HasDecimals t → HasDecimals (negated (pair AtMost s t))
unfolding HasDecimals HaveDecimals
order_decimal s t d e = (tt, ((tt, (d, (e, tt))), tt))

fact_decimal : (s t : Term) → HasDecimals (pair Equal s t) → HasDecimals (order_fact s t)
unfolding HasDecimals HaveDecimals
fact_decimal s t d =
    let left = argument_decimal (pair Equal s t) d s (0, omega arith, refl) in
    let right = argument_decimal (pair Equal s t) d t (1, omega arith, refl) in
    (tt, (d, (order_decimal s t left right, (order_decimal t s right left, tt))))

branch_decimal : (t : Term) → HasDecimals t → (u : Term) → Contains (branch_equalities t) u → HasDecimals u
branch_decimal t d = all_branches HasDecimals t (λ c a b e.
    let own = subst HasDecimals e d in
    let parts = argument_decimal (choice c a b) own in
    (equality_decimal (choice c a b) a own (parts a (1, omega arith, refl)), equality_decimal (choice c a b) b own (parts b (2, omega arith, refl))))

pub whole_decimal : (p : Problem) → All HasDecimals (known_terms p) → (t : Term) → Contains (whole_terms p) t → HasDecimals t
unfolding HasDecimals HaveDecimals
whole_decimal p decimals = whole_have HasDecimals p (record {
  down = argument_decimal;
  terms = decimals;
  facts = both_have HasDecimals (truth_fact true) (truth_fact false) (tt, ((tt, ((tt, tt), tt)), ((tt, tt), tt))) (tt, ((tt, ((tt, tt), tt)), ((tt, tt), tt)));
  branches = λ t t_in d. branch_decimal t d;
}) (λ s t number d. fact_decimal s t d)

-- what a search speaks of
pub whole_readable : (p : Problem) → All IsReadableWhole (known_terms p) → (t : Term) → Contains (whole_terms p) t → IsReadableWhole t
whole_readable p each t t_in = (whole_linear p (λ k d lt. (each k d lt).0) t t_in, whole_decimal p (λ k d lt. (each k d lt).1) t t_in)

-- a head of two arguments that refuses none
equality_readable : (s t : Term) → IsReadableWhole s → IsReadableWhole t → IsReadableWhole (pair Equal s t)
equality_readable s t a b = before Equal (s ∷ t ∷ []) tt tt (a, (b, tt))

order_readable : (s t : Term) → IsReadableWhole s → IsReadableWhole t → IsReadableWhole (pair AtMost s t)
order_readable s t a b = before AtMost (s ∷ t ∷ []) tt tt (a, (b, tt))

-- what is made of such terms
pub made_readable : (ts : List Term) → ((t : Term) → Contains ts t → IsReadableWhole t) → (t : Term) → IsMadeOf ts t → IsReadableWhole t
made_readable ts each _ (given t t_in) = each t t_in
made_readable ts each _ is_true = before True [] tt tt tt
made_readable ts each _ is_false = before False [] tt tt tt
made_readable ts each _ (is_equality t u a b) = equality_readable t u (made_readable ts each t a) (made_readable ts each u b)
made_readable ts each _ (is_negation t a) = before Not (t ∷ []) tt tt (made_readable ts each t a, tt)

-- what literals of learned clauses may be over
pub atom_readable : (p : Problem) → All IsReadableWhole (known_terms p) → (t : Term) → IsAtomOf p t → IsReadableWhole t
atom_readable p each _ (subterm t t_in sort not_true not_false) = subterms_have IsReadableWhole argument_readable (known_terms p) each t t_in
atom_readable p each _ (with_first c s t w_in other) =
    let w = of Ite (c ∷ s ∷ t ∷ []) in
    let own = subterms_have IsReadableWhole argument_readable (known_terms p) each w w_in in
    equality_readable w s own (argument_readable w own s (1, omega arith, refl))
atom_readable p each _ (with_second c s t w_in other) =
    let w = of Ite (c ∷ s ∷ t ∷ []) in
    let own = subterms_have IsReadableWhole argument_readable (known_terms p) each w w_in in
    equality_readable w t own (argument_readable w own t (2, omega arith, refl))
atom_readable p each _ (forth s t a number) =
    let own = argument_readable (pair Equal s t) (atom_readable p each (pair Equal s t) a) in
    order_readable s t (own s (0, omega arith, refl)) (own t (1, omega arith, refl))
atom_readable p each _ (back s t a number) =
    let own = argument_readable (pair Equal s t) (atom_readable p each (pair Equal s t) a) in
    order_readable t s (own t (1, omega arith, refl)) (own s (0, omega arith, refl))
