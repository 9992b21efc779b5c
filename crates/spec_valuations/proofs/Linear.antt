-- Where the terms of a check and the interface equalities are linear, so are all that a search over linear arithmetic speaks of.
use Rattle.std.proofs.Common.{All, Contains, true, false, subst, arith, refl}
use Rattle.spec_sorts.specs.Terms.{Equal, AtMost, Term, negated, pair}
use Rattle.spec_arithmetic.specs.Numbers.{IsLinear, AreLinear}
use Rattle.spec_arithmetic.proofs.Linear.{argument_linear}
use Rattle.spec_derivations.specs.Problems.{Problem, known_terms}
use Rattle.spec_derivations.specs.Base.{branch_equalities}
use Rattle.spec_derivations.specs.Orders.{order_fact, whole_terms}
use Rattle.spec_valuations.proofs.Speaking.{choice, truth_fact, both_have, all_branches, whole_have}

-- an equality, an order and a negation
equality_linear : (s t : Term) → IsLinear s → IsLinear t → IsLinear (pair Equal s t)
unfolding IsLinear AreLinear
equality_linear s t l k = (tt, (l, (k, tt)))

order_linear : (s t : Term) → IsLinear s → IsLinear t → IsLinear (negated (pair AtMost s t))
unfolding IsLinear AreLinear
order_linear s t l k = (tt, ((tt, (l, (k, tt))), tt))

fact_linear : (s t : Term) → IsLinear (pair Equal s t) → IsLinear (order_fact s t)
unfolding IsLinear AreLinear
fact_linear s t l =
    let left = argument_linear (pair Equal s t) l s (0, omega arith, refl) in
    let right = argument_linear (pair Equal s t) l t (1, omega arith, refl) in
    (tt, (l, (order_linear s t left right, (order_linear t s right left, tt))))

branch_linear : (t : Term) → IsLinear t → (u : Term) → Contains (branch_equalities t) u → IsLinear u
branch_linear t l = all_branches IsLinear t (λ c a b e.
    let own = subst IsLinear e l in
    let parts = argument_linear (choice c a b) own in
    (equality_linear (choice c a b) a own (parts a (1, omega arith, refl)), equality_linear (choice c a b) b own (parts b (2, omega arith, refl))))

pub whole_linear : (p : Problem) → All IsLinear (known_terms p) → (t : Term) → Contains (whole_terms p) t → IsLinear t
unfolding IsLinear AreLinear
whole_linear p linear = whole_have IsLinear p (record {
  down = argument_linear;
  terms = linear;
  facts = both_have IsLinear (truth_fact true) (truth_fact false) (tt, ((tt, ((tt, tt), tt)), ((tt, tt), tt))) (tt, ((tt, ((tt, tt), tt)), ((tt, tt), tt)));
  branches = λ t t_in l. branch_linear t l;
}) (λ s t number l. fact_linear s t l)
