-- The rules as a table: what a rule asks of a step, and the clauses that terms give. Source: Alethe specification,
-- rules.
use Rattle.std.specs.Prelude.{ℕ, Bool, true, false, ◌&&◌, List, [], ◌∷◌, map, slice_index_or, if◌then◌else◌}
use Rattle.spec_sorts.specs.Terms.{Head, True, False, Not, And, Or, Xor, Implies, Equal, Ite, Truth, Term, app, nil}
use Rattle.spec_sorts.specs.Terms.{cons, list_of, no_term, negated, sort_of, all_same, head_takes, same_head}
use Rattle.spec_sorts.specs.Subsets.{arguments_of}
use Rattle.spec_sorts.specs.Literals.{Clause}
use Rattle.spec_equality.specs.declared.EqualityRule.{EqualityRule}
use Rattle.spec_equality.specs.declared.EqualityRule.TheVariants as equals
use Rattle.spec_arithmetic.specs.declared.ArithmeticRule.{ArithmeticRule}
use Rattle.spec_arithmetic.specs.declared.ArithmeticRule.TheVariants as arithmetic
use Rattle.spec_proofs.specs.declared.Rule.{Rule}
use Rattle.spec_proofs.specs.declared.Rule.TheVariants as rules
use Rattle.spec_proofs.specs.declared.ArgumentLiteral.{ArgumentLiteral}
use Rattle.spec_proofs.specs.declared.Rest.{Rest}
use Rattle.spec_proofs.specs.declared.Rest.TheVariants.{Nothing, One, Two, AnyOne, Each, Innermost}

-- Which clauses a term gives: its head, whether it comes first as it is or negated, and what is after it.
pub record Scheme : Type 0 where
  -- the head of the first term
  pub head : Head
  -- whether the first term is meant as it is
  pub positive : Bool
  -- the literals after it, by its arguments
  pub rest : Rest

-- the term as it is where that is wanted, else its negation
abbrev pub signed_term : Bool → Term → Term
signed_term true t = t
signed_term false t = negated t

-- the argument of a place, as it is or negated
abbrev pub side_of : List Term → ArgumentLiteral → Term
side_of ts x = signed_term x.positive (slice_index_or ts x.place no_term)

-- what the one argument, a negation, negates
abbrev pub innermost : List Term → List Clause
innermost (app Not (cons t nil) ∷ []) = (t ∷ []) ∷ []
innermost ts = []

-- the literals that may be after a term of these arguments
abbrev pub rests_of : Rest → List Term → List Clause
rests_of Nothing ts = [] ∷ []
rests_of (One x) ts = (side_of ts x ∷ []) ∷ []
rests_of (Two x y) ts = (side_of ts x ∷ side_of ts y ∷ []) ∷ []
rests_of (AnyOne p) ts = map (λ t. signed_term p t ∷ []) ts
rests_of (Each p) ts = map (signed_term p) ts ∷ []
rests_of Innermost ts = innermost ts

-- the term has that head, which takes its arguments, and these are all of sort Bool
abbrev pub is_formula_of : Head → Term → Bool
is_formula_of h (app g ts) = same_head h g && head_takes [] g (map sort_of (list_of ts))
    && all_same Truth (map sort_of (list_of ts))

-- the clauses that a term gives by a scheme
abbrev pub clauses_by : Scheme → Term → List Clause
clauses_by s t = if is_formula_of s.head t then map (λ ls. signed_term s.positive t ∷ ls)
    (rests_of s.rest (arguments_of t)) else []

-- What a rule asks of a step.
pub data Kind : Type 0 where
  -- one premise, a disjunction, each of whose arguments is in the clause
  opens : Kind
  -- one premise, each of whose literals is in the clause
  keeps : Kind
  -- premises from which the clause follows by unit propagation
  resolves : Kind
  -- no premise; some term gives the clause
  states : Scheme → Kind
  -- one premise of one literal; some term gives the clause with that literal's complement in front
  turns : Scheme → Kind
  -- the step is one of equality and functions
  equates : EqualityRule → Kind
  -- the step is one of linear arithmetic
  calculates : ArithmeticRule → Kind

-- a scheme of a term as it is, and of a negated one
abbrev pub plain_scheme : Head → Rest → Scheme
plain_scheme h r = record { head = h; positive = true; rest = r }

abbrev pub refuted : Head → Rest → Scheme
refuted h r = record { head = h; positive = false; rest = r }

-- an argument by its place: as it is, and negated
abbrev pub yes : ℕ → ArgumentLiteral
yes n = record { place = n; positive = true }

abbrev pub no : ℕ → ArgumentLiteral
no n = record { place = n; positive = false }

-- (cl true), and (cl (not false))
abbrev pub true_scheme : Scheme
true_scheme = plain_scheme True Nothing

abbrev pub false_scheme : Scheme
false_scheme = refuted False Nothing

-- (cl (not (and a1 .. an)) ak), and (cl (and a1 .. an) (not a1) .. (not an))
abbrev pub and_pos : Scheme
and_pos = refuted And (AnyOne true)

abbrev pub and_neg : Scheme
and_neg = plain_scheme And (Each false)

-- (cl (not (or a1 .. an)) a1 .. an), and (cl (or a1 .. an) (not ak))
abbrev pub or_pos : Scheme
or_pos = refuted Or (Each true)

abbrev pub or_neg : Scheme
or_neg = plain_scheme Or (AnyOne false)

-- (cl (not (=> a b)) (not a) b), (cl (=> a b) a), and (cl (=> a b) (not b))
abbrev pub implies_pos : Scheme
implies_pos = refuted Implies (Two (no 0) (yes 1))

abbrev pub implies_neg1 : Scheme
implies_neg1 = plain_scheme Implies (One (yes 0))

abbrev pub implies_neg2 : Scheme
implies_neg2 = plain_scheme Implies (One (no 1))

-- (cl (not (= a b)) a (not b)), and (cl (not (= a b)) (not a) b)
abbrev pub equiv_pos1 : Scheme
equiv_pos1 = refuted Equal (Two (yes 0) (no 1))

abbrev pub equiv_pos2 : Scheme
equiv_pos2 = refuted Equal (Two (no 0) (yes 1))

-- (cl (= a b) (not a) (not b)), and (cl (= a b) a b)
abbrev pub equiv_neg1 : Scheme
equiv_neg1 = plain_scheme Equal (Two (no 0) (no 1))

abbrev pub equiv_neg2 : Scheme
equiv_neg2 = plain_scheme Equal (Two (yes 0) (yes 1))

-- (cl (not (xor a b)) a b), and (cl (not (xor a b)) (not a) (not b))
abbrev pub xor_pos1 : Scheme
xor_pos1 = refuted Xor (Two (yes 0) (yes 1))

abbrev pub xor_pos2 : Scheme
xor_pos2 = refuted Xor (Two (no 0) (no 1))

-- (cl (xor a b) a (not b)), and (cl (xor a b) (not a) b)
abbrev pub xor_neg1 : Scheme
xor_neg1 = plain_scheme Xor (Two (yes 0) (no 1))

abbrev pub xor_neg2 : Scheme
xor_neg2 = plain_scheme Xor (Two (no 0) (yes 1))

-- (cl (not (ite c a b)) c b), and (cl (not (ite c a b)) (not c) a)
abbrev pub ite_pos1 : Scheme
ite_pos1 = refuted Ite (Two (yes 0) (yes 2))

abbrev pub ite_pos2 : Scheme
ite_pos2 = refuted Ite (Two (no 0) (yes 1))

-- (cl (ite c a b) c (not b)), and (cl (ite c a b) (not c) (not a))
abbrev pub ite_neg1 : Scheme
ite_neg1 = plain_scheme Ite (Two (yes 0) (no 2))

abbrev pub ite_neg2 : Scheme
ite_neg2 = plain_scheme Ite (Two (no 0) (no 1))

-- (cl (not (not (not a))) a)
abbrev pub not_not : Scheme
not_not = refuted Not Innermost

-- the schemes of the rules without premises
abbrev pub schemes : List Scheme
schemes = true_scheme ∷ false_scheme ∷ and_pos ∷ and_neg ∷ or_pos ∷ or_neg ∷ implies_pos ∷ implies_neg1 ∷ implies_neg2
    ∷ equiv_pos1 ∷ equiv_pos2 ∷ equiv_neg1 ∷ equiv_neg2 ∷ xor_pos1 ∷ xor_pos2 ∷ xor_neg1 ∷ xor_neg2 ∷ ite_pos1
    ∷ ite_pos2 ∷ ite_neg1 ∷ ite_neg2 ∷ not_not ∷ []

-- what each rule asks of a step
abbrev pub kind_of : Rule → Kind
kind_of rules.Or = opens
kind_of rules.Contraction = keeps
kind_of rules.Reordering = keeps
kind_of rules.Weakening = keeps
kind_of rules.Resolution = resolves
kind_of rules.ThResolution = resolves
kind_of rules.True = states true_scheme
kind_of rules.False = states false_scheme
kind_of rules.AndPos = states and_pos
kind_of rules.AndNeg = states and_neg
kind_of rules.OrPos = states or_pos
kind_of rules.OrNeg = states or_neg
kind_of rules.ImpliesPos = states implies_pos
kind_of rules.ImpliesNeg1 = states implies_neg1
kind_of rules.ImpliesNeg2 = states implies_neg2
kind_of rules.EquivPos1 = states equiv_pos1
kind_of rules.EquivPos2 = states equiv_pos2
kind_of rules.EquivNeg1 = states equiv_neg1
kind_of rules.EquivNeg2 = states equiv_neg2
kind_of rules.XorPos1 = states xor_pos1
kind_of rules.XorPos2 = states xor_pos2
kind_of rules.XorNeg1 = states xor_neg1
kind_of rules.XorNeg2 = states xor_neg2
kind_of rules.ItePos1 = states ite_pos1
kind_of rules.ItePos2 = states ite_pos2
kind_of rules.IteNeg1 = states ite_neg1
kind_of rules.IteNeg2 = states ite_neg2
kind_of rules.NotNot = states not_not
kind_of rules.And = turns and_pos
kind_of rules.NotAnd = turns and_neg
kind_of rules.NotOr = turns or_neg
kind_of rules.Implies = turns implies_pos
kind_of rules.NotImplies1 = turns implies_neg1
kind_of rules.NotImplies2 = turns implies_neg2
kind_of rules.Equiv1 = turns equiv_pos2
kind_of rules.Equiv2 = turns equiv_pos1
kind_of rules.NotEquiv1 = turns equiv_neg2
kind_of rules.NotEquiv2 = turns equiv_neg1
kind_of rules.Xor1 = turns xor_pos1
kind_of rules.Xor2 = turns xor_pos2
kind_of rules.NotXor1 = turns xor_neg1
kind_of rules.NotXor2 = turns xor_neg2
kind_of rules.Ite1 = turns ite_pos1
kind_of rules.Ite2 = turns ite_pos2
kind_of rules.NotIte1 = turns ite_neg1
kind_of rules.NotIte2 = turns ite_neg2
kind_of rules.EqReflexive = equates equals.EqReflexive
kind_of rules.EqTransitive = equates equals.EqTransitive
kind_of rules.EqCongruent = equates equals.EqCongruent
kind_of rules.EqCongruentPred = equates equals.EqCongruentPred
kind_of rules.Refl = equates equals.Refl
kind_of rules.Symm = equates equals.Symm
kind_of rules.Trans = equates equals.Trans
kind_of rules.Cong = equates equals.Cong
kind_of rules.DistinctElim = equates equals.DistinctElim
kind_of rules.IteThen = equates equals.IteThen
kind_of rules.IteElse = equates equals.IteElse
kind_of rules.LaGeneric = calculates arithmetic.LaGeneric
kind_of rules.LaDisequality = calculates arithmetic.LaDisequality
kind_of rules.LaTotality = calculates arithmetic.LaTotality
