-- The chain that gives the first clause of the eight, over any clauses among which are those of two of them.
use Rattle.std.proofs.Common.{◌≡◌, ◌&&◌, Bool, true, false, not, List, [], ◌∷◌, map, Contains, inl, inr, refl, sym, ◌∙◌, subst}
use Rattle.std.specs.List.{list_any}
use Rattle.std.proofs.lemmas.Bool.{false≢true, and_parts, not-true}
use Rattle.std.proofs.lemmas.List.Folds.{Any-from_list_any}
use Rattle.spec_text.proofs.Members.{cases, none}
use Rattle.spec_sorts.specs.Terms.{Term, same_term, sort_of, second_sort}
use Rattle.spec_sorts.specs.Literals.{Literal, complement, literal_of, literals_of}
use Rattle.spec_sorts.specs.Subterms.{with_subterms, with_all_subterms}
use Rattle.spec_rules.specs.Examples.{p, q, r}
use Rattle.spec_derivations.specs.Learned.{same_literal}
use Rattle.spec_derivations.specs.ExactChains.{HasSame, AreGone, IsExactChain, begin, resolve, IsExactResolvent}
use Rattle.spec_derivations.specs.Derivations.{Derivation}
use Rattle.spec_derivations.specs.Inputs.{input_clauses, IsInput}
use Rattle.spec_derivations.specs.Examples.{asserting, eight, one_of, not_both}
use Rattle.spec_derivations.specs.Copies.{given}
use Rattle.spec_derivations.proofs.Learned.{literals_decide}
use Rattle.spec_derivations.proofs.Eight.{has, has_there, there_has}
use Rattle.spec_derivations.proofs.Exact.{left_of, left_is, same_chain}

-- tests for literals and clauses in lists
not_there : (held : List Literal) (m : Literal) → not (has held m) ≡ true → Contains held m → ⊥
not_there held m e i = false≢true (sym (not-true (has held m) e) ∙ there_has held m i)

abbrev one : List Literal → List Literal → Bool
one [] [] = true
one (l ∷ ls) (m ∷ ms) = same_literal l m && one ls ms
one ls ms = false

one_is : (ls ms : List Literal) → one ls ms ≡ true → ls ≡ ms
one_is [] [] e = refl
one_is [] (m ∷ ms) e = absurd (false≢true e)
one_is (l ∷ ls) [] e = absurd (false≢true e)
one_is (l ∷ ls) (m ∷ ms) e = let h = and_parts (same_literal l m) (one ls ms) e in λ i. (literals_decide l m).0 h.0 i ∷ one_is ls ms h.1 i

abbrev among : List (List Literal) → List Literal → Bool
among cs c = list_any (λ d. one d c) cs

among_is : (cs : List (List Literal)) (c : List Literal) → among cs c ≡ true → Contains cs c
among_is cs c e = let x = Any-from_list_any (λ d. one d c) cs e in subst (Contains cs) (one_is x.1 c x.4) (x.0, x.2, x.3)

-- that pivots are gone
abbrev gone : List Literal → List Literal → Bool
gone [] clause = true
gone (l ∷ ls) clause = (not (has clause l) && not (has clause (complement l))) && gone ls clause

are_gone : (ls clause : List Literal) → gone ls clause ≡ true → AreGone complement ls clause
are_gone [] clause e l i = absurd (none l i)
are_gone (m ∷ ms) clause e l i =
    let h = and_parts (not (has clause m) && not (has clause (complement m))) (gone ms clause) e in
    let both = and_parts (not (has clause m)) (not (has clause (complement m))) h.0 in
    elim (cases m ms l i) [
      | inl same ↦ subst (λ x. (Contains clause x → ⊥) × (Contains clause (complement x) → ⊥)) same (not_there clause m both.0, not_there clause (complement m) both.1)
      | inr rest ↦ are_gone ms clause h.1 l rest
    ]

-- that all of one list are in another
abbrev within : List Literal → List Literal → Bool
within [] ms = true
within (l ∷ ls) ms = has ms l && within ls ms

within_is : (ls ms : List Literal) → within ls ms ≡ true → (l : Literal) → Contains ls l → Contains ms l
within_is [] ms e l i = absurd (none l i)
within_is (x ∷ xs) ms e l i =
    let h = and_parts (has ms x) (within xs ms) e in
    elim (cases x xs l i) [
      | inl same ↦ subst (Contains ms) same (has_there ms x h.0)
      | inr rest ↦ within_is xs ms h.1 l rest
    ]

-- two of the disjunctions, with r and without it, and the clauses of their arguments
abbrev is : Term → Literal
is t = record { atom = t; positive = true }

abbrev with_r : Literal
with_r = is (one_of false false true)

abbrev without_r : Literal
without_r = is (one_of false false false)

abbrev of_with : List Literal
of_with = complement with_r ∷ complement (is p) ∷ complement (is q) ∷ is r ∷ []

abbrev of_without : List Literal
of_without = complement without_r ∷ complement (is p) ∷ complement (is q) ∷ complement (is r) ∷ []

-- that these four are among some clauses
abbrev pub has_four : List (List Literal) → Bool
has_four cs = among cs (with_r ∷ []) && (among cs (without_r ∷ []) && (among cs of_with && among cs of_without))

-- what comes up: with r, with the other disjunction in its place, and without both
abbrev some : List Literal
some = left_of with_r (with_r ∷ []) of_with

abbrev more : List Literal
more = left_of (is r) some of_without

abbrev all : List Literal
all = left_of (complement without_r) more (without_r ∷ [])

within_both : within all (literals_of not_both) ≡ true
unfolding same_term literal_of
within_both = refl

both_within : within (literals_of not_both) all ≡ true
unfolding same_term literal_of
both_within = refl

module _ (Given : List Literal → Type 0) where
  -- one step of a chain
  step : (pivot : Literal) (pivots so_far c : List Literal) → IsExactChain complement Given pivots so_far → Given c → has so_far pivot ≡ true → has c (complement pivot) ≡ true
      → gone (pivot ∷ pivots) (left_of pivot so_far c) ≡ true → IsExactChain complement Given (pivot ∷ pivots) (left_of pivot so_far c)
  step pivot pivots so_far c chain c_in in_one in_other free =
      resolve pivot pivots so_far c (left_of pivot so_far c) chain c_in
      (record { in_one = has_there so_far pivot in_one; in_other = has_there c (complement pivot) in_other; rest = left_is pivot so_far c })
      (are_gone (pivot ∷ pivots) (left_of pivot so_far c) free)

  module _ (with_in : Given (with_r ∷ [])) (without_in : Given (without_r ∷ [])) (of_with_in : Given of_with) (of_without_in : Given of_without) where
    begun : IsExactChain complement Given [] (with_r ∷ [])
    begun = begin (with_r ∷ []) (with_r ∷ []) with_in (λ l. (λ i. i, λ i. i))

    first_step : IsExactChain complement Given (with_r ∷ []) some
    unfolding same_term
    first_step = step with_r [] (with_r ∷ []) of_with begun of_with_in refl refl refl

    second_step : IsExactChain complement Given (is r ∷ with_r ∷ []) more
    unfolding same_term
    second_step = step (is r) (with_r ∷ []) some of_without first_step of_without_in refl refl refl

    third_step : IsExactChain complement Given (complement without_r ∷ is r ∷ with_r ∷ []) all
    unfolding same_term
    third_step = step (complement without_r) (is r ∷ with_r ∷ []) more (without_r ∷ []) second_step without_in refl refl refl

    not_both_by : IsExactResolvent complement Given (literals_of not_both)
    not_both_by =
        let same : HasSame all (literals_of not_both) = λ l. (within_is all (literals_of not_both) within_both l, within_is (literals_of not_both) all both_within l) in
        (complement without_r ∷ is r ∷ with_r ∷ [], same_chain complement Given (complement without_r ∷ is r ∷ with_r ∷ []) all (literals_of not_both) third_step same)

  -- so the clause comes over clauses that have the four
  pub not_both_over : (cs : List (List Literal)) → ((c : List Literal) → Contains cs c → Given c) → has_four cs ≡ true → IsExactResolvent complement Given (literals_of not_both)
  not_both_over cs each e =
      let a = and_parts (among cs (with_r ∷ [])) (among cs (without_r ∷ []) && (among cs of_with && among cs of_without)) e in
      let b = and_parts (among cs (without_r ∷ [])) (among cs of_with && among cs of_without) a.1 in
      let d = and_parts (among cs of_with) (among cs of_without) b.1 in
      let there : (c : List Literal) → among cs c ≡ true → Given c = λ c k. each c (among_is cs c k) in
      not_both_by (there (with_r ∷ []) a.0) (there (without_r ∷ []) b.0) (there of_with d.0) (there of_without d.1)

-- it comes over the base clauses, with those of the idle constant
given_has : has_four given ≡ true
unfolding same_term sort_of second_sort with_subterms with_all_subterms literal_of
given_has = refl

pub not_both_comes : IsExactResolvent complement (Contains given) (literals_of not_both)
not_both_comes = not_both_over (Contains given) given (λ c i. i) given_has

-- and over the clauses from which a search of the eight may learn
inputs_have : has_four (map literals_of (input_clauses (asserting eight))) ≡ true
unfolding same_term sort_of second_sort with_subterms with_all_subterms literal_of
inputs_have = refl

pub not_both_learned : (d : Derivation) → IsExactResolvent complement (IsInput (asserting eight) d) (literals_of not_both)
not_both_learned d = not_both_over (IsInput (asserting eight) d) (map literals_of (input_clauses (asserting eight))) (λ c i. inl i) inputs_have
