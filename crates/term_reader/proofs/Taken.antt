-- Arguments that a head takes.
use Rattle.std.proofs.Common.{◌≡◌, ℕ, suc, ◌+◌, ◌<◌, ◌≤◌, if◌then◌else◌, Bool, true, false, not, ◌&&◌, List, [], ◌∷◌, ◌++◌, length, map, Some, refl, sym, ap, ◌∙◌, subst, arith}
use Rattle.std.proofs.lemmas.Bool.{and_parts}
use Rattle.std.proofs.lemmas.List.{map-append}
use Rattle.std.proofs.lemmas.List.Elements.{All-head, All-tail, All-cons, All-nil, All-append}
use Rattle.spec_text.specs.declared.Fault.{Fault}
use Rattle.spec_text.specs.declared.Fault.TheVariants.{WrongCount, WrongSort}
use Rattle.spec_text.specs.Answers.{Answer, ◌>>=◌, require, refused}
use Rattle.spec_sorts.specs.Terms.{Sort, Truth, Number, Minus, Term, sort_of, same_sort, all_same}
use Rattle.spec_sorts.specs.Lists.{neighbours, all_pairs}
use Rattle.spec_sorts.specs.Theory.{Rule, takes_count, sorts_fit, alike, each_passes, count_of, is_constant}
use Rattle.spec_sorts.proofs.WellSorted.{same_sort_is}
use Rattle.spec_reading.specs.Reading.{by_rule, unless}
use Rattle.term_core.specs.declared.ids.TermId.{TermId}
use Rattle.term_core.specs.declared.nodes.Head.TheVariants as heads
use Rattle.term_core.specs.Tables.{TableView, term_at, IsIn, AreIn, clause_at, ShapeFits, takes}
use Rattle.term_core.specs.declared.theory_heads.TheoryHead.TheVariants as theory_heads
use Rattle.term_core.specs.TheoryHeads.{rule_of}
use Rattle.term_reader.specs.declared.building.Binary.TheVariants as binaries
use Rattle.term_reader.specs.declared.building.Link.{Link}
use Rattle.term_reader.specs.declared.building.Link.TheVariants as links
use Rattle.term_reader.specs.Building.{IsOf, AreOfSort, HasPair, LinkSort, link_term}
use Rattle.term_reader.specs.Chains.{AreLinked, linked_terms, Folds}
use Rattle.term_reader.specs.Heads.{AreAlike, TakesArguments}

-- a test that the first of terms passes
pub passes_on : (test : Term → Bool) (t : TableView) (rest after : List TermId) (id : TermId) → rest ≡ id ∷ after → AreIn t rest → test (term_at t id) ≡ true → AreIn t after × (each_passes test (clause_at t after) ≡ each_passes test (clause_at t rest))
passes_on test t rest after id is h e =
    let there : AreIn t (id ∷ after) = subst (AreIn t) is h in (
      All-tail (λ i. IsIn t i) id after there,
      ap (λ b. b && each_passes test (clause_at t after)) (sym e) ∙ ap (λ ids. each_passes test (clause_at t ids)) (sym is),
    )

-- terms whose sorts are one
pub of_sorts : (t : TableView) (s : Sort) (ids : List TermId) → AreIn t ids → all_same s (map sort_of (clause_at t ids)) ≡ true → AreOfSort t s ids
of_sorts t s [] there e = All-nil (IsOf t s)
of_sorts t s (id ∷ ids) there e =
    let both = and_parts (same_sort s (sort_of (term_at t id))) (all_same s (map sort_of (clause_at t ids))) e in
    All-cons (IsOf t s) id ids (All-head (λ i. IsIn t i) id ids there, sym (same_sort_is s (sort_of (term_at t id)) both.0))
    (of_sorts t s ids (All-tail (λ i. IsIn t i) id ids there) both.1)

-- terms that are alike
pub of_alike : (t : TableView) (link : Link) (ids : List TermId) → ((s : Sort) → LinkSort link s) → AreIn t ids → sorts_fit alike (map sort_of (clause_at t ids)) ≡ true → AreAlike t link ids
of_alike t link [] suits there e = record { sort = Truth; suits = suits Truth; each = All-nil (IsOf t Truth) }
of_alike t link (id ∷ ids) suits there e =
    let s : Sort = sort_of (term_at t id) in
    let first : IsIn t id = All-head (λ i. IsIn t i) id ids there in
    record { sort = s; suits = suits s; each = All-cons (IsOf t s) id ids (first, refl) (of_sorts t s ids (All-tail (λ i. IsIn t i) id ids there) e) }

module _ (t : TableView) (link : Link) (s : Sort) (suits : LinkSort link s) where
  pub linked_neighbours : (ids : List TermId) → AreOfSort t s ids → AreLinked t link (neighbours ids)
  linked_neighbours [] h = All-nil (λ (p : TermId × TermId). HasPair t link p.0 p.1)
  linked_neighbours (a ∷ []) h = All-nil (λ (p : TermId × TermId). HasPair t link p.0 p.1)
  linked_neighbours (a ∷ b ∷ ids) h =
      let rest : AreOfSort t s (b ∷ ids) = All-tail (IsOf t s) a (b ∷ ids) h in
      All-cons (λ (p : TermId × TermId). HasPair t link p.0 p.1) (a, b) (neighbours (b ∷ ids))
      (record { sort = s; suits = suits; one = All-head (IsOf t s) a (b ∷ ids) h; other = All-head (IsOf t s) b ids rest })
      (linked_neighbours (b ∷ ids) rest)

  linked_each : (a : TermId) (ids : List TermId) → IsOf t s a → AreOfSort t s ids → AreLinked t link (map (λ b. (a, b)) ids)
  linked_each a [] first h = All-nil (λ (p : TermId × TermId). HasPair t link p.0 p.1)
  linked_each a (b ∷ ids) first h =
      All-cons (λ (p : TermId × TermId). HasPair t link p.0 p.1) (a, b) (map (λ c. (a, c)) ids)
      (record { sort = s; suits = suits; one = first; other = All-head (IsOf t s) b ids h })
      (linked_each a ids first (All-tail (IsOf t s) b ids h))

  pub linked_pairs : (ids : List TermId) → AreOfSort t s ids → AreLinked t link (all_pairs ids)
  linked_pairs [] h = All-nil (λ (p : TermId × TermId). HasPair t link p.0 p.1)
  linked_pairs (a ∷ ids) h =
      let rest : AreOfSort t s ids = All-tail (IsOf t s) a ids h in
      All-append (λ (p : TermId × TermId). HasPair t link p.0 p.1) (map (λ b. (a, b)) ids) (all_pairs ids)
      (linked_each a ids (All-head (IsOf t s) a ids h) rest) (linked_pairs ids rest)

-- the terms of pairs of numbers are those of pairs of terms
module _ (t : TableView) (link : Link) where
  abbrev linked : Term × Term → Term
  linked p = link_term link p.0 p.1

  pub neighbour_terms : (ids : List TermId) → linked_terms link t (neighbours ids) ≡ map linked (neighbours (clause_at t ids))
  neighbour_terms [] = refl
  neighbour_terms (a ∷ []) = refl
  neighbour_terms (a ∷ b ∷ ids) = ap (λ ts. link_term link (term_at t a) (term_at t b) ∷ ts) (neighbour_terms (b ∷ ids))

  each_term : (a : TermId) (ids : List TermId) → linked_terms link t (map (λ b. (a, b)) ids) ≡ map linked (map (λ u. (term_at t a, u)) (clause_at t ids))
  each_term a [] = refl
  each_term a (b ∷ ids) = ap (λ ts. link_term link (term_at t a) (term_at t b) ∷ ts) (each_term a ids)

  pub pair_terms : (ids : List TermId) → linked_terms link t (all_pairs ids) ≡ map linked (all_pairs (clause_at t ids))
  pair_terms [] = refl
  pair_terms (a ∷ ids) =
      map-append (λ (p : TermId × TermId). link_term link (term_at t p.0) (term_at t p.1)) (map (λ b. (a, b)) ids) (all_pairs ids)
      ∙ (λ i. each_term a ids i ++ pair_terms ids i)
      ∙ sym (map-append linked (map (λ u. (term_at t a, u)) (clause_at t ids)) (all_pairs (clause_at t ids)))

pub some_neighbours : (ids : List TermId) → 1 < length ids → 0 < length (neighbours ids)
some_neighbours [] two = absurd (omega (arith, two))
some_neighbours (a ∷ []) two = absurd (omega (arith, two))
some_neighbours (a ∷ b ∷ ids) two = omega arith

pub some_pairs : (ids : List TermId) → 1 < length ids → 0 < length (all_pairs ids)
some_pairs [] two = absurd (omega (arith, two))
some_pairs (a ∷ []) two = absurd (omega (arith, two))
some_pairs (a ∷ b ∷ ids) two = omega arith

-- one number's negative
pub minus_fits : (t : TableView) (ids : List TermId) → AreOfSort t Number ids → length ids ≡ 1 → ShapeFits t (record { head = heads.Minus; arguments = ids })
minus_fits t [] h one = absurd (omega (arith, one))
minus_fits t (a ∷ b ∷ ids) h one = absurd (omega (arith, one))
minus_fits t (a ∷ []) h one = record { head = tt; arguments = λ k d l. (h k d l).0; sorts = subst (λ s. takes Minus (s ∷ []) ≡ true) (sym (All-head (IsOf t Number) a [] h).1) refl }

-- one term more was looked at
pub counts_on : (t : TableView) (rest after : List TermId) (id : TermId) (count next : ℕ) (constant : Bool) → rest ≡ id ∷ after → AreIn t rest → constant ≡ is_constant (term_at t id) → next ≡ (if not constant then suc count else count)
    → AreIn t after × (next + count_of (λ u. not (is_constant u)) (clause_at t after) ≡ count + count_of (λ u. not (is_constant u)) (clause_at t rest)) × (next + length after ≤ count + length rest)
counts_on t rest after id count next constant is there same e =
    let here : AreIn t (id ∷ after) = subst (AreIn t) is there in
    let long : length rest ≡ suc (length after) = ap length is in
    let test : Term → Bool = λ u. not (is_constant u) in
    let goes : next + count_of test (clause_at t after) ≡ count + count_of test (clause_at t (id ∷ after)) = go constant (count_of test (clause_at t after)) e ∙ ap (λ b. count + (if not b then suc (count_of test (clause_at t after)) else count_of test (clause_at t after))) same in
    (All-tail (λ i. IsIn t i) id after here, goes ∙ ap (λ ids. count + count_of test (clause_at t ids)) (sym is), few constant e (length after) (length rest) long)
  where
    go : (b : Bool) (n : ℕ) → next ≡ (if not b then suc count else count) → next + n ≡ count + (if not b then suc n else n)
    go true n h = omega (arith, h)
    go false n h = omega (arith, h)

    few : (b : Bool) → next ≡ (if not b then suc count else count) → (m n : ℕ) → n ≡ suc m → next + m ≤ count + n
    few true h m n l = omega (arith, h, l)
    few false h m n l = omega (arith, h, l)

-- what each head takes
module _ (t : TableView) (ids : List TermId) where
  pub xor_folds : TakesArguments t theory_heads.Xor ids → Folds t binaries.Xor ids
  unfolding rule_of
  xor_folds h = record { sort = Truth; suits = refl; each = of_sorts t Truth ids h.there h.sorts }

  pub implies_folds : TakesArguments t theory_heads.Implies ids → Folds t binaries.Implies ids
  unfolding rule_of
  implies_folds h = record { sort = Truth; suits = refl; each = of_sorts t Truth ids h.there h.sorts }

  pub divide_folds : TakesArguments t theory_heads.Divide ids → Folds t binaries.Divide ids
  unfolding rule_of
  divide_folds h = record { sort = Number; suits = refl; each = of_sorts t Number ids h.there h.sorts }

  pub minus_numbers : TakesArguments t theory_heads.Minus ids → AreOfSort t Number ids
  unfolding rule_of
  minus_numbers h = of_sorts t Number ids h.there h.sorts

  pub equal_alike : TakesArguments t theory_heads.Equal ids → AreAlike t links.Equal ids
  unfolding rule_of
  equal_alike h = of_alike t links.Equal ids (λ s. tt) h.there h.sorts

  pub distinct_alike : TakesArguments t theory_heads.Distinct ids → AreAlike t links.Unequal ids
  unfolding rule_of
  distinct_alike h = of_alike t links.Unequal ids (λ s. tt) h.there h.sorts

  pub less_alike : TakesArguments t theory_heads.Less ids → AreAlike t links.Less ids
  unfolding rule_of
  less_alike h = record { sort = Number; suits = refl; each = of_sorts t Number ids h.there h.sorts }

  pub at_most_alike : TakesArguments t theory_heads.AtMost ids → AreAlike t links.AtMost ids
  unfolding rule_of
  at_most_alike h = record { sort = Number; suits = refl; each = of_sorts t Number ids h.there h.sorts }

  pub greater_alike : TakesArguments t theory_heads.Greater ids → AreAlike t links.Greater ids
  unfolding rule_of
  greater_alike h = record { sort = Number; suits = refl; each = of_sorts t Number ids h.there h.sorts }

  pub at_least_alike : TakesArguments t theory_heads.AtLeast ids → AreAlike t links.AtLeast ids
  unfolding rule_of
  at_least_alike h = record { sort = Number; suits = refl; each = of_sorts t Number ids h.there h.sorts }

-- a rule step by step
module _ (r : Rule) (at : ℕ) (ts : List Term) where
  abbrev after_sorts : Unit {0} → Answer Term
  after_sorts sorted = unless (r.fault ts) at (r.reads ts)

  abbrev after_count : Unit {0} → Answer Term
  after_count counted = require (sorts_fit r.takes (map sort_of ts)) at WrongSort >>= after_sorts

  pub rule_count : takes_count r (length ts) ≡ false → by_rule r at ts ≡ refused at WrongCount
  unfolding require ◌>>=◌
  rule_count e = ap (λ b. require b at WrongCount >>= after_count) e

  counted_is : takes_count r (length ts) ≡ true → by_rule r at ts ≡ after_count tt
  unfolding require ◌>>=◌
  counted_is e = ap (λ b. require b at WrongCount >>= after_count) e

  pub rule_sorts : takes_count r (length ts) ≡ true → sorts_fit r.takes (map sort_of ts) ≡ false → by_rule r at ts ≡ refused at WrongSort
  unfolding require ◌>>=◌
  rule_sorts e f = counted_is e ∙ ap (λ b. require b at WrongSort >>= after_sorts) f

  sorted_is : takes_count r (length ts) ≡ true → sorts_fit r.takes (map sort_of ts) ≡ true → by_rule r at ts ≡ after_sorts tt
  unfolding require ◌>>=◌
  sorted_is e f = counted_is e ∙ ap (λ b. require b at WrongSort >>= after_sorts) f

  pub rule_fault : (f : Fault) → takes_count r (length ts) ≡ true → sorts_fit r.takes (map sort_of ts) ≡ true → r.fault ts ≡ Some f → by_rule r at ts ≡ refused at f
  rule_fault f e g h = sorted_is e g ∙ ap (λ x. unless x at (r.reads ts)) h
