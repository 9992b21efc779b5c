-- The numbers of a node name its arguments.
use Rattle.std.proofs.Common.{◌≡◌, ℕ, zero, suc, ◌<◌, List, [], ◌∷◌, length, get_or, All, Contains, sym, ap, ◌∙◌, subst, arith}
use Rattle.std.proofs.lemmas.List.{length-map, get_or-map, get_or_default}
use Rattle.std.proofs.lemmas.List.Elements.{Contains-get_or}
use Rattle.spec_text.proofs.Members.{from_image}
use Rattle.spec_sorts.specs.Terms.{Head, Term, of, terms_of}
use Rattle.spec_sorts.specs.WellSorted.{AllHeads, AllHeadsIn}
use Rattle.spec_sorts.specs.Subsets.{arguments_of}
use Rattle.spec_sorts.proofs.General.{list_of-terms_of}
use Rattle.term_core.specs.declared.ids.TermId.{TermId}
use Rattle.term_core.specs.Tables.{TableView, term_at, clause_at}
use Rattle.term_walks.specs.Filling.{FillsAll, Fills}
use Rattle.term_walks.specs.Orders.{numbers_of, number_term, In, NamesArguments}
use Rattle.term_walks.proofs.Among.{in_place, at_in, in_all}

abbrev pub no_number : TermId
no_number = record { 0 = 0 }

pub numbers_length : (ids : List TermId) → length (numbers_of ids) ≡ length ids
numbers_length ids = length-map ids (λ (id : TermId). id.0)

number_at : (ids : List TermId) (k : ℕ) → k < length ids → get_or (numbers_of ids) k 0 ≡ (get_or ids k no_number).0
number_at ids k lt = get_or-map (λ (id : TermId). id.0) ids k no_number 0 lt

-- the number of one of these is among theirs
pub in_numbers : (ids : List TermId) (id : TermId) → Contains ids id → In id.0 (numbers_of ids)
in_numbers ids id c =
    let lt : c.0 < length (numbers_of ids) = omega (arith, c.1, numbers_length ids) in
    let is : get_or (numbers_of ids) c.0 0 ≡ id.0 = number_at ids c.0 c.1 ∙ ap (λ (x : TermId). x.0) (get_or_default ids c.0 no_number id c.1 ∙ c.2) in
    subst (λ n. In n (numbers_of ids)) is (at_in (numbers_of ids) c.0 lt)

-- and each of theirs is the number of one
pub of_number : (ids : List TermId) (q : ℕ) → In q (numbers_of ids) → (id : TermId) × Contains ids id × (id.0 ≡ q)
of_number ids q i =
    let p = in_place q (numbers_of ids) i in
    let lt : p.0 < length ids = omega (arith, p.1, numbers_length ids) in
    (get_or ids p.0 no_number, Contains-get_or ids p.0 no_number lt, sym (number_at ids p.0 lt) ∙ p.2)

-- the arguments of what is written
pub arguments_are : (t : TableView) (k : ℕ) (h : Head) (ts : List Term) → number_term t k ≡ of h ts → arguments_of (number_term t k) ≡ ts
arguments_are t k h ts e = ap arguments_of e ∙ list_of-terms_of ts

-- what holds of each head of a term holds of each of its arguments'
all_heads : (P : Head → Type 0) (us : List Term) (k : ℕ) (d : Term) → k < length us → AllHeadsIn P (terms_of us) → AllHeads P (get_or us k d)
unfolding AllHeads AllHeadsIn
all_heads P [] k d lt h = absurd (omega (arith, lt))
all_heads P (u ∷ us) zero d lt h = h.0
all_heads P (u ∷ us) (suc k) d lt h = all_heads P us k d (omega (arith, lt)) h.1

pub heads_in : (P : Head → Type 0) (h : Head) (us : List Term) → AllHeads P (of h us) → AllHeadsIn P (terms_of us)
unfolding AllHeads AllHeadsIn
heads_in P h us a = a.1

pub named : (t : TableView) (k : ℕ) (h : Head) (ids : List TermId) → number_term t k ≡ of h (clause_at t ids) → All (λ (id : TermId). id.0 < k) ids → NamesArguments t k (numbers_of ids)
named t k h ids e low = record {
  before = in_all (λ a. a < k) (numbers_of ids) (λ q i. let p = of_number ids q i in subst (λ n. n < k) p.2 (below p.0 p.1));
  covers = λ u c.
      let p = from_image (term_at t) ids u (subst (λ l. Contains l u) (arguments_are t k h (clause_at t ids) e) c) in
      (p.0.0, in_numbers ids p.0 p.1, p.2);
  filled = λ ts f a i.
      let p = of_number ids a i in
      subst (λ n. FillsAll ts (number_term t n)) p.2 (fills ts f p.0 p.1);
}
  where
    below : (id : TermId) → Contains ids id → id.0 < k
    below id c = subst (λ (x : TermId). x.0 < k) (get_or_default ids c.0 no_number id c.1 ∙ c.2) (low c.0 no_number c.1)

    fills : (ts : List Term) → FillsAll ts (number_term t k) → (id : TermId) → Contains ids id → FillsAll ts (term_at t id)
    fills ts f id c =
        let long = length-map ids (term_at t) in
        let is : get_or (clause_at t ids) c.0 (term_at t no_number) ≡ term_at t id = get_or-map (term_at t) ids c.0 no_number (term_at t no_number) c.1 ∙ ap (term_at t) (get_or_default ids c.0 no_number id c.1 ∙ c.2) in
        subst (FillsAll ts) is (all_heads (Fills ts) (clause_at t ids) c.0 (term_at t no_number) (omega (arith, c.1, long)) (heads_in (Fills ts) h (clause_at t ids) (subst (FillsAll ts) e f)))
