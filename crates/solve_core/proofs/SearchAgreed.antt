-- What the theories say of shared terms where a search is saturated: where they agree numbers and classes hold together, and where they do not no
-- equality tells.
use Rattle.std.proofs.Common.{◌≡◌, ◌<◌, ◌+◌, ℕ, zero, suc, List, [], ◌∷◌, ◌++◌, length, take, get_or, map, All, Contains, inl, inr, refl, sym, ap, ◌∙◌, subst, arith, length-append}
use Rattle.std.specs.Prelude.{◌↔◌}
use Rattle.std.proofs.lemmas.Bool.{cases_lt}
use Rattle.std.proofs.lemmas.List.{length-map, get_or-map, get_or_default, get_or_push, get_or_append_left, get_or-append-add, get_or-take, take_all, take-append-le, take-map}
use Rattle.std.proofs.lemmas.List.Elements.{All-contains, All-append, All-weaker, Contains-get_or}
use Rattle.spec_text.proofs.Members.{first, later, to_image, from_image}
use Rattle.spec_numbers.specs.Fractions.{Fraction, zero_fraction, IsReduced}
use Rattle.spec_tableaux.specs.Deltas.{number as delta_number}
use Rattle.spec_tableaux.specs.Deltas.{Delta as Value}
use Rattle.spec_sorts.specs.Terms.{Number, Symbol, Equal, Apply, Term, Terms, app, pair, sort_of}
use Rattle.spec_sorts.specs.Subsets.{AreAmong}
use Rattle.spec_sorts.specs.WellSorted.{IsWellSorted}
use Rattle.spec_sorts.specs.Literals.{Literal}
use Rattle.spec_sorts.proofs.LeastSubterms.{least_of}
use Rattle.spec_arithmetic.specs.Numbers.{number_at, IsLinear, IsLinearOver}
use Rattle.spec_simplex.specs.Numbers.{HoldsAt}
use Rattle.spec_equality.specs.Congruence.{IsCongruent, itself, IsFine}
use Rattle.spec_derivations.specs.Problems.{Problem, terms_of_problem, known_terms, subterms_in}
use Rattle.spec_derivations.specs.Orders.{whole_terms}
use Rattle.spec_derivations.proofs.SearchTerms.{subterms_spoken}
use Rattle.spec_derivations.proofs.OrderedTerms.{searched_whole}
use Rattle.spec_causes.specs.Shared.{IsSharedAmong, argument, value}
use Rattle.spec_interfaces.specs.Interfaces.{IsInterfaceEquality, AreInterfaceEqualities}
use Rattle.spec_interfaces.proofs.Apart.{shared_number}
use Rattle.spec_causes.proofs.Wider.{shared_among_more}
use Rattle.spec_valuations.specs.Classes.{class_in, AreShared, IsEqualityAmong}
use Rattle.spec_valuations.specs.Saturation.{TheoryValues, IsSaturatedWithNumbers}
use Rattle.term_core.specs.declared.ids.TermId.{TermId}
use Rattle.term_core.specs.Tables.{TableView, AreDifferent, IsIn, AreIn, term_at, literal_at, clause_at}
use Rattle.clause_literals.specs.Literals.{IsConsistent}
use Rattle.term_clauses.specs.SpokenTerms.{no_id}
use Rattle.proof_log.specs.Theories.{TheoryView, IsTermIn, terms_watched, literals_held}
use Rattle.ratio128.specs.declared.ratio.Ratio.{Ratio}
use Rattle.ratio128.specs.Meant.{fraction}
use Rattle.delta_num.specs.Meant.{delta}
use Rattle.congruence_closure.specs.Closure.{TellClasses}
use Rattle.congruence.specs.Views.{AreEqualBy}
use Rattle.agreement.specs.declared.agreeing.Shared.{Shared}
use Rattle.agreement.specs.Agreeing.{Concur, Clash, Agree, IsDifferingPair}
use Rattle.search_loop.specs.declared.search.Search.{Search}
use Rattle.search_loop.specs.Asking.{HasSaturated}
use Rattle.solve_core.specs.Sharing.{IsAskedOf, IsOpen}
use Rattle.solve_core.specs.Agreeing.{IsTheoryValueAt, AreTheoryValuesBelow, AreTheoryValues}
use Rattle.solve_core.proofs.SearchModelled.{related, given, saturated_apart}

-- each shared term is a subterm
pub shared_subterm : (p : Problem) (u : Term) → IsSharedAmong (subterms_in p) u → Contains (subterms_in p) u
shared_subterm p _ (argument s us there u i real) = (least_of (terms_of_problem p)).closed (app (Apply s) us) there u i
shared_subterm p _ (value s us there some real) = there

-- interface equalities are equalities of subterms
equality_among : (p : Problem) (e : Term) → IsInterfaceEquality (subterms_in p) e → IsEqualityAmong (subterms_in p) e
equality_among p e (inl h) = record {
  left = h.left;
  left_in = shared_subterm p h.left h.left_shared;
  right = h.right;
  right_in = shared_subterm p h.right h.right_shared;
  is = h.is;
}
equality_among p e (inr h) = record { left = h.left; left_in = h.left_in; right = h.right; right_in = h.right_in; is = h.is }

pub equalities_among : (p : Problem) → AreInterfaceEqualities p → (e : Term) → Contains p.interface e → IsEqualityAmong (subterms_in p) e
equalities_among p each e i = equality_among p e (All-contains (IsInterfaceEquality (subterms_in p)) p.interface e each i)

-- numbers differ where their values do
same_base : (p q : Fraction) → delta_number p ≡ delta_number q → p ≡ q
same_base p q e = ap (λ (d : Value). d.base) e

-- the element at a place
element_at : (xs : List Shared) (k : ℕ) → k < length xs → (x : Shared) × Contains xs x × ((d : Shared) → get_or xs k d ≡ x)
element_at [] k lt = absurd (omega (arith, lt))
element_at (x ∷ xs) zero lt = (x, first x xs, λ d. refl)
element_at (x ∷ xs) (suc k) lt = let e = element_at xs k (omega (arith, lt)) in (e.0, later x xs e.0 e.1, e.2)

-- what is stated of no terms, and of one more
pub assigned_none : (ids : List TermId) (classes : List ℕ) (numbers : List Fraction) (from : ℕ) → AreTheoryValuesBelow ids classes numbers from 0 []
assigned_none ids classes numbers from = record { count = refl; each = λ k d lt. absurd (omega (arith, lt)) }

pub assigned_more : (ids : List TermId) (classes : List ℕ) (numbers : List Fraction) (from n : ℕ) (xs new : List Shared) (x : Shared) → IsTheoryValueAt ids classes numbers from n x → new ≡ xs ++ x ∷ []
    → AreTheoryValuesBelow ids classes numbers from n xs → AreTheoryValuesBelow ids classes numbers from (n + 1) new
assigned_more ids classes numbers from n xs new x here is h = subst (AreTheoryValuesBelow ids classes numbers from (n + 1)) (sym is) (record {
  count = omega (arith, length-append xs (x ∷ []), h.count);
  each = λ k d lt. elim (cases_lt k n) [
    | inl early ↦ subst (IsTheoryValueAt ids classes numbers from k) (sym (get_or_append_left xs (x ∷ []) d k (omega (arith, early, h.count)))) (h.each k d early)
    | inr late ↦
        let last : k ≡ n = omega (arith, lt, late) in
        subst (λ (m : ℕ). IsTheoryValueAt ids classes numbers from m (get_or (xs ++ x ∷ []) k d)) (sym last)
        (subst (IsTheoryValueAt ids classes numbers from n) (sym (get_or_push xs x d k (omega (arith, last, h.count)))) here)
  ];
})

pub assigned_at_index : (ids : List TermId) (classes : List ℕ) (numbers : List Ratio) (from k : ℕ) (x : Shared) (id : TermId) (c : ℕ) (q : Ratio) → k < length ids → from + k < length classes → from + k < length numbers
    → x.term ≡ get_or ids k id → c ≡ get_or classes (from + k) c → q ≡ get_or numbers (from + k) q → x.class ≡ c → delta x.value ≡ delta_number (fraction q) → IsTheoryValueAt ids classes (map fraction numbers) from k x
assigned_at_index ids classes numbers from k x id c q k_lt c_lt q_lt term c_is q_is class told = record {
  term = term ∙ get_or_default ids k id no_id k_lt;
  class = class ∙ c_is ∙ get_or_default classes (from + k) c 0 c_lt;
  value = told ∙ ap (λ (r : Ratio). delta_number (fraction r)) q_is ∙ ap delta_number (sym (get_or-map fraction numbers (from + k) q zero_fraction q_lt));
}

-- places after the prefix of a list
module _ (own ids : List TermId) (k : ℕ) (lt : k < length ids) where
  pub place_behind : get_or (own ++ ids) (length own + k) no_id ≡ get_or ids k no_id
  place_behind = get_or-append-add own ids k no_id

  pub behind_lt : length own + k < length (own ++ ids)
  behind_lt = omega (arith, lt, length-append own ids)

-- what is stated of the places of a list of terms, and of those that are shared after it
module _ (t : TableView) (v : TheoryView) (own ids : List TermId) (classes : List ℕ) (tell : TellClasses (AreEqualBy t v) (own ++ ids) classes)
    (number : Term → Fraction) (xs : List Fraction) (are : xs ≡ map number (clause_at t (own ++ ids))) where
  -- the prefix
  pub front_tell : TellClasses (AreEqualBy t v) own (take (length own) classes)
  front_tell i j li lj =
      let all = length-append own ids in
      let both = tell i j (omega (arith, li, all)) (omega (arith, lj, all)) in
      subst (λ (a : ℕ). (a ≡ get_or (take (length own) classes) j 0) ↔ AreEqualBy t v (get_or own i no_id) (get_or own j no_id)) (sym (get_or-take (length own) classes i 0 li))
      (subst (λ (b : ℕ). (get_or classes i 0 ≡ b) ↔ AreEqualBy t v (get_or own i no_id) (get_or own j no_id)) (sym (get_or-take (length own) classes j 0 lj))
      (subst (λ (a : TermId). (get_or classes i 0 ≡ get_or classes j 0) ↔ AreEqualBy t v a (get_or own j no_id)) (get_or_append_left own ids no_id i li)
      (subst (λ (b : TermId). (get_or classes i 0 ≡ get_or classes j 0) ↔ AreEqualBy t v (get_or (own ++ ids) i no_id) b) (get_or_append_left own ids no_id j lj) both)))

  pub front_are : take (length own) xs ≡ map number (clause_at t own)
  front_are =
      let n = length own in
      let all = own ++ ids in
      let front : take n all ≡ own = take-append-le n own ids (omega arith) ∙ take_all n own (omega arith) in
      ap (take n) are ∙ take-map number n (clause_at t all) ∙ ap (map number) (take-map (term_at t) n all) ∙ ap (λ (is : List TermId). map number (clause_at t is)) front

  -- the shared ones
  pub behind_tell : (i j : ℕ) → i < length ids → j < length ids → (get_or classes (length own + i) 0 ≡ get_or classes (length own + j) 0) ↔ AreEqualBy t v (get_or ids i no_id) (get_or ids j no_id)
  behind_tell i j li lj =
      subst (λ (a : TermId). (get_or classes (length own + i) 0 ≡ get_or classes (length own + j) 0) ↔ AreEqualBy t v a (get_or ids j no_id)) (place_behind own ids i li)
      (subst (λ (b : TermId). (get_or classes (length own + i) 0 ≡ get_or classes (length own + j) 0) ↔ AreEqualBy t v (get_or (own ++ ids) (length own + i) no_id) b) (place_behind own ids j lj)
      (tell (length own + i) (length own + j) (behind_lt own ids i li) (behind_lt own ids j lj)))

  pub behind_are : (k : ℕ) → k < length ids → get_or xs (length own + k) zero_fraction ≡ number (term_at t (get_or ids k no_id))
  behind_are k lt =
      let all = own ++ ids in
      let n = length own + k in
      let inside : n < length all = behind_lt own ids k lt in
      ap (λ (qs : List Fraction). get_or qs n zero_fraction) are
      ∙ get_or-map number (clause_at t all) n (term_at t no_id) zero_fraction (rw length-map inside)
      ∙ ap number (get_or-map (term_at t) all n no_id (term_at t no_id) inside) ∙ ap (λ (id : TermId). number (term_at t id)) (place_behind own ids k lt)

  -- both say the same of two shared terms, if they do of what is stated
  abbrev pub GoTogether : Term → Term → Type 0
  GoTogether a b = (number a ≡ number b) ↔ IsCongruent (terms_watched t v) (literals_held t v) a b

  abbrev pub shared_at : ℕ → Term
  shared_at k = term_at t (get_or ids k no_id)

  module _ (i j : ℕ) (li : i < length ids) (lj : j < length ids) (x y : Shared) (at_i : IsTheoryValueAt ids classes xs (length own) i x) (at_j : IsTheoryValueAt ids classes xs (length own) j y) where
    values_are : (delta x.value ≡ delta y.value) ↔ (number (shared_at i) ≡ number (shared_at j))
    values_are =
        let one = at_i.value ∙ ap delta_number (behind_are i li) in
        let other = at_j.value ∙ ap delta_number (behind_are j lj) in
        (λ e. same_base (number (shared_at i)) (number (shared_at j)) (sym one ∙ e ∙ other), λ e. one ∙ ap delta_number e ∙ sym other)

    classes_are : (x.class ≡ y.class) ↔ IsCongruent (terms_watched t v) (literals_held t v) (shared_at i) (shared_at j)
    classes_are =
        let both = behind_tell i j li lj in
        (λ e. both.0 (sym at_i.class ∙ e ∙ at_j.class), λ q. at_i.class ∙ both.1 q ∙ sym at_j.class)

    pub concur_together : Concur x y → GoTogether (shared_at i) (shared_at j)
    concur_together h = (λ e. classes_are.0 (h.1 (values_are.1 e)), λ q. values_are.0 (h.0 (classes_are.1 q)))

    pub clash_apart : Clash x y → GoTogether (shared_at i) (shared_at j) → ⊥
    clash_apart (inl c) h = c.1 (values_are.1 (h.1 (classes_are.0 c.0)))
    clash_apart (inr c) h = c.0 (classes_are.1 (h.0 (values_are.0 c.1)))

  -- what is stated of them all
  module _ (assigned_values : List Shared) (are_assigned : AreTheoryValues ids classes xs (length own) assigned_values) where
    place_of : (u : Term) → Contains (clause_at t ids) u → (k : ℕ) × (k < length ids) × (shared_at k ≡ u)
    place_of u i =
        let n = from_image (term_at t) ids u i in
        (n.1.0, n.1.1, ap (term_at t) (get_or_default ids n.1.0 no_id n.0 n.1.1 ∙ n.1.2) ∙ n.2)

    assigned_at : (k : ℕ) → k < length ids → (x : Shared) × Contains assigned_values x × IsTheoryValueAt ids classes xs (length own) k x
    assigned_at k lt =
        let e = element_at assigned_values k (omega (arith, lt, are_assigned.count)) in
        (e.0, e.1, subst (IsTheoryValueAt ids classes xs (length own) k) (e.2 e.0) (are_assigned.each k e.0 lt))

    pub all_together : Agree assigned_values → (u w : Term) → Contains (clause_at t ids) u → Contains (clause_at t ids) w → GoTogether u w
    all_together h u w i j =
        let k = place_of u i in
        let m = place_of w j in
        let x = assigned_at k.0 k.1 in
        let y = assigned_at m.0 m.1 in
        subst (λ a. GoTogether a w) k.2 (subst (λ b. GoTogether (shared_at k.0) b) m.2 (concur_together k.0 m.0 k.1 m.1 x.0 y.0 x.2 y.2 (h x.0 y.0 x.1 y.1)))

    -- of two terms on which the theories do not agree: they are shared, and this is not stated alike
    pub pair_apart : (a b : TermId) → IsDifferingPair assigned_values a b → Contains ids a × (Contains ids b × (GoTogether (term_at t a) (term_at t b) → ⊥))
    pair_apart a b h =
        let k = h.one_in.0 in
        let m = h.other_in.0 in
        let lk : k < length ids = omega (arith, h.one_in.1, are_assigned.count) in
        let lm : m < length ids = omega (arith, h.other_in.1, are_assigned.count) in
        let x = subst (IsTheoryValueAt ids classes xs (length own) k) h.one_in.2 (are_assigned.each k h.one lk) in
        let y = subst (IsTheoryValueAt ids classes xs (length own) m) h.other_in.2 (are_assigned.each m h.other lm) in
        let one : get_or ids k no_id ≡ a = sym (h.one_is ∙ x.term) in
        let other : get_or ids m no_id ≡ b = sym (h.other_is ∙ y.term) in (
          subst (Contains ids) one (Contains-get_or ids k no_id lk),
          (
            subst (Contains ids) other (Contains-get_or ids m no_id lm),
            λ together. clash_apart k m lk lm h.one h.other x y h.clash
                (subst (λ (n : TermId). GoTogether (term_at t n) (shared_at m)) (sym one) (subst (λ (n : TermId). GoTogether (term_at t a) (term_at t n)) (sym other) together)),
          ),
        )

module _ (t : TableView) (differ : AreDifferent t.terms) (x : Search) (v : TheoryView) (agreed : Type 0) (h : HasSaturated t x v agreed) (ids : List TermId) (p : Problem) (a : IsAskedOf t ids p x) where
  abbrev own : List TermId
  own = x.terms.items

  abbrev terms : List Term
  terms = clause_at t x.terms.items

  -- the shared terms are among those that the search speaks of
  subterms_listed : AreAmong (subterms_in p) terms
  subterms_listed u i = a.asked.listed.each u (searched_whole p u (subterms_spoken p u i))

  pub shared_listed : (u : Term) → Contains (clause_at t ids) u → Contains terms u
  shared_listed u i = subterms_listed u (shared_subterm p u (a.shared.only u i))

  -- which the theory watches
  pub shared_watched : (w : TheoryView) → v ≡ w → (u : Term) → Contains (clause_at t ids) u → IsSharedAmong (terms_watched t w) u
  shared_watched w same u i =
      shared_among_more (subterms_in p) (terms_watched t w) (λ z j. subst (λ (is : List TermId). Contains (clause_at t is) z) (sym h.asked.terms ∙ ap (λ (y : TheoryView). y.watched) same) (subterms_listed z j)) u (a.shared.only u i)

  -- and linear numbers
  pub shared_linear : ((q : Problem) → All IsLinear (known_terms q) → (u : Term) → Contains (whole_terms q) u → IsLinear u) → (u : Term) → Contains (clause_at t ids) u → IsLinearOver t.symbols u
  shared_linear linear u i =
      let n = from_image (term_at t) own u (shared_listed u i) in
      let here = All-contains (IsTermIn t) own n.0 h.ready.atoms_are.there n.1 in
      record {
        term = subst (λ w. IsWellSorted t.symbols [] w) n.2 here.1;
        sort = shared_number (subterms_in p) u (a.shared.only u i);
        linear = linear p a.asked.answered u (a.asked.listed.only u (shared_listed u i));
      }

  -- all terms that are asked about are of the table
  pub all_there : AreIn t (own ++ ids)
  all_there = All-append (IsIn t) own ids (All-weaker (IsTermIn t) (IsIn t) (λ id k. k.0) own h.ready.atoms_are.there) a.shared.there

  -- and no more terms are shared
  pub all_shared : ((q : Problem) → ((e : Term) → Contains q.interface e → IsEqualityAmong (subterms_in q) e) → (f : Symbol) (us : Terms) → Contains (whole_terms q) (app (Apply f) us) → Contains (subterms_in q) (app (Apply f) us))
      → AreShared terms (clause_at t ids)
  all_shared nothing_more =
      let applied = nothing_more p (equalities_among p a.apart.equalities) in
      record {
        values = λ s ts i some real. a.shared.each (app (Apply s) ts) (value s ts (applied s ts (a.asked.listed.only (app (Apply s) ts) i)) some real);
        arguments = λ s ts u i j real. a.shared.each u (argument s ts (applied s ts (a.asked.listed.only (app (Apply s) ts) i)) u j real);
      }

  module _ (consistent : IsConsistent x.trail.literals) (fine : IsFine (terms_watched t v) (literals_held t v)) (classes : List ℕ) (tell : TellClasses (AreEqualBy t v) own classes)
      (place : (ts : List Term) (ns : List ℕ) (u : Term) → Contains ts u → (k : ℕ) × (k < length ts) × (get_or ts k u ≡ u) × (class_in ts ns u ≡ get_or ns k 0))
      (linear_in : (q : Problem) → All IsLinear (known_terms q) → (u : Term) → Contains (whole_terms q) u → IsLinear u)
      (number : Term → Fraction) (reduced : (u : Term) → IsReduced (number u)) (hold : All (HoldsAt number) (literals_held t v)) (heads : (u : Term) → Contains (clause_at t ids) u → number u ≡ number_at number u) where
    kept : All (HoldsAt number) (map (literal_at t) x.trail.literals)
    kept = subst (All (HoldsAt number)) (ap (map (literal_at t)) h.held) hold

    abbrev Congruent : Term → Term → Type 0
    Congruent = IsCongruent (terms_watched t v) (literals_held t v)

    -- by the classes of the terms
    by_classes : (u w : Term) → Contains terms u → Contains terms w → (class_in terms classes u ≡ class_in terms classes w) ↔ Congruent u w
    by_classes u w i j =
        let both = related t differ x v agreed h consistent fine classes tell p [] a.asked place linear_in number reduced kept u w i j in
        let terms_are : terms_watched t v ≡ terms = ap (clause_at t) h.asked.terms in
        let held_are : literals_held t v ≡ map (literal_at t) x.trail.literals = ap (map (literal_at t)) h.held in
        subst (λ (ts : List Term). (class_in terms classes u ≡ class_in terms classes w) ↔ IsCongruent ts (literals_held t v) u w) (sym terms_are)
        (subst (λ ls. (class_in terms classes u ≡ class_in terms classes w) ↔ IsCongruent terms ls u w) (sym held_are) both)

    -- numbers and classes go together where numbers and congruence do
    pub classes_together : ((u w : Term) → Contains (clause_at t ids) u → Contains (clause_at t ids) w → (number u ≡ number w) ↔ Congruent u w) → (u w : Term) → Contains (clause_at t ids) u → Contains (clause_at t ids) w
        → (number u ≡ number w) ↔ (class_in terms classes u ≡ class_in terms classes w)
    classes_together each u w i j =
        let one = each u w i j in
        let other = by_classes u w (shared_listed u i) (shared_listed w j) in
        (λ e. other.1 (one.0 e), λ e. one.1 (other.0 e))

    -- they go together on the sides of an equality that the search speaks of
    pub spoken_together : ((symbols : List Symbol) (q : Problem) (ts : List Term) (ls : List Literal) (b : TheoryValues) → IsSaturatedWithNumbers symbols q ts ls b → (s u : Term) → Contains ts (pair Equal s u) → sort_of s ≡ Number
        → (b.class s ≡ b.class u) ↔ (number_at b.number s ≡ number_at b.number u))
        → (u w : Term) → Contains (clause_at t ids) u → Contains (clause_at t ids) w → Contains (whole_terms p) (pair Equal u w) → (number u ≡ number w) ↔ Congruent u w
    spoken_together law u w i j spoken =
        let saturated_here = saturated_apart t differ x v agreed h consistent fine classes tell p [] a.asked place linear_in number reduced kept in
        let both = law t.symbols p terms (map (literal_at t) x.trail.literals) (given t differ x v agreed h consistent fine classes tell p [] a.asked place linear_in number reduced kept) saturated_here u w
        (a.asked.listed.each (pair Equal u w) spoken) (shared_number (subterms_in p) u (a.shared.only u i)) in
        let other = by_classes u w (shared_listed u i) (shared_listed w j) in (
          λ e. other.0 (both.1 (sym (heads u i) ∙ e ∙ heads w j)),
          λ q. heads u i ∙ both.0 (other.1 q) ∙ sym (heads w j),
        )

    -- so a pair on which they do not is of different terms of whose equality it does not speak
    pub pair_open : ((symbols : List Symbol) (q : Problem) (ts : List Term) (ls : List Literal) (b : TheoryValues) → IsSaturatedWithNumbers symbols q ts ls b → (s u : Term) → Contains ts (pair Equal s u) → sort_of s ≡ Number
        → (b.class s ≡ b.class u) ↔ (number_at b.number s ≡ number_at b.number u))
        → (y : TermId × TermId) → Contains ids y.0 → Contains ids y.1 → (((number (term_at t y.0) ≡ number (term_at t y.1)) ↔ Congruent (term_at t y.0) (term_at t y.1)) → ⊥) → IsOpen t ids p y
    pair_open law y one other apart =
        let u = term_at t y.0 in
        let w = term_at t y.1 in
        let u_in = to_image (term_at t) ids y.0 one in
        let w_in = to_image (term_at t) ids y.1 other in
        record {
          one = one;
          other = other;
          different = λ e. apart (λ f. subst (Congruent u) e (itself u), λ q. ap number e);
          unspoken = λ spoken. apart (spoken_together law u w u_in w_in spoken);
        }
