-- What a search pays for runs of exchanges, as literals come to be held, clauses are learned, and a table grows.
use Rattle.std.proofs.Common.{◌≡◌, ◌≢◌, ◌+◌, ◌-◌, ◌<◌, ◌≤◌, ℕ, suc, Bool, true, false, cond, filter, List, [], ◌∷◌, ◌++◌, length, map, get_or, take, drop, All, AllPairs, Contains, refl, sym, ap, ◌∙◌, subst, arith}
use Rattle.std.specs.Prelude.{Vec}
use Rattle.std.specs.declared.alloc.Global.{Global}
use Rattle.std.proofs.lemmas.List.{length-append, length-map, length-take-le, get_or-map, get_or-take, map-append, take-append-drop}
use Rattle.std.proofs.lemmas.List.Elements.{All-weaker, All-take, All-contains, Contains-get_or, All-contains_itself, All-filter, filter-append, filter_passes}
use Rattle.std.proofs.lemmas.List.Kept.{AllPairs-filter}
use Rattle.std.proofs.lemmas.Map.Made.{is_member-Decides, length-le_from_is_member, IsDistinct-from_AllPairs}
use Rattle.spec_text.proofs.Members.{first, later, to_image, from_image, in_filter}
use Rattle.spec_sorts.specs.Terms.{Term}
use Rattle.spec_sorts.specs.Subsets.{AreAmong, AreOnce}
use Rattle.spec_sorts.proofs.SameTerms.{terms_decide, terms_equivalence}
use Rattle.spec_causes.specs.Counts.{is_arithmetic, arithmetic_in, counted, most_runs}
use Rattle.term_core.specs.declared.ids.TermId.{TermId}
use Rattle.term_core.specs.declared.ids.Lit.{Lit}
use Rattle.term_core.specs.Tables.{TableView, AreDifferent, Extends, IsIn, term_at, clause_at}
use Rattle.term_core.proofs.TermsExtend.{term_at-kept, clause_at-kept}
use Rattle.term_clauses.specs.SpokenTerms.{no_id}
use Rattle.sat_trail.specs.Trails.{no_lit, VariablesAreApart}
use Rattle.proof_log.specs.Theories.{TheoryView, IsTermIn}
use Rattle.search_loop.specs.declared.search.Search.{Search}
use Rattle.search_loop.specs.Search.{SearchFits}
use Rattle.search_loop.specs.Asking.{IsAsked}
use Rattle.search_loop.specs.declared.cdcl.End.{End}
use Rattle.search_loop.specs.declared.cdcl.End.TheVariants.{Saturated, Refuted, Stopped}
use Rattle.search_loop.specs.Paying.{counted_among, counted_held, atoms_of, paid, paid_by, paid_at}
use Rattle.search_loop.proofs.SearchReady.{all_of_atoms}

-- what passes a test

pub from_filter : {A : Type 0} (p : A → Bool) (xs : List A) (x : A) → Contains (filter p xs) x → Contains xs x
from_filter p xs x c = All-contains (Contains xs) (filter p xs) x (All-filter p (Contains xs) xs (All-contains_itself xs)) c

-- counts

more_by : (b : Bool) (u : Term) (n : ℕ) → n + length (cond b (u ∷ []) []) ≡ cond b (suc n) n
more_by true u n = omega arith
more_by false u n = omega arith

-- a term more
one_more : (ts : List Term) (u : Term) → length (arithmetic_in (ts ++ u ∷ [])) ≡ counted u (length (arithmetic_in ts))
one_more ts u =
    ap length (filter-append is_arithmetic ts (u ∷ [])) ∙ length-append (arithmetic_in ts) (arithmetic_in (u ∷ []))
    ∙ more_by (is_arithmetic u) u (length (arithmetic_in ts))

pub among_more : (t : TableView) (ids : List TermId) (id : TermId) → counted_among t (ids ++ id ∷ []) ≡ counted (term_at t id) (counted_among t ids)
among_more t ids id =
    ap (λ ts. length (arithmetic_in ts)) (map-append (term_at t) ids (id ∷ [])) ∙ one_more (clause_at t ids) (term_at t id)

pub held_more : (t : TableView) (ls : List Lit) (l : Lit) → counted_held t (ls ++ l ∷ []) ≡ counted (term_at t l.term) (counted_held t ls)
held_more t ls l =
    ap (λ ts. length (arithmetic_in ts)) (map-append (λ (m : Lit). term_at t m.term) ls (l ∷ [])) ∙ one_more (map (λ (m : Lit). term_at t m.term) ls) (term_at t l.term)

moved_by : (b : Bool) (m k : ℕ) → cond b (suc m) m + k ≡ cond b (suc (m + k)) (m + k)
moved_by true m k = omega arith
moved_by false m k = refl

behind_by : (b : Bool) (n k : ℕ) → cond b (suc (n + k)) (n + k) ≡ n + cond b (suc k) k
behind_by true n k = omega arith
behind_by false n k = refl

-- one more than a sum
pub sum_more : (u : Term) (n k : ℕ) → counted u (n + k) ≡ n + counted u k
sum_more u n k = behind_by (is_arithmetic u) n k

-- where one more is paid, one more is counted
pub both_more : (u : Term) (m n before after : ℕ) → m + before ≡ n + after → counted u m + before ≡ n + counted u after
both_more u m n before after e = moved_by (is_arithmetic u) m before ∙ ap (counted u) e ∙ behind_by (is_arithmetic u) n after

-- no more among the first of them
pub among_first : (t : TableView) (k : ℕ) (ids : List TermId) → counted_among t (take k ids) ≤ counted_among t ids
among_first t k ids =
    let both = ap (λ ts. length (arithmetic_in ts)) (sym (map-append (term_at t) (take k ids) (drop k ids)) ∙ ap (clause_at t) (take-append-drop k ids)) in
    let sum = ap length (filter-append is_arithmetic (clause_at t (take k ids)) (clause_at t (drop k ids)))
    ∙ length-append (arithmetic_in (clause_at t (take k ids))) (arithmetic_in (clause_at t (drop k ids))) in
    omega (arith, both, sum)

-- over a table that has more
module _ (t u : TableView) (more : Extends t u) where
  pub among_kept : (ids : List TermId) → All (IsIn t) ids → counted_among u ids ≡ counted_among t ids
  among_kept ids there = ap (λ ts. length (arithmetic_in ts)) (clause_at-kept t u more ids there)

  pub held_kept : (ls : List Lit) → ((l : Lit) → Contains ls l → IsIn t l.term) → counted_held u ls ≡ counted_held t ls
  held_kept ls there = ap (λ ts. length (arithmetic_in ts)) (same ls there)
    where
      same : (ls : List Lit) → ((l : Lit) → Contains ls l → IsIn t l.term) → map (λ (l : Lit). term_at u l.term) ls ≡ map (λ (l : Lit). term_at t l.term) ls
      same [] there = refl
      same (l ∷ ls) there =
          let head = term_at-kept t u more l.term (there l (first l ls)) in
          let tail = same ls (λ m c. there m (later l ls m c)) in
          λ i. head i ∷ tail i

-- different terms of a list are no more than its length
fewer : (us vs : List Term) → AreOnce us → AreAmong us vs → length us ≤ length vs
fewer us vs once among =
    length-le_from_is_member terms_equivalence us vs (IsDistinct-from_AllPairs terms_decide us once)
    (λ t m. (is_member-Decides terms_decide vs t).1 (among t ((is_member-Decides terms_decide us t).0 m)))

module _ (t : TableView) (differ : AreDifferent t.terms) where
  -- the atoms of literals of different variables are different
  atoms_once : (ls : List Lit) → VariablesAreApart ls → ((l : Lit) → Contains ls l → IsIn t l.term) → AreOnce (map (λ (l : Lit). term_at t l.term) ls)
  atoms_once ls apart there i j d before within e =
      let at : Lit → Term = λ (l : Lit). term_at t l.term in
      let jl : j < length ls = omega (arith, within, length-map ls at) in
      let il : i < length ls = omega (arith, before, jl) in
      let l = get_or ls i no_lit in
      let m = get_or ls j no_lit in
      let same : term_at t l.term ≡ term_at t m.term = sym (get_or-map at ls i no_lit d il) ∙ e ∙ get_or-map at ls j no_lit d jl in
      let number = differ l.term.0 m.term.0 (there l (Contains-get_or ls i no_lit il)) (there m (Contains-get_or ls j no_lit jl)) same in
      apart i j no_lit before jl (λ k. record { 0 = number k })

  -- so are terms of different numbers
  pub terms_once : (ids : List TermId) → AllPairs (λ (i j : TermId). i ≢ j) ids → All (IsIn t) ids → AreOnce (clause_at t ids)
  terms_once ids once there i j d before within e =
      let jl : j < length ids = omega (arith, within, length-map ids (term_at t)) in
      let il : i < length ids = omega (arith, before, jl) in
      let same : term_at t (get_or ids i no_id) ≡ term_at t (get_or ids j no_id) =
      sym (get_or-map (term_at t) ids i no_id d il) ∙ e ∙ get_or-map (term_at t) ids j no_id d jl in
      let number = differ (get_or ids i no_id).0 (get_or ids j no_id).0 (there i no_id il) (there j no_id jl) same in
      once i j no_id before jl (λ k. record { 0 = number k })

  -- no more atoms are held than there are
  pub held_few : (ids : List TermId) → All (IsIn t) ids → (ls : List Lit) → VariablesAreApart ls → ((l : Lit) → Contains ls l → Contains ids l.term) → counted_held t ls ≤ counted_among t ids
  held_few ids there ls apart among =
      let at : Lit → Term = λ (l : Lit). term_at t l.term in
      let once = AllPairs-filter (λ (u v : Term). u ≢ v) is_arithmetic (map at ls) (atoms_once ls apart (λ l c. All-contains (IsIn t) ids l.term there (among l c))) in
      fewer (arithmetic_in (map at ls)) (arithmetic_in (clause_at t ids)) once (λ u c.
      let passes = All-contains (λ (v : Term). is_arithmetic v ≡ true) (arithmetic_in (map at ls)) u (filter_passes is_arithmetic (map at ls)) c in
      let from = from_image at ls u (from_filter is_arithmetic (map at ls) u c) in
      in_filter is_arithmetic (clause_at t ids) u (subst (Contains (clause_at t ids)) from.2 (to_image (term_at t) ids from.0.term (among from.0 from.1))) passes)

-- the first of literals of different variables
apart_front : (k : ℕ) (ls : List Lit) → k ≤ length ls → VariablesAreApart ls → VariablesAreApart (take k ls)
apart_front k ls le apart i j d before within e =
    let jk : j < k = omega (arith, within, length-take-le k ls le) in
    let ik : i < k = omega (arith, before, jk) in
    apart i j d before (omega (arith, jk, le)) (ap (λ (l : Lit). l.term) (sym (get_or-take k ls i d ik)) ∙ e ∙ ap (λ (l : Lit). l.term) (get_or-take k ls j d jk))

-- what is paid

-- at the beginning
pub paid_begun : (a l r h n : ℕ) → n ≤ paid a l r 0 → n ≤ paid a l r h
paid_begun a l r h n le = omega (arith, le)

-- where literals came to be held
pub paid_more : (a l later r before after held n m k : ℕ) → n ≤ paid a l r before → m + before ≡ n + after → k ≤ m → later ≡ l → held ≡ after → k ≤ paid a later r held
paid_more a l later r before after held n m k le e few is same = rw (is, same) (omega (arith, le, e, few))

-- where a clause is learned after a conflict
pub paid_learned : (a l later r before after held n m k : ℕ) → n ≤ paid a l r before → m + before ≡ n + after → after ≤ a → k ≤ suc m → later ≡ l + 1 → k ≤ paid a later r held
paid_learned a l later r before after held n m k le e most few is = rw is (omega (arith, le, e, most, few))

-- where nothing is found wrong, or a theory stops
pub paid_quiet : (a b l later r before after n m k : ℕ) → n ≤ paid a l r before → m + before ≡ n + after → after ≤ a → k ≤ m → later ≡ l → b ≡ a → k ≤ paid b later r b
paid_quiet a b l later r before after n m k le e most few is same = rw (is, same) (omega (arith, le, e, most, few))

-- and where a search ends at a conflict
pub paid_clash : (a b l later r before after n m k : ℕ) → n ≤ paid a l r before → m + before ≡ n + after → after ≤ a → k ≤ suc m → later ≡ l → b ≡ a → k ≤ 1 + paid b later r b
paid_clash a b l later r before after n m k le e most few is same = rw (is, same) (omega (arith, le, e, most, few))

pub paid_where : (t : TableView) (x : Search) (r k : ℕ) (end : End) → (end ≡ Saturated → ⊥) → k ≤ 1 + paid_by t x r (atoms_of t x) → k ≤ paid_at t x r end
paid_where t x r k Saturated not le = absurd (not refl)
paid_where t x r k (Refuted step) not le = le
paid_where t x r k (Stopped reason) not le = le

-- where a search grew no more often than there are atoms, the runs are few
few_with : (l r k : ℕ) → 1 + paid (r + k) l r (r + k) ≤ most_runs l (r + k)
few_with l r k = omega arith

pub paid_few : (a l r : ℕ) → r ≤ a → 1 + paid a l r a ≤ most_runs l a
paid_few a l r le =
    let is : r + (a - r) ≡ a = omega (arith, le) in
    subst (λ (b : ℕ). 1 + paid b l r b ≤ most_runs l b) is (few_with l r (a - r))

-- where it grows by some atoms, what it holds is paid for by its growth
pub paid_grown : (a b l r k n : ℕ) → n ≤ paid a l r a → b ≡ a + k → 1 ≤ k → n + k ≤ paid b l (r + 1) 0
paid_grown a b l r k n le is some = rw is (omega (arith, le))

-- of searches

-- literals of terms among those of a search that are held no more than it has atoms
module _ (t : TableView) (x : Search) (r : SearchFits t x) where
  terms_there : All (IsIn t) x.terms.items
  terms_there = All-weaker (IsTermIn t) (IsIn t) (λ id k. k.0) x.terms.items r.atoms_are.there

  pub few_held : AreDifferent t.terms → (ls : List Lit) → VariablesAreApart ls → ((l : Lit) → Contains ls l → Contains x.terms.items l.term) → counted_held t ls ≤ atoms_of t x
  few_held differ ls apart among = held_few t differ x.terms.items terms_there ls apart among

  -- the search that goes on has as many atoms
  pub atoms_stay : (u : TableView) → Extends t u → (y : Search) → y.terms ≡ x.terms → atoms_of u y ≡ atoms_of t x
  atoms_stay u more y same = ap (λ (ids : Vec TermId Global). counted_among u ids.items) same ∙ among_kept t u more x.terms.items terms_there

  -- and as many of its literals' are held
  pub held_stay : (u : TableView) → Extends t u → (ls : List Lit) → ((l : Lit) → Contains ls l → Contains x.terms.items l.term) → counted_held u ls ≡ counted_held t ls
  held_stay u more ls among = held_kept t u more ls (λ l c. All-contains (IsIn t) x.terms.items l.term terms_there (among l c))

-- the literals that a theory holds which keeps up
module _ (t : TableView) (x : Search) (r : SearchFits t x) (v : TheoryView) (asked : IsAsked v x) where
  pub held_among : (l : Lit) → Contains v.held l → Contains x.terms.items l.term
  held_among l c =
      let each : All (λ (m : Lit). Contains x.terms.items m.term) x.trail.literals = λ k d lt.
      r.atoms_are.chosen.among (get_or x.trail.literals k d).term (all_of_atoms t x r (get_or x.trail.literals k d) (Contains-get_or x.trail.literals k d lt)) in
      let front = All-take (λ (m : Lit). Contains x.terms.items m.term) (length v.held) x.trail.literals each in
      All-contains (λ (m : Lit). Contains x.terms.items m.term) (take (length v.held) x.trail.literals) l front (subst (λ (ls : List Lit). Contains ls l) asked.keeps.front c)

  held_apart : VariablesAreApart x.trail.literals → VariablesAreApart v.held
  held_apart apart = subst VariablesAreApart (sym asked.keeps.front) (apart_front (length v.held) x.trail.literals asked.keeps.within apart)

  pub few_asked : AreDifferent t.terms → VariablesAreApart x.trail.literals → counted_held t v.held ≤ atoms_of t x
  few_asked differ apart = few_held t x r differ v.held (held_apart apart) held_among
