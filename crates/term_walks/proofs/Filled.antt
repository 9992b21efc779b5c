-- Filled terms, their sorts, and what a walk has filled.
use Rattle.std.proofs.Common.{◌≡◌, ℕ, ◌+◌, ◌<◌, ◌≤◌, List, [], ◌∷◌, ◌++◌, length, get_or, take, map, Contains, refl, sym, ap, ◌∙◌, subst, inl, inr, arith}
use Rattle.std.proofs.lemmas.List.{take_more, take-append-drop, append-nil, length-map, get_or-map, map-append, length_push, get_or_push, get_or_append_left}
use Rattle.std.proofs.lemmas.Bool.{cases_lt}
use Rattle.std.proofs.Math.ListN.{drop_of_length-le}
use Rattle.std.proofs.Math.Seq.{take-append_seam}
use Rattle.spec_sorts.specs.Terms.{Parameter, Term, Terms, app, nil, cons, no_term, of, terms_of, sort_given, sort_of, second_sort, filled, filled_all}
use Rattle.spec_sorts.specs.WellSorted.{AllHeads, AllHeadsIn}
use Rattle.spec_sorts.specs.Subsets.{arguments_of}
use Rattle.term_core.specs.declared.ids.TermId.{TermId}
use Rattle.term_core.specs.declared.sorts.Sort.{Sort as TableSort}
use Rattle.term_core.specs.declared.nodes.Head.TheVariants as heads
use Rattle.term_core.specs.declared.nodes.Node.{Node}
use Rattle.term_core.specs.Tables.{TableView, declared_in, IsIn, AreIn, term_at, clause_at, takes, head_meant, HasHead, node_term, IsPlaced, Extends}
use Rattle.term_core.proofs.TermsExtend.{IsIn-kept, term_at-kept}
use Rattle.term_walks.specs.Filling.{Fills, FillsAll}
use Rattle.term_walks.specs.FilledTerms.{IsFilled, AreFilled, refilled, IsParameter, IsNoParameter}
use Rattle.term_walks.specs.Orders.{number_term, HasArgumentsBefore}
use Rattle.term_walks.proofs.Named.{heads_in}
use Rattle.term_walks.proofs.Taking.{all_push}

-- a filled term has the sort that it had
mutual
  unfolding sort_of second_sort filled filled_all AllHeads AllHeadsIn

  pub filled_sort : (ts : List Term) (t : Term) → FillsAll ts t → sort_of (filled ts t) ≡ sort_of t
  filled_sort ts (app (Parameter k s) us) h = h.0.1
  filled_sort ts (app g us) h = ap (sort_given g) (filled_second ts us h.1)

  filled_second : (ts : List Term) (us : Terms) → AllHeadsIn (Fills ts) us → second_sort (filled_all ts us) ≡ second_sort us
  filled_second ts nil h = refl
  filled_second ts (cons u nil) h = refl
  filled_second ts (cons u (cons v vs)) h = filled_sort ts v h.1.0

filled_sorts : (ts us : List Term) → AllHeadsIn (Fills ts) (terms_of us) → map sort_of (map (filled ts) us) ≡ map sort_of us
unfolding AllHeads AllHeadsIn
filled_sorts ts [] h = refl
filled_sorts ts (u ∷ us) h = λ i. filled_sort ts u h.0 i ∷ filled_sorts ts us h.1 i

filled_list : (ts us : List Term) → filled_all ts (terms_of us) ≡ terms_of (map (filled ts) us)
unfolding filled_all
filled_list ts [] = refl
filled_list ts (u ∷ us) = ap (cons (filled ts u)) (filled_list ts us)

-- what is no parameter is filled by its arguments
pub filled_by : (ts : List Term) (t : Term) → IsNoParameter t → filled ts t ≡ refilled ts t
unfolding filled
filled_by ts (app (Parameter k s) us) h = absurd h
filled_by ts (app h us) n = refl

-- a parameter is filled by its argument
pub filled_parameter : (t : TableView) (ids : List TermId) (u : Term) (k : ℕ) → IsParameter k u → FillsAll (clause_at t ids) u → k < length ids
unfolding AllHeads
filled_parameter t ids (app (Parameter j s) us) k e h =
    let lt = h.0.0 in let long = length-map ids (term_at t) in omega (arith, lt, long, e)
filled_parameter t ids (app g us) k e h = absurd e

pub argument_filled : (t : TableView) (ids : List TermId) (u : Term) (k : ℕ) (d : TermId) → IsParameter k u → k < length ids → term_at t (get_or ids k d) ≡ filled (clause_at t ids) u
unfolding filled
argument_filled t ids (app (Parameter j s) us) k d e lt = sym (ap (λ n. get_or (clause_at t ids) n no_term) e ∙ get_or-map (term_at t) ids k d no_term lt)
argument_filled t ids (app g us) k d e lt = absurd e

-- the term of a parameter's head is that parameter
pub is_parameter : (t : TableView) (u : Term) (node : Node) (k : ℕ) (s : TableSort) → u ≡ node_term t node → node.head ≡ heads.Parameter k s → IsParameter k u
is_parameter t u node k s means is = subst (IsParameter k) (sym (means ∙ ap (λ h. of (head_meant t h) (clause_at t node.arguments.items)) is)) refl

-- the node that is made of filled arguments
pub node_filled : (t : TableView) (ts : List Term) (u : Term) (node made : Node) → u ≡ node_term t node → IsPlaced t node → FillsAll ts u → made.head ≡ node.head → AreIn t made.arguments.items
    → clause_at t made.arguments.items ≡ map (filled ts) (clause_at t node.arguments.items) → IsPlaced t made × (node_term t made ≡ refilled ts u)
node_filled t ts u node made means placed fills head within same =
    let us = clause_at t node.arguments.items in
    let h = head_meant t node.head in
    let sorts = filled_sorts ts us (heads_in (Fills ts) h us (subst (FillsAll ts) means fills)) in (
      record {
        head = subst (λ x. HasHead t x) (sym head) placed.head;
        arguments = within;
        sorts = (λ i. takes (head_meant t (head i)) (map sort_of (same i))) ∙ ap (takes h) sorts ∙ placed.sorts;
      },
      (λ i. of (head_meant t (head i)) (same i)) ∙ ap (app h) (sym (filled_list ts us)) ∙ ap (refilled ts) (sym means),
    )

-- one filled argument more
pub filled_more : (t : TableView) (ts : List Term) (ids all new : List TermId) (k : ℕ) (d x : TermId) → k < length ids → IsFilled t ts (get_or ids k d).0 x → new ≡ all ++ x ∷ []
    → AreIn t all × (clause_at t all ≡ map (filled ts) (clause_at t (take k ids))) → AreIn t new × (clause_at t new ≡ map (filled ts) (clause_at t (take (k + 1) ids)))
filled_more t ts ids all new k d x lt is pushed so = (
  all_push (IsIn t) all new x pushed so.0 is.0,
  ap (clause_at t) pushed ∙ map-append (term_at t) all (x ∷ []) ∙ (λ i. so.1 i ++ is.1 i ∷ [])
      ∙ sym (map-append (filled ts) (clause_at t (take k ids)) (term_at t (get_or ids k d) ∷ []))
      ∙ ap (map (filled ts)) (sym (map-append (term_at t) (take k ids) (get_or ids k d ∷ [])) ∙ ap (clause_at t) (sym (take_more ids k d lt))),
)

pub filled_end : (t : TableView) (ts : List Term) (ids all : List TermId) (k : ℕ) → length ids ≤ k → AreIn t all × (clause_at t all ≡ map (filled ts) (clause_at t (take k ids)))
    → AreIn t all × (clause_at t all ≡ map (filled ts) (clause_at t ids))
filled_end t ts ids all k le so = (so.0, so.1 ∙ ap (λ l. map (filled ts) (clause_at t l)) whole)
  where
    whole : take k ids ≡ ids
    whole = sym (append-nil (take k ids)) ∙ ap (λ l. take k ids ++ l) (sym (drop_of_length-le ids le)) ∙ take-append-drop k ids

-- a table that grew and was cut is as it was
pub cut_back : (old mid new : TableView) → Extends old mid → declared_in mid ≡ declared_in old → new.terms ≡ take (length old.terms) mid.terms → declared_in new ≡ declared_in mid → new ≡ old
cut_back old mid new grows same cut declared =
    let all : declared_in new ≡ declared_in old = declared ∙ same in
    let terms : new.terms ≡ old.terms = cut ∙ ap (take (length old.terms)) grows.terms ∙ take-append_seam old.terms grows.more_terms in
    λ i. record { sorts = (all i).sorts; symbols = (all i).symbols; terms = terms i }

-- filled terms stay so in a table that grows
module _ (old new : TableView) (grows : Extends old new) where
  pub number_kept : (k : ℕ) → k < length old.terms → number_term new k ≡ number_term old k
  number_kept k lt = term_at-kept old new grows (record { 0 = k }) lt

  filled_kept : (ts : List Term) (k : ℕ) (id : TermId) → k < length old.terms → IsFilled old ts k id → IsFilled new ts k id
  filled_kept ts k id lt h = (IsIn-kept old new grows id h.0, term_at-kept old new grows id h.0 ∙ h.1 ∙ ap (filled ts) (sym (number_kept k lt)))

  pub ready_kept : (order : List ℕ) (count k : ℕ) → k < length old.terms → HasArgumentsBefore old order count k → HasArgumentsBefore new order count k
  ready_kept order count k lt r u i =
      let p = r u (subst (λ x. Contains (arguments_of x) u) (number_kept k lt) i) in
      (p.0, p.1, p.2, IsIn-kept old new grows (record { 0 = get_or order p.0 0 }) p.3, number_kept (get_or order p.0 0) p.3 ∙ p.4)

  -- one filled term more
  pub filled_push : (ts : List Term) (order : List ℕ) (made more : List TermId) (x : TermId) (at : ℕ) → more ≡ made ++ x ∷ [] → length made ≡ at
      → ((j : ℕ) → j < length made → get_or order j 0 < length old.terms) → AreFilled old ts order made → IsFilled new ts (get_or order at 0) x → AreFilled new ts order more
  filled_push ts order made more x at e long there are last j d lt =
      let within : j < length made + 1 = subst (λ m. j < m) (ap length e ∙ length_push made x) lt in
      elim (cases_lt j (length made)) [
        | inl low ↦ subst (IsFilled new ts (get_or order j 0)) (sym (ap (λ l. get_or l j d) e ∙ get_or_append_left made (x ∷ []) d j low)) (filled_kept ts (get_or order j 0) (get_or made j d) (there j low) (are j d low))
        | inr high ↦
            let here : j ≡ length made = omega (arith, within, high) in
            subst (λ y. IsFilled new ts (get_or order j 0) y) (sym (ap (λ l. get_or l j d) e ∙ get_or_push made x d j (sym here))) (subst (λ m. IsFilled new ts (get_or order m 0) x) (sym (here ∙ long)) last)
      ]
