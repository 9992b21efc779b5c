-- Arguments that are taken together two by two, to the left or to the right.
use Rattle.std.proofs.Common.{◌≡◌, ◌<◌, ◌+◌, ◌-◌, List, [], ◌∷◌, ◌++◌, length, get_or, take, drop, refl, sym, ap, ◌∙◌, subst, arith, append_assoc}
use Rattle.std.proofs.lemmas.List.{map-append, take_at, take_all, take_more}
use Rattle.std.proofs.lemmas.List.Elements.{All-head, All-tail, All-take, All-contains, Contains-push}
use Rattle.spec_sorts.specs.Terms.{Head, Sort, Term, no_term, pair, sort_of}
use Rattle.spec_sorts.specs.Lists.{left, right}
use Rattle.term_core.specs.declared.ids.TermId.{TermId}
use Rattle.term_core.specs.Tables.{TableView, term_at, clause_at}
use Rattle.term_reader.specs.declared.building.Binary.{Binary}
use Rattle.term_reader.specs.declared.building.Binary.TheVariants as binaries
use Rattle.term_reader.specs.Building.{KeepsTable, MeansTerm, IsOf, AreOfSort, BinarySort, TakesBoth, binary_head}
use Rattle.term_reader.specs.Chains.{FoldSort, Folds}
use Rattle.term_reader.proofs.Tables.{keeps_same, keeps_along, of_kept}
use Rattle.term_core.proofs.TermsExtend.{term_at-kept}

-- the term of one that is there and of others that come
abbrev Fold : Type 0
Fold = Term → List Term → Term

-- to the left
abbrev pub to_left : Head → Fold
to_left h t us = left no_term (pair h) (t ∷ us)

-- to the right
abbrev pub to_right : Head → Fold
to_right h t us = right no_term (pair h) (us ++ t ∷ [])

-- A number that means what was taken together, and the numbers that come.
pub record IsFolded (b : Binary) (f : Fold) (old now : TableView) (all : Term) (id : TermId) (rest : List TermId) : Type 0 where
  -- what was there is there still
  pub keeps : KeepsTable old now
  -- the sort of each
  pub sort : Sort
  -- the head takes two of it and gives one
  pub suits : FoldSort b sort
  -- what was taken together has it
  pub one : IsOf now sort id
  -- the others have it
  pub others : AreOfSort old sort rest
  -- with them it is the whole
  pub same : f (term_at now id) (clause_at old rest) ≡ all

-- the sort is one that the head takes
suiting : (b : Binary) (s : Sort) → FoldSort b s → BinarySort b s
suiting binaries.Xor s h = h
suiting binaries.Implies s h = h
suiting binaries.Equal s h = absurd h
suiting binaries.Minus s h = h
suiting binaries.Divide s h = h
suiting binaries.Less s h = absurd h
suiting binaries.AtMost s h = absurd h

-- and the one that it gives
giving : (b : Binary) (s : Sort) (t u : Term) → FoldSort b s → sort_of (pair (binary_head b) t u) ≡ s
unfolding sort_of
giving binaries.Xor s t u h = sym h
giving binaries.Implies s t u h = sym h
giving binaries.Equal s t u h = absurd h
giving binaries.Minus s t u h = sym h
giving binaries.Divide s t u h = sym h
giving binaries.Less s t u h = absurd h
giving binaries.AtMost s t u h = absurd h

module _ (b : Binary) (f : Fold) (old now : TableView) (all : Term) (id : TermId) (rest after : List TermId) (next : TermId) (h : IsFolded b f old now all id rest) (there : IsOf old h.sort next) where
  pub both_left : TakesBoth now b id next
  both_left = record { sort = h.sort; suits = suiting b h.sort h.suits; one = h.one; other = of_kept old now h.keeps h.sort next there }

  pub both_right : TakesBoth now b next id
  both_right = record { sort = h.sort; suits = suiting b h.sort h.suits; one = of_kept old now h.keeps h.sort next there; other = h.one }

  pub fold_step : (t u : Term) (new : TableView) (both : TermId) → AreOfSort old h.sort after → KeepsTable now new → MeansTerm new (pair (binary_head b) t u) both → f (pair (binary_head b) t u) (clause_at old after) ≡ f (term_at now id) (clause_at old rest) → IsFolded b f old new all both after
  fold_step t u new both others keeps means same = record {
    keeps = keeps_along old now new h.keeps keeps;
    sort = h.sort;
    suits = h.suits;
    one = (means.0, ap sort_of means.1 ∙ giving b h.sort t u h.suits);
    others = others;
    same = ap (λ v. f v (clause_at old after)) means.1 ∙ same ∙ h.same;
  }

pub fold_ends : (b : Binary) (f : Fold) (old now : TableView) (all : Term) (id : TermId) (rest : List TermId) → ((t : Term) → f t [] ≡ t) → length rest ≡ 0 → IsFolded b f old now all id rest → MeansTerm now all id
fold_ends b f old now all id [] alone none h = (h.one.0, sym (alone (term_at now id)) ∙ h.same)
fold_ends b f old now all id (next ∷ rest) alone none h = absurd (omega (arith, none))

-- to the left: the next one is the first of the others
module _ (b : Binary) (old now : TableView) (all : Term) (id : TermId) (rest after : List TermId) (next : TermId) (is : rest ≡ next ∷ after) (h : IsFolded b (to_left (binary_head b)) old now all id rest) where
  others_left : AreOfSort old h.sort (next ∷ after)
  others_left = subst (AreOfSort old h.sort) is h.others

  next_left : IsOf old h.sort next
  next_left = All-head (IsOf old h.sort) next after others_left

  pub left_takes : TakesBoth now b id next
  left_takes = both_left b (to_left (binary_head b)) old now all id rest after next h next_left

  pub left_step : (new : TableView) (both : TermId) → KeepsTable now new → MeansTerm new (pair (binary_head b) (term_at now id) (term_at now next)) both → IsFolded b (to_left (binary_head b)) old new all both after
  left_step new both keeps means =
      let kept : term_at now next ≡ term_at old next = term_at-kept old now h.keeps.extends next next_left.0 in
      fold_step b (to_left (binary_head b)) old now all id rest after next h next_left (term_at now id) (term_at now next) new both (All-tail (IsOf old h.sort) next after others_left) keeps means
      (ap (λ u. to_left (binary_head b) (pair (binary_head b) (term_at now id) u) (clause_at old after)) kept ∙ ap (λ ids. to_left (binary_head b) (term_at now id) (clause_at old ids)) (sym is))

pub left_ends : (h : Head) (t : Term) → to_left h t [] ≡ t
left_ends h t = refl

pub left_starts : (b : Binary) (t : TableView) (ids : List TermId) (d : TermId) → 0 < length ids → Folds t b ids → IsFolded b (to_left (binary_head b)) t t (left no_term (pair (binary_head b)) (clause_at t ids)) (get_or ids 0 d) (drop 1 ids)
left_starts b t [] d some h = absurd (omega (arith, some))
left_starts b t (id ∷ ids) d some h = record {
  keeps = keeps_same t;
  sort = h.sort;
  suits = h.suits;
  one = All-head (IsOf t h.sort) id ids h.each;
  others = All-tail (IsOf t h.sort) id ids h.each;
  same = refl;
}

right_two : (h : Head) (us : List Term) (t u : Term) → right no_term (pair h) (us ++ t ∷ u ∷ []) ≡ right no_term (pair h) (us ++ pair h t u ∷ [])
right_two h [] t u = refl
right_two h (v ∷ []) t u = refl
right_two h (v ∷ w ∷ ws) t u = ap (pair h v) (right_two h (w ∷ ws) t u)

-- to the right: the next one is the last of the others
module _ (b : Binary) (old now : TableView) (all : Term) (id : TermId) (rest before : List TermId) (next : TermId) (is : rest ≡ before ++ next ∷ []) (h : IsFolded b (to_right (binary_head b)) old now all id rest) where
  others_right : AreOfSort old h.sort (before ++ next ∷ [])
  others_right = subst (AreOfSort old h.sort) is h.others

  next_right : IsOf old h.sort next
  next_right = All-contains (IsOf old h.sort) (before ++ next ∷ []) next others_right (Contains-push before next)

  front_right : AreOfSort old h.sort before
  front_right = subst (AreOfSort old h.sort) (take_at before (next ∷ []) (length before) refl) (All-take (IsOf old h.sort) (length before) (before ++ next ∷ []) others_right)

  pub right_takes : TakesBoth now b next id
  right_takes = both_right b (to_right (binary_head b)) old now all id rest before next h next_right

  pub right_step : (new : TableView) (both : TermId) → KeepsTable now new → MeansTerm new (pair (binary_head b) (term_at now next) (term_at now id)) both → IsFolded b (to_right (binary_head b)) old new all both before
  right_step new both keeps means =
      let g : Head = binary_head b in
      let t : Term = term_at now id in
      let us : List Term = clause_at old before in
      let kept : term_at now next ≡ term_at old next = term_at-kept old now h.keeps.extends next next_right.0 in
      let whole : to_right g t (clause_at old rest) ≡ to_right g (pair g (term_at old next) t) us =
      ap (λ ids. to_right g t (clause_at old ids)) is ∙ ap (λ ts. right no_term (pair g) (ts ++ t ∷ [])) (map-append (term_at old) before (next ∷ []))
      ∙ ap (right no_term (pair g)) (append_assoc us (term_at old next ∷ []) (t ∷ [])) ∙ right_two g us (term_at old next) t in
      fold_step b (to_right g) old now all id rest before next h next_right (term_at now next) t new both front_right keeps means
      (ap (λ u. to_right g (pair g u t) us) kept ∙ sym whole)

pub right_ends : (h : Head) (t : Term) → to_right h t [] ≡ t
right_ends h t = refl

last_of : (ids : List TermId) (d : TermId) → 0 < length ids → ids ≡ take (length ids - 1) ids ++ get_or ids (length ids - 1) d ∷ []
last_of ids d some =
    let n : length ids - 1 < length ids = omega (arith, some) in
    let e : length ids - 1 + 1 ≡ length ids = omega (arith, some) in
    sym (take_all (length ids) ids (omega arith)) ∙ ap (λ k. take k ids) (sym e) ∙ take_more ids (length ids - 1) d n

pub right_starts : (b : Binary) (t : TableView) (ids : List TermId) (d : TermId) → 0 < length ids → Folds t b ids → IsFolded b (to_right (binary_head b)) t t (right no_term (pair (binary_head b)) (clause_at t ids)) (get_or ids (length ids - 1) d) (take (length ids - 1) ids)
right_starts b t ids d some h =
    let id : TermId = get_or ids (length ids - 1) d in
    let front : List TermId = take (length ids - 1) ids in
    let is : ids ≡ front ++ id ∷ [] = last_of ids d some in
    record {
      keeps = keeps_same t;
      sort = h.sort;
      suits = h.suits;
      one = h.each (length ids - 1) d (omega (arith, some));
      others = All-take (IsOf t h.sort) (length ids - 1) ids h.each;
      same = ap (right no_term (pair (binary_head b))) (sym (map-append (term_at t) front (id ∷ [])) ∙ ap (clause_at t) (sym is));
    }
