-- What changes of one list make of all.
use Rattle.std.proofs.Common.{◌≡◌, ℕ, ◌+◌, ◌-◌, ◌<◌, ◌≤◌, List, [], ◌∷◌, ◌++◌, length, get_or, set, take, map, replicate, inl, inr, refl, sym, ap, ◌∙◌, subst, arith}
use Rattle.std.specs.Prelude.{Vec}
use Rattle.std.specs.List.{swap_remove, take-map}
use Rattle.std.specs.declared.alloc.Global.{Global}
use Rattle.std.proofs.lemmas.Bool.{cases_lt, cases_eq}
use Rattle.std.proofs.lemmas.List.{append-nil, append_assoc, length-append, replicate_more, length-map, length-set, map-set, set-get_or, get_or_default, get_or_append_left, get_or-append_right, get_or-replicate, get_or_past, length-replicate, get_or-set_same, get_or-set_other, get_or-map, take-append-le, take_all, ext_get_or}
use Rattle.clause_literals.specs.Literals.{lists}
use Rattle.clause_literals.proofs.Noting.{list_at}
use Rattle.term_core.specs.declared.ids.Lit.{Lit}
use Rattle.watch_index.specs.Indexes.{code, list_of, HasGrown, IsAppended, IsTakenOut}

abbrev numbers : Vec ℕ Global → List ℕ
numbers v = v.items

-- ---- one list is changed

-- the list of a place got these numbers
pub set_at : (vs : List (Vec ℕ Global)) (k : ℕ) (new : Vec ℕ Global) (items : List ℕ) → new.items ≡ items → lists (set vs k new) ≡ set (lists vs) k items
set_at vs k new items i = map-set numbers vs k new ∙ ap (λ xs. set (lists vs) k xs) i

-- or none other
pub same_at : (vs : List (Vec ℕ Global)) (k : ℕ) (old new : Vec ℕ Global) → k < length vs → old ≡ get_or vs k old → new.items ≡ old.items → lists (set vs k new) ≡ lists vs
same_at vs k old new lt e i = map-set numbers vs k new ∙ ap (λ xs. set (lists vs) k xs) (i ∙ list_at vs k old lt e) ∙ set-get_or (lists vs) k []

-- what fills the gap is read of an empty list alone
pub swap_default : (xs : List ℕ) (i d : ℕ) → i < length xs → swap_remove xs i d ≡ swap_remove xs i 0
swap_default xs i d lt = ap (λ y. take (length xs - 1) (set xs i y)) (get_or_default xs (length xs - 1) d 0 (omega (arith, lt)))

pub taken_set : (old : List (List ℕ)) (k at : ℕ) → k < length old → IsTakenOut old k at (set old k (swap_remove (get_or old k []) at 0))
taken_set old k at lt = record {
  list = get_or-set_same old k (swap_remove (get_or old k []) at 0) [] lt;
  others = λ j n. get_or-set_other old k j (swap_remove (get_or old k []) at 0) [] n;
}

-- ---- empty lists come last

pub grown_none : (old : List (List ℕ)) → HasGrown old old
grown_none old = record { more = 0; is = sym (append-nil old) }

pub grown_more : (old mid : List (List ℕ)) → HasGrown old mid → HasGrown old (mid ++ [] ∷ [])
grown_more old mid h = record {
  more = h.more + 1;
  is = ap (λ xs. xs ++ [] ∷ []) h.is ∙ append_assoc old (replicate h.more []) ([] ∷ []) ∙ ap (λ xs. old ++ xs) (replicate_more h.more []);
}

-- no list is another one
pub grown_same : (old new : List (List ℕ)) → HasGrown old new → (k : ℕ) → get_or new k [] ≡ get_or old k []
grown_same old new h k = ap (λ xs. get_or xs k []) h.is ∙ elim (cases_lt k (length old)) [
  | inl lt ↦ get_or_append_left old (replicate h.more []) [] k lt
  | inr past ↦ get_or-append_right old (replicate h.more []) (length old) k [] refl past ∙ empty (k - length old) ∙ sym (get_or_past old k [] past)
]
  where
    none : List ℕ
    none = []

    empty : (i : ℕ) → get_or (replicate h.more none) i [] ≡ []
    empty i = elim (cases_lt i h.more) [
      | inl lt ↦ get_or-replicate h.more i [] [] lt
      | inr past ↦ get_or_past (replicate h.more []) i [] (omega (arith, past, length-replicate h.more none))
    ]

pub put_grown : (old mid new : List (List ℕ)) (k n : ℕ) → HasGrown old mid → k < length mid → new ≡ set mid k (get_or mid k [] ++ n ∷ []) → IsAppended old k n new
put_grown old mid new k n h lt e = record {
  list = ap (λ xs. get_or xs k []) e ∙ get_or-set_same mid k (get_or mid k [] ++ n ∷ []) [] lt ∙ ap (λ xs. xs ++ n ∷ []) (grown_same old mid h k);
  others = λ j o. ap (λ xs. get_or xs j []) e ∙ get_or-set_other mid k j (get_or mid k [] ++ n ∷ []) [] o ∙ grown_same old mid h j;
  longer = omega (arith, ap length e, length-set mid k (get_or mid k [] ++ n ∷ []), ap length h.is, length-append old (replicate h.more []));
}

-- they are cut off again
pub cut_back : (old new : List (Vec ℕ Global)) → HasGrown (lists old) (lists new) → lists (take (length old) new) ≡ lists old
cut_back old new h =
    let size : length old ≡ length (lists old) = sym (length-map old numbers) in
    sym (take-map numbers (length old) new) ∙ ap (take (length old)) h.is
    ∙ take-append-le (length old) (lists old) (replicate h.more []) (omega (arith, size)) ∙ take_all (length old) (lists old) (omega (arith, size))

-- ---- an entry goes from list to list

-- a literal whose list has an entry has a list
pub has_list : (index : List (List ℕ)) (l : Lit) (at : ℕ) → at < length (list_of index l) → length index ≤ code l → ⊥
has_list index l at lt past = omega (arith, lt, ap length (get_or_past index (code l) [] past))

-- it has its entries also with one more in some list
pub still_there : (old mid : List (List ℕ)) (to n k at : ℕ) → IsAppended old to n mid → at < length (get_or old k []) → at < length (get_or mid k [])
still_there old mid to n k at p lt = elim (cases_eq k to) [
  | inl e ↦ subst (λ (xs : List ℕ). at < length xs) (sym (ap (λ j. get_or mid j []) e ∙ p.list)) (omega (arith, rw e at lt, length-append (get_or old to []) (n ∷ [])))
  | inr o ↦ subst (λ (xs : List ℕ). at < length xs) (sym (p.others k o)) lt
]

-- ---- each list is changed alike

-- the first lists are changed, the others are as they were
pub record AreChanged (f : List ℕ → List ℕ) (place : ℕ) (old new : List (List ℕ)) : Type 0 where
  pub size : length new ≡ length old
  pub first : (k : ℕ) → k < place → get_or new k [] ≡ f (get_or old k [])
  pub others : (k : ℕ) → place ≤ k → get_or new k [] ≡ get_or old k []

module _ (f : List ℕ → List ℕ) where
  pub changed_none : (old : List (List ℕ)) → AreChanged f 0 old old
  changed_none old = record { size = refl; first = λ k lt. absurd (omega (arith, lt)); others = λ k le. refl }

  pub changed_more : (place : ℕ) (old mid new : List (List ℕ)) → AreChanged f place old mid → place < length mid → new ≡ set mid place (f (get_or mid place [])) → AreChanged f (place + 1) old new
  changed_more place old mid new h lt e = record {
    size = ap length e ∙ length-set mid place (f (get_or mid place [])) ∙ h.size;
    first = λ k le. ap (λ xs. get_or xs k []) e ∙ elim (cases_lt k place) [
      | inl before ↦ get_or-set_other mid place k (f (get_or mid place [])) [] (omega (arith, before)) ∙ h.first k before
      | inr from ↦
          let is : k ≡ place = omega (arith, le, from) in
          ap (λ j. get_or (set mid place (f (get_or mid place []))) j []) is ∙ get_or-set_same mid place (f (get_or mid place [])) [] lt
          ∙ ap f (h.others place (omega arith)) ∙ ap (λ j. f (get_or old j [])) (sym is)
    ];
    others = λ k le. ap (λ xs. get_or xs k []) e ∙ get_or-set_other mid place k (f (get_or mid place [])) [] (omega (arith, le)) ∙ h.others k (omega (arith, le));
  }

  pub changed_all : (place : ℕ) (old new : List (List ℕ)) → AreChanged f place old new → length new ≤ place → new ≡ map f old
  changed_all place old new h le = ext_get_or [] new (map f old) (h.size ∙ sym (length-map old f))
      (λ i lt. h.first i (omega (arith, lt, le)) ∙ sym (get_or-map f old i [] [] (omega (arith, lt, h.size))))
