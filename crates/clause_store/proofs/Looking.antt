-- A clause is watched by another literal.
use Rattle.std.proofs.Common.{◌≡◌, ◌≢◌, ℕ, ◌+◌, ◌<◌, ◌==◌, List, [], ◌∷◌, ◌++◌, length, get_or, set, Contains, ◌⊎◌, inl, inr, refl, sym, ap, ◌∙◌, subst, arith}
use Rattle.std.specs.List.{swap_remove}
use Rattle.std.proofs.lemmas.Bool.{cases_eq}
use Rattle.std.proofs.lemmas.List.{get_or_default, length-set, get_or-set_same, get_or-set_other}
use Rattle.term_core.specs.declared.ids.Lit.{Lit}
use Rattle.clause_literals.specs.Literals.{lit_complement}
use Rattle.clause_literals.specs.Statuses.{IsFalsified}
use Rattle.clause_literals.proofs.LiteralLists.{decide}
use Rattle.watch_index.specs.Indexes.{code, one_if, list_of, IsAppended, IsMoved}
use Rattle.clause_store.specs.declared.pair.Pair.{Pair}
use Rattle.clause_store.specs.Stores.{no_pair, hits}
use Rattle.clause_store.specs.Watching.{Has, IsPairOf, ArePairs, IsIndexed, IsQuietPair, Passes, IsExchanged, IsRepaired, AreFalseBut}
use Rattle.clause_store.proofs.QuietPairs.{shapes_set}
use Rattle.clause_store.proofs.Indexing.{code_tells, hits_two, listed, indexed_moved, lost}

-- the one literal of a pair, and the other
pub data IsOther (f other : Lit) (p : Pair) : Type 0 where
  second_is : p.first ≡ f → other ≡ p.second → IsOther f other p
  first_is : p.second ≡ f → other ≡ p.first → IsOther f other p

pub other_by : (f other : Lit) (p : Pair) → Has p f → (p.first ≡ f → other ≡ p.second) → (p.first ≢ f → other ≡ p.first) → IsOther f other p
other_by f other p h one two = go (decide p.first f) h
  where
    go : (p.first ≡ f) ⊎ (p.first ≢ f) → Has p f → IsOther f other p
    go (inl s) w = second_is s (one s)
    go (inr o) (inl s) = absurd (o s)
    go (inr o) (inr s) = first_is s (two o)

-- the other is one of the two
pub other_had : (f other : Lit) (p : Pair) → IsOther f other p → Has p other
other_had f other p (second_is a b) = inr (sym b)
other_had f other p (first_is a b) = inl (sym b)

pub one_had : (f other : Lit) (p : Pair) → IsOther f other p → Has p f
one_had f other p (second_is a b) = inl a
one_had f other p (first_is a b) = inr a

-- the other of a pair and of whatever literal is one of the two
pub taken_had : (kept from : Lit) (p : Pair) → (p.first ≡ kept → from ≡ p.second) → (p.first ≢ kept → from ≡ p.first) → Has p from
taken_had kept from p one two = elim (decide p.first kept) [
  | inl e ↦ inr (sym (one e))
  | inr o ↦ inl (sym (two o))
]

pub has_code : (l : Lit) (p : Pair) → Has p l → (code p.first ≡ code l) ⊎ (code p.second ≡ code l)
has_code l p (inl e) = inl (ap code e)
has_code l p (inr e) = inr (ap code e)

-- a literal that is none of the two
pub lacks : (wanted l : Lit) (p : Pair) → p.first ≢ wanted → p.second ≢ wanted → Has p l → wanted ≢ l
lacks wanted l p a b (inl e) s = a (e ∙ sym s)
lacks wanted l p a b (inr e) s = b (e ∙ sym s)

-- a literal of a pair is a clause's
pub had_in : (clause : List Lit) (p : Pair) (l : Lit) → IsPairOf clause p → p.first ≢ p.second → Has p l → Contains clause l
had_in clause p l h d (inl e) = subst (Contains clause) e (h.first_in d)
had_in clause p l h d (inr e) = subst (Contains clause) e (h.second_in d)

module _ (f other : Lit) (p : Pair) (w : IsOther f other p) (d : p.first ≢ p.second) where
  pub apart : other ≢ f
  apart = go w
    where
      go : IsOther f other p → other ≢ f
      go (second_is a b) e = d (a ∙ sym e ∙ b)
      go (first_is a b) e = d (sym b ∙ e ∙ sym a)

  was : (k : ℕ) → hits p k ≡ one_if (code f == k) + one_if (code other == k)
  was k = go w
    where
      go : IsOther f other p → hits p k ≡ one_if (code f == k) + one_if (code other == k)
      go (second_is a b) = hits_two p k d ∙ (λ i. one_if (code (a i) == k) + one_if (code (sym b i) == k))
      go (first_is a b) = omega (arith, hits_two p k d, ap (λ (x : Lit). one_if (code x == k)) a, ap (λ (x : Lit). one_if (code x == k)) b)

  -- where the other is false in a prefix, this one holds
  pub keeps : (F G : List Lit) → IsQuietPair F G p → Contains F (lit_complement other) → Contains G f
  keeps F G h c = go w
    where
      go : IsOther f other p → Contains G f
      go (second_is a b) = subst (Contains G) a (h.by_second (subst (λ (x : Lit). Contains F (lit_complement x)) b c))
      go (first_is a b) = subst (Contains G) a (h.by_first (subst (λ (x : Lit). Contains F (lit_complement x)) b c))

  -- where the other holds, the pair passes
  pub passes : (held : List Lit) → Contains held other → Passes held f p
  passes held c = go w
    where
      go : IsOther f other p → Passes held f p
      go (second_is a b) = record { as_first = λ e. subst (Contains held) b c; as_second = λ e. absurd (d (a ∙ sym e)) }
      go (first_is a b) = record { as_first = λ e. absurd (d (e ∙ sym a)); as_second = λ e. subst (Contains held) b c }

-- the clause is false but for the other, and that is false
pub all_false : (held clause : List Lit) (other : Lit) → AreFalseBut held clause other → Contains held (lit_complement other) → IsFalsified held clause
all_false held clause other h c m i = elim (decide m other) [
  | inl e ↦ subst (λ (x : Lit). Contains held (lit_complement x)) (sym e) c
  | inr o ↦ h m i o
]

-- a number in the list of a literal is that of a clause which it watches
module _ (pairs : List Pair) (index : List (List ℕ)) (ix : IsIndexed pairs index) (f : Lit) (n at : ℕ) (lt : at < length (list_of index f)) (number : n ≡ get_or (list_of index f) at 0) where
  in_list : Contains (list_of index f) n
  in_list = (at, lt, get_or_default (list_of index f) at n 0 lt ∙ sym number)

  pub below : n < length pairs
  below = (listed pairs index ix (code f) n in_list).0

  pub differ : (get_or pairs n no_pair).first ≢ (get_or pairs n no_pair).second
  differ = (listed pairs index ix (code f) n in_list).1

  pub has_it : Has (get_or pairs n no_pair) f
  has_it = go (listed pairs index ix (code f) n in_list).2
    where
      go : (code (get_or pairs n no_pair).first ≡ code f) ⊎ (code (get_or pairs n no_pair).second ≡ code f) → Has (get_or pairs n no_pair) f
      go (inl e) = inl (code_tells _ _ e)
      go (inr e) = inr (code_tells _ _ e)

  -- the pair, read with itself as default
  pub which : (q : Pair) (other : Lit) → q ≡ get_or pairs n q → (q.first ≡ f → other ≡ q.second) → (q.first ≢ f → other ≡ q.first) → IsOther f other (get_or pairs n no_pair)
  which q other e one two =
      let is : q ≡ get_or pairs n no_pair = e ∙ get_or_default pairs n q no_pair below in
      other_by f other (get_or pairs n no_pair) has_it (subst (λ (p : Pair). p.first ≡ f → other ≡ p.second) is one) (subst (λ (p : Pair). p.first ≢ f → other ≡ p.first) is two)

-- the list of a literal was taken from the index
module _ (index : List (List ℕ)) (f : Lit) (list : List ℕ) (there : code f < length index) where
  pub list_with : list_of (set index (code f) list) f ≡ list
  list_with = get_or-set_same index (code f) list [] there

  pub place_with : (at : ℕ) → at < length list → at < length (list_of (set index (code f) list) f)
  place_with at lt = subst (λ (xs : List ℕ). at < length xs) (sym list_with) lt

  pub number_with : (n at : ℕ) → n ≡ get_or list at 0 → n ≡ get_or (list_of (set index (code f) list) f) at 0
  number_with n at e = e ∙ ap (λ xs. get_or xs at 0) (sym list_with)

  -- its entry goes to the end of another's
  pub moved_with : (new : List (List ℕ)) (d : Lit) (n at : ℕ) → code f ≢ code d → get_or list at 0 ≡ n → IsAppended index (code d) n new → IsMoved (set index (code f) list) f at d (set new (code f) (swap_remove list at 0))
  moved_with new d n at apart number m = record {
    middle = set new (code f) list;
    put = record {
      list = get_or-set_other new (code f) (code d) list [] (λ e. apart (sym e)) ∙ m.list ∙ ap (λ xs. xs ++ n ∷ []) (sym (get_or-set_other index (code f) (code d) list [] (λ e. apart (sym e))))
          ∙ ap (λ j. list_of (set index (code f) list) d ++ j ∷ []) (sym number ∙ ap (λ xs. get_or xs at 0) (sym list_with));
      others = λ k o. elim (cases_eq k (code f)) [
        | inl e ↦ ap (λ j. get_or (set new (code f) list) j []) e ∙ get_or-set_same new (code f) list [] still ∙ sym (ap (λ j. get_or (set index (code f) list) j []) e ∙ list_with)
        | inr other ↦ get_or-set_other new (code f) k list [] other ∙ m.others k o ∙ sym (get_or-set_other index (code f) k list [] other)
      ];
      longer = omega (arith, m.longer, length-set index (code f) list, length-set new (code f) list);
    };
    taken = record {
      list = get_or-set_same new (code f) (swap_remove list at 0) [] still ∙ ap (λ xs. swap_remove xs at 0) (sym (get_or-set_same new (code f) list [] still));
      others = λ k o. get_or-set_other new (code f) k (swap_remove list at 0) [] o ∙ sym (get_or-set_other new (code f) k list [] o);
    };
  }
    where
      still : code f < length new
      still = omega (arith, there, m.longer)

-- the clause of a number gets another literal in the place of one
module _ (clauses : List (List Lit)) (pairs : List Pair) (index new : List (List ℕ)) (n at : ℕ) (f other d : Lit)
    (ps : ArePairs clauses pairs) (ix : IsIndexed pairs index) (lt : n < length pairs) (two : (get_or pairs n no_pair).first ≢ (get_or pairs n no_pair).second)
    (w : IsOther f other (get_or pairs n no_pair)) (at_in : at < length (list_of index f)) (number : get_or (list_of index f) at 0 ≡ n)
    (d_in : Contains (get_or clauses n []) d) (not_other : d ≢ other) (not_f : d ≢ f) (m : IsMoved index f at d new) where
  abbrev pub pair_now : Pair
  pair_now = record { first = other; second = d }

  clause_lt : n < length clauses
  clause_lt = omega (arith, lt, ps.paired)

  codes : code f ≢ code d
  codes e = not_f (sym (code_tells f d e))

  now_two : pair_now.first ≢ pair_now.second
  now_two e = not_other (sym e)

  pub indexed_now : IsIndexed (set pairs n pair_now) new
  indexed_now = indexed_moved pairs index ix f d (code other) n at pair_now new codes at_in number lt (was f other (get_or pairs n no_pair) w two) (λ k. hits_two pair_now k now_two) m

  here : IsPairOf (get_or clauses n []) pair_now
  here = record {
    first_in = λ e. had_in (get_or clauses n []) (get_or pairs n no_pair) other (ps.each n clause_lt) two (other_had f other (get_or pairs n no_pair) w);
    second_in = λ e. d_in;
    alone = λ e. absurd (now_two e);
  }

  pub pairs_now : ArePairs clauses (set pairs n pair_now)
  pairs_now = record {
    paired = length-set pairs n pair_now ∙ ps.paired;
    each = λ j jlt. elim (cases_eq j n) [
      | inl e ↦ rw (e, get_or-set_same pairs n pair_now no_pair lt) here
      | inr o ↦ rw (get_or-set_other pairs n j pair_now no_pair o) (ps.each j jlt)
    ];
  }

  pub exchanged : IsExchanged (record { number = n; place = at; literal = f }) pairs (set pairs n pair_now) index new
  exchanged = record {
    pair = pair_now;
    below = lt;
    first_not = apart f other (get_or pairs n no_pair) w two;
    second_not = not_f;
    pairs = refl;
    list = lost pairs index ix f d (code other) n at pair_now new codes at_in number lt (was f other (get_or pairs n no_pair) w two) (λ k. hits_two pair_now k now_two) m;
  }

  pub repaired : IsRepaired n pairs (set pairs n pair_now)
  repaired = record {
    paired = length-set pairs n pair_now;
    others = λ j o. get_or-set_other pairs n j pair_now no_pair o;
    shapes = shapes_set pairs n pair_now lt two now_two;
  }
