-- Names that wait, and names that are bound.
use Rattle.std.proofs.Common.{◌≡◌, ℕ, zero, suc, ◌+◌, ◌<◌, ◌≤◌, Bool, true, false, inl, inr, get_or, List, [], ◌∷◌, ◌++◌, length, map, take, drop, refl, ap, sym, ◌∙◌, arith, append_assoc, append-nil}
use Rattle.std.specs.Prelude.{reverse, nat_le}
use Rattle.std.proofs.lemmas.List.{map-append, take-map, drop-map, take_at, drop_at, length-map, length-append, length-take, length-drop, reverse-append, length-reverse, take_all, drop_all, take-take, get_or-take}
use Rattle.spec_text.specs.Bytes.{Name}
use Rattle.spec_reading.specs.Reading.{Bound, bound_names}
use Rattle.term_core.specs.declared.ids.TermId.{TermId}
use Rattle.term_core.specs.Tables.{TableView, term_at}
use Rattle.term_reader.specs.NameStacks.{newest}
use Rattle.term_reader.specs.NameStacks.{IsLatest}
use Rattle.term_reader.proofs.NameStacks.{newest_push, none_among}
use Rattle.term_core.proofs.NamesApart.{not_there}
use Rattle.spec_text.specs.Bytes.{among}
use Rattle.std.specs.Str.{bytes_eq}
use Rattle.std.proofs.lemmas.Bool.{or_parts, cases_lt}
use Rattle.std.proofs.lemmas.Bool.Decides.{nat_tests}
use Rattle.sort_check.specs.Bindings.{BindingsView, named_term, bound_at, paired, waiting_at}
use Rattle.sort_check.specs.Steps.{HasBound}

-- a name that has a place is among them
pub is_among : (ns : List Name) (n : Name) (k : ℕ) → k < length ns → get_or ns k [] ≡ n → among ns n ≡ true
is_among ns n k lt e = go (among ns n) refl
  where
    go : (b : Bool) → among ns n ≡ b → b ≡ true
    go true q = refl
    go false q = absurd (not_there ns n k q lt e)

pub paired_push : {A : Type 0} (ns : List Name) (xs : List A) (n : Name) (x : A) → length ns ≡ length xs → paired (ns ++ n ∷ []) (xs ++ x ∷ []) ≡ paired ns xs ++ (n, x) ∷ []
paired_push [] [] n x l = refl
paired_push [] (y ∷ xs) n x l = absurd (omega (arith, l))
paired_push (m ∷ ns) [] n x l = absurd (omega (arith, l))
paired_push (m ∷ ns) (y ∷ xs) n x l = ap (λ es. (m, y) ∷ es) (paired_push ns xs n x (omega (arith, l)))

pub paired_take : {A : Type 0} (k : ℕ) (ns : List Name) (xs : List A) → paired (take k ns) (take k xs) ≡ take k (paired ns xs)
paired_take zero ns xs = refl
paired_take (suc k) [] xs = refl
paired_take (suc k) (n ∷ ns) [] = refl
paired_take (suc k) (n ∷ ns) (x ∷ xs) = ap (λ es. (n, x) ∷ es) (paired_take k ns xs)

pub paired_drop : {A : Type 0} (k : ℕ) (ns : List Name) (xs : List A) → length ns ≡ length xs → paired (drop k ns) (drop k xs) ≡ drop k (paired ns xs)
paired_drop zero ns xs l = refl
paired_drop (suc k) [] [] l = refl
paired_drop (suc k) [] (x ∷ xs) l = absurd (omega (arith, l))
paired_drop (suc k) (n ∷ ns) [] l = absurd (omega (arith, l))
paired_drop (suc k) (n ∷ ns) (x ∷ xs) l = paired_drop k ns xs (omega (arith, l))

pub paired_long : {A : Type 0} (ns : List Name) (xs : List A) → length ns ≡ length xs → length (paired ns xs) ≡ length ns
paired_long [] xs l = refl
paired_long (n ∷ ns) [] l = absurd (omega (arith, l))
paired_long (n ∷ ns) (x ∷ xs) l = omega (arith, paired_long ns xs (omega (arith, l)))

-- what is put in reverse comes first, newest first
pub newest_reversed : {A : Type 0} (ns ms : List Name) (xs ys : List A) → length ns ≡ length xs → length ms ≡ length ys → newest (ns ++ reverse ms) (xs ++ reverse ys) ≡ paired ms ys ++ newest ns xs
newest_reversed ns [] xs [] l k = λ i. newest (append-nil ns i) (append-nil xs i)
newest_reversed ns [] xs (y ∷ ys) l k = absurd (omega (arith, k))
newest_reversed ns (m ∷ ms) xs [] l k = absurd (omega (arith, k))
newest_reversed ns (m ∷ ms) xs (y ∷ ys) l k =
    let rest : length ms ≡ length ys = omega (arith, k) in
    (λ i. newest (ns ++ reverse-append (m ∷ []) ms i) (xs ++ reverse-append (y ∷ []) ys i))
    ∙ (λ i. newest (sym (append_assoc ns (reverse ms) (m ∷ [])) i) (sym (append_assoc xs (reverse ys) (y ∷ [])) i))
    ∙ newest_push (ns ++ reverse ms) (xs ++ reverse ys) m y (omega (arith, length-append ns (reverse ms), length-append xs (reverse ys), length-reverse ms, length-reverse ys, l, rest))
    ∙ ap (λ es. (m, y) ∷ es) (newest_reversed ns ms xs ys l rest)

module _ (t : TableView) where
  -- names that wait by the first of them, and the others
  pub waiting_front : (v : BindingsView) (outer more : Bound) (k : ℕ) → length outer ≡ k → waiting_at t v ≡ outer ++ more → waiting_at t (record { names = take k v.names; terms = take k v.terms }) ≡ outer
  waiting_front v outer more k l e =
      ap (map (named_term t)) (paired_take k v.names v.terms) ∙ sym (take-map (named_term t) k (paired v.names v.terms)) ∙ ap (take k) e ∙ take_at outer more k l

  pub waiting_back : (v : BindingsView) (outer more : Bound) (k : ℕ) → length v.names ≡ length v.terms → length outer ≡ k → waiting_at t v ≡ outer ++ more → map (named_term t) (paired (drop k v.names) (drop k v.terms)) ≡ more
  waiting_back v outer more k long l e =
      ap (map (named_term t)) (paired_drop k v.names v.terms long) ∙ sym (drop-map (named_term t) k (paired v.names v.terms)) ∙ ap (drop k) e ∙ drop_at outer more k l

  pub waiting_push : (v : BindingsView) (n : Name) (id : TermId) → length v.names ≡ length v.terms → waiting_at t (record { names = v.names ++ n ∷ []; terms = v.terms ++ id ∷ [] }) ≡ waiting_at t v ++ (n, term_at t id) ∷ []
  waiting_push v n id long = ap (map (named_term t)) (paired_push v.names v.terms n id long) ∙ map-append (named_term t) (paired v.names v.terms) ((n, id) ∷ [])

  -- as many names as wait
  pub waiting_long : (v : BindingsView) (b : Bound) → length v.names ≡ length v.terms → waiting_at t v ≡ b → length v.names ≡ length b
  waiting_long v b long e = sym (paired_long v.names v.terms long) ∙ sym (length-map (paired v.names v.terms) (named_term t)) ∙ ap length e

  -- the names of pairs
  names_paired : (ns : List Name) (ids : List TermId) → length ns ≡ length ids → bound_names (map (named_term t) (paired ns ids)) ≡ ns
  names_paired [] ids l = refl
  names_paired (n ∷ ns) [] l = absurd (omega (arith, l))
  names_paired (n ∷ ns) (id ∷ ids) l = ap (λ ms. n ∷ ms) (names_paired ns ids (omega (arith, l)))

  dropped_long : {A B : Type 0} (k : ℕ) (xs : List A) (ys : List B) → length xs ≡ length ys → length (drop k xs) ≡ length (drop k ys)
  dropped_long k xs ys l = omega (arith, length-drop k xs, length-drop k ys, l)

  pub waiting_names : (v : BindingsView) (outer more : Bound) (k : ℕ) → length v.names ≡ length v.terms → length outer ≡ k → waiting_at t v ≡ outer ++ more → bound_names more ≡ drop k v.names
  waiting_names v outer more k long l e = sym (ap bound_names (waiting_back v outer more k long l e)) ∙ names_paired (drop k v.names) (drop k v.terms) (dropped_long k v.names v.terms long)

  -- what waited is bound
  pub bound_more : (k : ℕ) (v b u c : BindingsView) (outer more bound : Bound) → HasBound k v b u c → length v.names ≡ length v.terms → length b.names ≡ length b.terms → length outer ≡ k → waiting_at t v ≡ outer ++ more → bound_at t b ≡ bound
      → bound_at t c ≡ more ++ bound
  bound_more k v b u c outer more bound h long also l e is =
      (λ i. map (named_term t) (newest (h.bound_names i) (h.bound_terms i)))
      ∙ ap (map (named_term t)) (newest_reversed b.names (drop k v.names) b.terms (drop k v.terms) also (dropped_long k v.names v.terms long))
      ∙ map-append (named_term t) (paired (drop k v.names) (drop k v.terms)) (newest b.names b.terms)
      ∙ (λ i. waiting_back v outer more k long l e i ++ is i)

  pub waiting_less : (k : ℕ) (v b u c : BindingsView) (outer more : Bound) → HasBound k v b u c → length outer ≡ k → waiting_at t v ≡ outer ++ more → waiting_at t u ≡ outer
  waiting_less k v b u c outer more h l e = (λ i. map (named_term t) (paired (h.names i) (h.terms i))) ∙ waiting_front v outer more k l e

-- names from a place on
pub none_from : (ns : List Name) (n : Name) (k : ℕ) → among ns n ≡ false → among (drop k ns) n ≡ false
none_from ns n zero e = e
none_from [] n (suc k) e = refl
none_from (m ∷ ns) n (suc k) e = none_from ns n k (or_parts (bytes_eq m n) (among ns n) e).1

latest_above : (ns : List Name) (n : Name) (from k : ℕ) → IsLatest ns n k → from ≤ k → among (drop from ns) n ≡ true
latest_above [] n from k h le = absurd (omega (arith, h.inside))
latest_above (m ∷ ns) n zero k h le = is_among (m ∷ ns) n k h.inside h.same
latest_above (m ∷ ns) n (suc from) zero h le = absurd (omega (arith, le))
latest_above (m ∷ ns) n (suc from) (suc k) h le = latest_above ns n from k (record { inside = omega (arith, h.inside); same = h.same; later = λ j lt le. h.later (suc j) (omega (arith, lt)) (omega (arith, le)) }) (omega (arith, le))

latest_below : (ns : List Name) (n : Name) (from k : ℕ) → IsLatest ns n k → k < from → among (drop from ns) n ≡ false
latest_below [] n from k h lt = absurd (omega (arith, h.inside))
latest_below (m ∷ ns) n zero k h lt = absurd (omega (arith, lt))
latest_below (m ∷ ns) n (suc from) zero h lt = none_from ns n from (none_among ns n (λ j lt. h.later (suc j) (omega arith) (omega (arith, lt))))
latest_below (m ∷ ns) n (suc from) (suc k) h lt = latest_below ns n from k (record { inside = omega (arith, h.inside); same = h.same; later = λ j lt le. h.later (suc j) (omega (arith, lt)) (omega (arith, le)) }) (omega (arith, lt))

-- a latest place tells whether the name is one of them
pub latest_from : (ns : List Name) (n : Name) (from k : ℕ) → IsLatest ns n k → nat_le from k ≡ among (drop from ns) n
latest_from ns n from k h = elim (cases_lt k from) [
  | inl lt ↦ (let no : nat_le from k ≡ false = grind (arith, nat_tests, lt) in no ∙ sym (latest_below ns n from k h lt))
  | inr le ↦ (let yes : nat_le from k ≡ true = grind (arith, nat_tests, le) in yes ∙ sym (latest_above ns n from k h le))
]

-- The names that wait from a place on are bound, but for the first of them.
pub record IsBinding (from : ℕ) (v b u c : BindingsView) : Type 0 where
  -- some wait
  pub low : from ≤ length u.names
  -- no more than did
  pub high : length u.names ≤ length v.names
  -- they are the first
  pub names : u.names ≡ take (length u.names) v.names
  -- with their terms
  pub terms : u.terms ≡ take (length u.names) v.terms
  -- the others are bound
  pub bound_names : c.names ≡ b.names ++ reverse (drop (length u.names) v.names)
  -- with their terms
  pub bound_terms : c.terms ≡ b.terms ++ reverse (drop (length u.names) v.terms)

pub binding_begins : (from : ℕ) (v b : BindingsView) → from ≤ length v.names → length v.names ≡ length v.terms → IsBinding from v b v b
binding_begins from v b le long = record {
  low = le;
  high = omega arith;
  names = sym (take_all (length v.names) v.names (omega arith));
  terms = sym (take_all (length v.names) v.terms (omega (arith, long)));
  bound_names = sym (ap (λ ns. b.names ++ reverse ns) (drop_all (length v.names) v.names (omega arith)) ∙ append-nil b.names);
  bound_terms = sym (ap (λ ns. b.terms ++ reverse ns) (drop_all (length v.names) v.terms (omega (arith, long))) ∙ append-nil b.terms);
}

drop_one : {A : Type 0} (xs : List A) (k : ℕ) (d : A) → k < length xs → drop k xs ≡ get_or xs k d ∷ drop (suc k) xs
drop_one [] k d lt = absurd (omega (arith, lt))
drop_one (x ∷ xs) zero d lt = refl
drop_one (x ∷ xs) (suc k) d lt = drop_one xs k d (omega (arith, lt))

reversed_one : {A : Type 0} (ys xs : List A) (k : ℕ) (d : A) → k < length xs → (ys ++ reverse (drop (suc k) xs)) ++ get_or xs k d ∷ [] ≡ ys ++ reverse (drop k xs)
reversed_one ys xs k d lt =
    append_assoc ys (reverse (drop (suc k) xs)) (get_or xs k d ∷ [])
    ∙ ap (λ zs. ys ++ zs) (sym (reverse-append (get_or xs k d ∷ []) (drop (suc k) xs)))
    ∙ ap (λ zs. ys ++ reverse zs) (sym (drop_one xs k d lt))

pub binding_goes_on : (from : ℕ) (v b u c : BindingsView) (k : ℕ) (n : Name) (id d : TermId) → IsBinding from v b u c → length v.names ≡ length v.terms → from < length u.names → length u.names ≡ suc k
    → n ≡ get_or u.names k [] → id ≡ get_or u.terms k d
    → IsBinding from v b (record { names = take k u.names; terms = take k u.terms }) (record { names = c.names ++ n ∷ []; terms = c.terms ++ id ∷ [] })
binding_goes_on from v b u c k n id d h long some count n_is id_is =
    let short : length (take k u.names) ≡ k = omega (arith, length-take k u.names, count) in
    let at_v : k < length v.names = omega (arith, count, h.high) in
    let name_is : n ≡ get_or v.names k [] = n_is ∙ ap (λ ns. get_or ns k []) h.names ∙ get_or-take (length u.names) v.names k [] (omega (arith, count)) in
    let term_is : id ≡ get_or v.terms k d = id_is ∙ ap (λ ns. get_or ns k d) h.terms ∙ get_or-take (length u.names) v.terms k d (omega (arith, count)) in
    record {
      low = omega (arith, short, some, count);
      high = omega (arith, short, at_v);
      names = ap (take k) h.names ∙ take-take k (length u.names) v.names (omega (arith, count)) ∙ ap (λ m. take m v.names) (sym short);
      terms = ap (take k) h.terms ∙ take-take k (length u.names) v.terms (omega (arith, count)) ∙ ap (λ m. take m v.terms) (sym short);
      bound_names = (λ i. (h.bound_names i) ++ name_is i ∷ []) ∙ ap (λ m. (b.names ++ reverse (drop m v.names)) ++ get_or v.names k [] ∷ []) count ∙ reversed_one b.names v.names k [] at_v ∙ ap (λ m. b.names ++ reverse (drop m v.names)) (sym short);
      bound_terms = (λ i. (h.bound_terms i) ++ term_is i ∷ []) ∙ ap (λ m. (b.terms ++ reverse (drop m v.terms)) ++ get_or v.terms k d ∷ []) count ∙ reversed_one b.terms v.terms k d (omega (arith, at_v, long)) ∙ ap (λ m. b.terms ++ reverse (drop m v.terms)) (sym short);
    }

pub binding_ends : (from : ℕ) (v b u c : BindingsView) → IsBinding from v b u c → length u.names ≡ from → HasBound from v b u c
binding_ends from v b u c h e = record {
  names = h.names ∙ ap (λ m. take m v.names) e;
  terms = h.terms ∙ ap (λ m. take m v.terms) e;
  bound_names = h.bound_names ∙ ap (λ m. b.names ++ reverse (drop m v.names)) e;
  bound_terms = h.bound_terms ∙ ap (λ m. b.terms ++ reverse (drop m v.terms)) e;
}

-- the ends of one list that are as long are the same
suffix_same : {A : Type 0} (a b c d : List A) → a ++ b ≡ c ++ d → length b ≡ length d → b ≡ d
suffix_same a b c d e l =
    let long : length a ≡ length c = omega (arith, ap length e, length-append a b, length-append c d, l) in
    sym (drop_at a b (length a) refl) ∙ ap (drop (length a)) e ∙ drop_at c d (length a) (sym long)

newest_split : {A : Type 0} (k : ℕ) (ns : List Name) (xs : List A) → length ns ≡ length xs → newest ns xs ≡ newest (drop k ns) (drop k xs) ++ newest (take k ns) (take k xs)
newest_split zero ns xs l = sym (append-nil (newest ns xs))
newest_split (suc k) [] [] l = refl
newest_split (suc k) [] (x ∷ xs) l = absurd (omega (arith, l))
newest_split (suc k) (n ∷ ns) [] l = absurd (omega (arith, l))
newest_split (suc k) (n ∷ ns) (x ∷ xs) l = ap (λ es. es ++ (n, x) ∷ []) (newest_split k ns xs (omega (arith, l))) ∙ append_assoc (newest (drop k ns) (drop k xs)) (newest (take k ns) (take k xs)) ((n, x) ∷ [])

newest_long : {A : Type 0} (ns : List Name) (xs : List A) → length ns ≡ length xs → length (newest ns xs) ≡ length ns
newest_long [] xs l = refl
newest_long (n ∷ ns) [] l = absurd (omega (arith, l))
newest_long (n ∷ ns) (x ∷ xs) l = omega (arith, length-append (newest ns xs) ((n, x) ∷ []), newest_long ns xs (omega (arith, l)))

-- the names that were bound before others
pub bound_front : (t : TableView) (v : BindingsView) (inner outer : Bound) (k : ℕ) → length v.names ≡ length v.terms → bound_at t v ≡ inner ++ outer → length outer ≡ k → bound_at t (record { names = take k v.names; terms = take k v.terms }) ≡ outer
bound_front t v inner outer k long e l =
    let parts : map (named_term t) (newest (drop k v.names) (drop k v.terms)) ++ bound_at t (record { names = take k v.names; terms = take k v.terms }) ≡ inner ++ outer =
    sym (map-append (named_term t) (newest (drop k v.names) (drop k v.terms)) (newest (take k v.names) (take k v.terms))) ∙ ap (map (named_term t)) (sym (newest_split k v.names v.terms long)) ∙ e in
    let all : length v.names ≡ length inner + k = omega (arith, sym (newest_long v.names v.terms long) ∙ sym (length-map (newest v.names v.terms) (named_term t)) ∙ ap length e ∙ length-append inner outer, l) in
    let taken : length (take k v.names) ≡ k = omega (arith, length-take k v.names, all) in
    let also : length (take k v.terms) ≡ k = omega (arith, length-take k v.terms, all, long) in
    suffix_same (map (named_term t) (newest (drop k v.names) (drop k v.terms))) (bound_at t (record { names = take k v.names; terms = take k v.terms })) inner outer parts
    (length-map (newest (take k v.names) (take k v.terms)) (named_term t) ∙ newest_long (take k v.names) (take k v.terms) (taken ∙ sym also) ∙ taken ∙ sym l)

-- as many terms as names are bound
pub bound_long : (t : TableView) (v : BindingsView) (b : Bound) → length v.names ≡ length v.terms → bound_at t v ≡ b → length b ≡ length v.names
bound_long t v b long e = ap length (sym e) ∙ length-map (newest v.names v.terms) (named_term t) ∙ newest_long v.names v.terms long
