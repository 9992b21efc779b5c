-- Names by their numbers.
use Rattle.std.proofs.Common.{◌≡◌, ℕ, ◌<◌, true, false, ◌||◌, if◌then◌else◌, List, [], ◌∷◌, ◌++◌, length, map, take, Some, get_or, refl, sym, ap, ◌∙◌, subst, true≢false, arith}
use Rattle.std.specs.List.{list_any, position}
use Rattle.std.specs.Str.{bytes_eq}
use Rattle.std.proofs.lemmas.Bool.Decides.{same_from_decides, Decides-like}
use Rattle.std.proofs.lemmas.Slice.Eq.{bytes_eq-Decides}
use Rattle.std.proofs.lemmas.List.Quantifiers.{position-Some}
use Rattle.std.proofs.lemmas.List.Folds.{list_any_at}
use Rattle.std.proofs.lemmas.Grind.{common_steps}
use Rattle.std.proofs.lemmas.List.{length-map, map-append, get_or-map}
use Rattle.indexmap.specs.IndexSet.{insert_key}
use Rattle.spec_text.specs.Bytes.{among}
use Rattle.term_core.specs.NameLists.{AreApart, HaveNoTwice}

pub same_bytes : (m n : List ℕ) → bytes_eq m n ≡ true → m ≡ n
same_bytes m n h = (bytes_eq-Decides m n).0 h

pub bytes_same : (m n : List ℕ) → m ≡ n → bytes_eq m n ≡ true
bytes_same m n h = (bytes_eq-Decides m n).1 h

pub bytes_eq-sym : (m n : List ℕ) → bytes_eq m n ≡ bytes_eq n m
bytes_eq-sym m n = same_from_decides _ _ (bytes_eq-Decides m n) (Decides-like _ sym sym (bytes_eq-Decides n m))

-- the words of the set's look-ups, as `among`
pub among-any : {V : Type 0} (items : V → List ℕ) (vs : List V) (n : List ℕ) → among (map items vs) n ≡ list_any (λ v. bytes_eq n (items v)) vs
among-any items [] n = refl
among-any items (v ∷ vs) n = λ i. bytes_eq-sym (items v) n i || among-any items vs n i

among-is_any : (ns : List (List ℕ)) (n : List ℕ) → among ns n ≡ list_any (λ m. bytes_eq m n) ns
among-is_any [] n = refl
among-is_any (m ∷ ns) n = ap (λ b. bytes_eq m n || b) (among-is_any ns n)

-- a name that is not among them has no number
pub not_there : (ns : List (List ℕ)) (n : List ℕ) (k : ℕ) → among ns n ≡ false → k < length ns → get_or ns k [] ≡ n → ⊥
not_there ns n k h within e = true≢false (sym (list_any_at (λ m. bytes_eq m n) ns k [] within (bytes_same _ _ e)) ∙ sym (among-is_any ns n) ∙ h)

pub AreApart-push : {T : Type 0} (none : T) (xs : List T) (x : T) → AreApart none xs → ((k : ℕ) → k < length xs → get_or xs k none ≡ x → ⊥) → AreApart none (xs ++ x ∷ [])
AreApart-push none xs x apart new i j in_i in_j e = grind (arith, common_steps, apart i j, new i, new j)

pub AreApart-take : {T : Type 0} (none : T) (xs : List T) (n : ℕ) → AreApart none xs → AreApart none (take n xs)
AreApart-take none xs n apart i j in_i in_j e = grind (arith, common_steps, apart i j)

pub HaveNoTwice-push : (ns : List (List ℕ)) (n : List ℕ) → HaveNoTwice ns → among ns n ≡ false → HaveNoTwice (ns ++ n ∷ [])
HaveNoTwice-push ns n apart new = AreApart-push [] ns n apart (λ k within. not_there ns n k new within)

module _ {V : Type 0} (items : V → List ℕ) where
  -- what a look-up found
  pub found : (vs : List V) (n : List ℕ) (k : ℕ) → position (λ v. bytes_eq n (items v)) vs ≡ Some k
      → (k < length (map items vs)) × (get_or (map items vs) k [] ≡ n)
  found [] n k h = cc
  found (v ∷ vs) n k h =
      let p = position-Some (λ u. bytes_eq n (items u)) (v ∷ vs) k v h in
      (subst (λ l. k < l) (sym (length-map (v ∷ vs) items)) p.0, get_or-map items (v ∷ vs) k v [] p.0 ∙ sym (same_bytes _ _ p.1))

  -- a new name's copy is last
  pub pushed : (old new : List V) (copy : V) (n : List ℕ) → among (map items old) n ≡ false → items copy ≡ n
      → new ≡ insert_key (λ u v. bytes_eq (items u) (items v)) old copy → map items new ≡ map items old ++ n ∷ []
  pushed old new copy n absent is keys =
      let none : list_any (λ v. bytes_eq (items copy) (items v)) old ≡ false =
      ap (λ m. list_any (λ v. bytes_eq m (items v)) old) is ∙ sym (among-any items old n) ∙ absent in
      let last : new ≡ old ++ copy ∷ [] = keys ∙ ap (λ b. if b then old else old ++ copy ∷ []) none in
      ap (map items) last ∙ map-append items old (copy ∷ []) ∙ ap (λ m. map items old ++ m ∷ []) is
