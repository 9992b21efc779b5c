-- The lists of the clauses in which a literal occurs.
use Rattle.std.proofs.Common.{◌≡◌, ℕ, ◌+◌, ◌<◌, ◌≤◌, ◌==◌, not, zero, suc, Bool, true, false, List, [], ◌∷◌, ◌++◌, length, get_or, set, position, Some, slice_get, Contains, All, inl, inr, sym, ap, ◌∙◌, subst, refl, arith, if◌then◌else◌}
use Rattle.std.specs.Prelude.{Vec}
use Rattle.std.specs.declared.alloc.Global.{Global}
use Rattle.std.specs.List.{list_any}
use Rattle.std.proofs.lemmas.Bool.{false≢true, eqb-true, eq-eqb}
use Rattle.std.proofs.lemmas.Bool.Decides.{nat_tests}
use Rattle.std.proofs.lemmas.List.{get_or_append_left, get_or_default, get_or-set_same, get_or-set_other, get_or-map, length-map, length-set, length_push, map_push, map-set}
use Rattle.std.proofs.lemmas.List.Elements.{All-nil, All-push, All-set, All-get_or, Contains-push, Contains-push_cases, Contains-append_left}
use Rattle.std.proofs.lemmas.List.Quantifiers.{position-Some}
use Rattle.std.proofs.lemmas.Option.{slice_get_within, get_or_from_slice_get}
use Rattle.spec_text.proofs.Members.{cases}
use Rattle.indexmap.specs.IndexSet.{insert_key}
use Rattle.term_core.specs.declared.ids.Lit.{Lit}
use Rattle.term_core.specs.contracts.ids.LitPartialEq.TheImpl.{ghosts}
use Rattle.clause_literals.specs.Literals.{HasNoTwice, lists}
use Rattle.clause_literals.specs.Occurring.{OccurrencesFit, IsListed, Places, Notes, IsIndexOf, OccursIn, AreBelow}
use Rattle.clause_literals.specs.declared.occurrences.Occurrences.{Occurrences}
use Rattle.clause_literals.proofs.LiteralLists.{equal_is, contains_by}
use Rattle.clause_literals.proofs.Counting.{Contains-first}

-- a literal is at one place
same_place : (ls : List Lit) → HasNoTwice ls → (d : Lit) (i j : ℕ) → i < length ls → j < length ls → get_or ls i d ≡ get_or ls j d → i ≡ j
same_place [] h d i j il jl e = absurd (omega (arith, il))
same_place (x ∷ xs) h d zero zero il jl e = refl
same_place (x ∷ xs) h d zero (suc j) il jl e = absurd (h.0 (j, omega (arith, jl), get_or_default xs j x d (omega (arith, jl)) ∙ sym e))
same_place (x ∷ xs) h d (suc i) zero il jl e = absurd (h.0 (i, omega (arith, il), get_or_default xs i x d (omega (arith, il)) ∙ e))
same_place (x ∷ xs) h d (suc i) (suc j) il jl e = ap suc (same_place xs h.1 d i j (omega (arith, il)) (omega (arith, jl)) e)

-- ---- a look-up

abbrev numbers : Vec ℕ Global → List ℕ
numbers v = v.items

-- the numbers of a list, by its place
pub list_at : (vs : List (Vec ℕ Global)) (i : ℕ) (v : Vec ℕ Global) → i < length vs → v ≡ get_or vs i v → v.items ≡ get_or (lists vs) i []
list_at vs i v lt e = ap numbers e ∙ sym (get_or-map numbers vs i v [] lt)

-- what a list is below
pub list_below : (n : ℕ) (ls : List (List ℕ)) (i : ℕ) (list : List ℕ) → i < length ls → list ≡ get_or ls i [] → All (λ ks. All (λ k. k < n) ks) ls → All (λ k. k < n) list
list_below n ls i list lt is all = subst (λ (ks : List ℕ). All (λ k. k < n) ks) (sym is) (All-get_or (λ ks. All (λ k. k < n) ks) ls i [] lt all)

-- the list at the place of the literal
pub found_list : (keys : List Lit) → HasNoTwice keys → (ls : List (List ℕ)) (l : Lit) (index : ℕ) → position (ghosts.eq l) keys ≡ Some index → (list : List ℕ) → list ≡ get_or ls index [] → (k : ℕ) → IsListed keys ls l k → Contains list k
found_list keys once ls l index e list is k h =
    let p = position-Some (ghosts.eq l) keys index l e in
    let s : h.0 ≡ index = same_place keys once l h.0 index h.1 p.0 (h.2 ∙ equal_is l (get_or keys index l) p.1) in
    subst (λ (ks : List ℕ). Contains ks k) (ap (λ i. get_or ls i []) s ∙ sym is) h.3

-- a literal that has no place
pub found_none : (keys : List Lit) (ls : List (List ℕ)) (l : Lit) → false ≡ list_any (ghosts.eq l) keys → (k : ℕ) → IsListed keys ls l k → ⊥
found_none keys ls l e k h = contains_by keys l false e (h.0, h.1, h.2)

-- ---- a place

-- one more literal, with an empty list
module _ (keys : List Lit) (ls : List (List ℕ)) (l : Lit) (paired : length keys ≡ length ls) where
  pub listed_on : (m : Lit) (k : ℕ) → IsListed keys ls m k → IsListed (keys ++ l ∷ []) (ls ++ [] ∷ []) m k
  listed_on m k h = (
    h.0,
    omega (arith, h.1, length_push keys l),
    get_or_append_left keys (l ∷ []) m h.0 h.1 ∙ h.2,
    subst (λ (ks : List ℕ). Contains ks k) (sym (get_or_append_left ls ([] ∷ []) [] h.0 (omega (arith, h.1, paired)))) h.3,
  )

-- what an insert leaves
pub last_of : (keys new : List Lit) (l : Lit) → true ≡ not (list_any (ghosts.eq l) keys) → new ≡ insert_key ghosts.eq keys l → new ≡ keys ++ l ∷ []
last_of keys new l a e = e ∙ ap (λ c. if c then keys else keys ++ l ∷ []) (flipped (list_any (ghosts.eq l) keys) a)
  where
    flipped : (b : Bool) → true ≡ not b → b ≡ false
    flipped true h = h
    flipped false h = refl

pub same_as : (keys new : List Lit) (l : Lit) → false ≡ not (list_any (ghosts.eq l) keys) → new ≡ insert_key ghosts.eq keys l → new ≡ keys
same_as keys new l a e = e ∙ ap (λ c. if c then keys else keys ++ l ∷ []) (flipped (list_any (ghosts.eq l) keys) a)
  where
    flipped : (b : Bool) → false ≡ not b → b ≡ true
    flipped true h = refl
    flipped false h = h

pub stored_at : (new : List Lit) (l : Lit) (index : ℕ) → ((k : Lit) × (slice_get new index ≡ Some k) × (ghosts.eq l k ≡ true)) → (index < length new) × (get_or new index l ≡ l)
stored_at new l index s = (slice_get_within new index s.0 s.1, get_or_from_slice_get new index s.0 l s.1 ∙ sym (equal_is l s.0 s.2))

-- a new literal gets an empty list
pub placed_new : (old new : Occurrences) (l : Lit) (index : ℕ) → OccurrencesFit old → new.literals.keys ≡ old.literals.keys ++ l ∷ [] → HasNoTwice new.literals.keys
    → (v : Vec ℕ Global) → v.items ≡ [] → new.lists.items ≡ old.lists.items ++ v ∷ [] → (index < length new.literals.keys) × (get_or new.literals.keys index l ≡ l) → Places old l index new
placed_new old new l index whole keys once v empty pushed s =
    let ls : lists new.lists.items ≡ lists old.lists.items ++ [] ∷ [] = ap lists pushed ∙ map_push numbers old.lists.items v ∙ ap (λ (ks : List ℕ). lists old.lists.items ++ ks ∷ []) empty in
    let paired : length old.literals.keys ≡ length (lists old.lists.items) = rw length-map whole.paired in
    record {
      whole = record { paired = ap length keys ∙ length_push old.literals.keys l ∙ ap (λ n. n + 1) whole.paired ∙ sym (length_push old.lists.items v) ∙ sym (ap length pushed); once = once };
      within = s.0;
      stored = s.1;
      kept = λ m k h. subst (λ (ks : List Lit). IsListed ks (lists new.lists.items) m k) (sym keys) (subst (λ (xs : List (List ℕ)). IsListed (old.literals.keys ++ l ∷ []) xs m k) (sym ls) (listed_on old.literals.keys (lists old.lists.items) l paired m k h));
      below = λ n all. subst (λ (xs : List (List ℕ)). All (λ ks. All (λ k. k < n) ks) xs) (sym ls) (All-push (λ ks. All (λ k. k < n) ks) (lists old.lists.items) [] all (All-nil (λ k. k < n)));
    }

-- one that is there keeps its list
pub placed_old : (old new : Occurrences) (l : Lit) (index : ℕ) → OccurrencesFit old → new.literals.keys ≡ old.literals.keys → new.lists.items ≡ old.lists.items → (index < length new.literals.keys) × (get_or new.literals.keys index l ≡ l) → Places old l index new
placed_old old new l index whole keys ls s = record {
  whole = record { paired = ap length keys ∙ whole.paired ∙ sym (ap length ls); once = subst HasNoTwice (sym keys) whole.once };
  within = s.0;
  stored = s.1;
  kept = λ m k h. subst (λ (ks : List Lit). IsListed ks (lists new.lists.items) m k) (sym keys) (subst (λ (xs : List (Vec ℕ Global)). IsListed old.literals.keys (lists xs) m k) (sym ls) h);
  below = λ n all. subst (λ (xs : List (Vec ℕ Global)). All (λ ks. All (λ k. k < n) ks) (lists xs)) (sym ls) all;
}

-- ---- a number

-- one more number in the list at a place
abbrev pub noted : List (List ℕ) → ℕ → ℕ → List (List ℕ)
noted ls index number = set ls index (get_or ls index [] ++ number ∷ [])

module _ (keys : List Lit) (ls : List (List ℕ)) (index number : ℕ) (within : index < length ls) where
  pub noted_kept : (m : Lit) (k : ℕ) → IsListed keys ls m k → IsListed keys (noted ls index number) m k
  noted_kept m k h = go (index == h.0) refl
    where
      go : (b : Bool) → (index == h.0) ≡ b → IsListed keys (noted ls index number) m k
      go true e =
          let s = eqb-true index h.0 e in
          let here : get_or (noted ls index number) h.0 [] ≡ get_or ls h.0 [] ++ number ∷ [] = ap (λ i. get_or (noted ls index number) i []) (sym s) ∙ get_or-set_same ls index (get_or ls index [] ++ number ∷ []) [] within ∙ ap (λ i. get_or ls i [] ++ number ∷ []) s in
          (h.0, h.1, h.2, subst (λ (ks : List ℕ). Contains ks k) (sym here) (Contains-append_left (get_or ls h.0 []) (number ∷ []) k h.3))
      go false e =
          let other : get_or (noted ls index number) h.0 [] ≡ get_or ls h.0 [] = get_or-set_other ls index h.0 (get_or ls index [] ++ number ∷ []) [] (λ s. false≢true (sym e ∙ eq-eqb index h.0 (sym s))) in
          (h.0, h.1, h.2, subst (λ (ks : List ℕ). Contains ks k) (sym other) h.3)

  pub noted_added : (l : Lit) → index < length keys → get_or keys index l ≡ l → IsListed keys (noted ls index number) l number
  noted_added l lt stored = (index, lt, stored, subst (λ (ks : List ℕ). Contains ks number) (sym (get_or-set_same ls index (get_or ls index [] ++ number ∷ []) [] within)) (Contains-push (get_or ls index []) number))

  pub noted_below : (n : ℕ) → number < n → All (λ ks. All (λ k. k < n) ks) ls → All (λ ks. All (λ k. k < n) ks) (noted ls index number)
  noted_below n lt all = All-set (λ ks. All (λ k. k < n) ks) ls index (get_or ls index [] ++ number ∷ []) (All-push (λ k. k < n) (get_or ls index []) number (All-get_or (λ ks. All (λ k. k < n) ks) ls index [] within all) lt) all

-- a place with one more number
pub notes_one : (old mid new : Occurrences) (l : Lit) (index number : ℕ) → Places old l index mid → new.literals.keys ≡ mid.literals.keys
    → (v w : Vec ℕ Global) → v ≡ get_or mid.lists.items index v → w.items ≡ v.items ++ number ∷ [] → new.lists.items ≡ set mid.lists.items index w → Notes old (l ∷ []) number new
notes_one old mid new l index number p keys v w read pushed written =
    let lt : index < length mid.lists.items = omega (arith, p.within, p.whole.paired) in
    let low : index < length (lists mid.lists.items) = rw length-map lt in
    let ls : lists new.lists.items ≡ noted (lists mid.lists.items) index number = ap lists written ∙ map-set numbers mid.lists.items index w ∙ ap (λ (ks : List ℕ). set (lists mid.lists.items) index ks) (pushed ∙ ap (λ (ks : List ℕ). ks ++ number ∷ []) (list_at mid.lists.items index v lt read)) in
    let listed : (m : Lit) (k : ℕ) → IsListed mid.literals.keys (noted (lists mid.lists.items) index number) m k → OccursIn new m k = λ m k h. subst (λ (ks : List Lit). IsListed ks (lists new.lists.items) m k) (sym keys) (subst (λ (xs : List (List ℕ)). IsListed mid.literals.keys xs m k) (sym ls) h) in
    record {
      whole = record { paired = ap length keys ∙ p.whole.paired ∙ sym (ap length written ∙ length-set mid.lists.items index w); once = subst HasNoTwice (sym keys) p.whole.once };
      kept = λ m k h. listed m k (noted_kept mid.literals.keys (lists mid.lists.items) index number low m k (p.kept m k h));
      added = λ m i. elim (cases l [] m i) [
        | inl e ↦ subst (λ (x : Lit). OccursIn new x number) e (listed l number (noted_added mid.literals.keys (lists mid.lists.items) index number low l p.within p.stored))
        | inr none ↦ absurd (omega (arith, none.1))
      ];
      below = λ n nt all. subst (λ (xs : List (List ℕ)). All (λ ks. All (λ k. k < n) ks) xs) (sym ls) (noted_below mid.literals.keys (lists mid.lists.items) index number low n nt (p.below n all));
    }

-- nothing is noted at first
pub notes_none : (w : Occurrences) (number : ℕ) → OccurrencesFit w → Notes w [] number w
notes_none w number whole = record { whole = whole; kept = λ m k h. h; added = λ m i. absurd (omega (arith, i.1)); below = λ n lt all. all }

-- one literal after others
pub notes_more : (old mid new : Occurrences) (front : List Lit) (l : Lit) (number : ℕ) → Notes old front number mid → Notes mid (l ∷ []) number new → Notes old (front ++ l ∷ []) number new
notes_more old mid new front l number a b = record {
  whole = b.whole;
  kept = λ m k h. b.kept m k (a.kept m k h);
  added = λ m i. elim (Contains-push_cases front l m i) [ inl was ↦ b.kept m number (a.added m was) | inr e ↦ b.added m (Contains-first [] l m e) ];
  below = λ n lt all. b.below n lt (a.below n lt all);
}

-- the first n clauses are in the lists
pub record HasIndexed (w : Occurrences) (clauses : List (List Lit)) (n : ℕ) : Type 0 where
  pub whole : OccurrencesFit w
  pub below : AreBelow (length clauses) w
  pub complete : (k : ℕ) (l : Lit) → k < n → Contains (get_or clauses k []) l → OccursIn w l k

pub indexed_none : (w : Occurrences) (clauses : List (List Lit)) → w.literals.keys ≡ [] → w.lists.items ≡ [] → HasIndexed w clauses 0
indexed_none w clauses keys ls = record {
  whole = record { paired = ap length keys ∙ sym (ap length ls); once = subst HasNoTwice (sym keys) tt };
  below = subst (λ (xs : List (Vec ℕ Global)). All (λ ks. All (λ k. k < length clauses) ks) (lists xs)) (sym ls) (All-nil (λ ks. All (λ k. k < length clauses) ks));
  complete = λ k l lt i. absurd (omega (arith, lt));
}

pub indexed_more : (old new : Occurrences) (clauses : List (List Lit)) (n : ℕ) (c : List Lit) → n < length clauses → c ≡ get_or clauses n [] → HasIndexed old clauses n → Notes old c n new → HasIndexed new clauses (n + 1)
indexed_more old new clauses n c lt is h a = record {
  whole = a.whole;
  below = a.below (length clauses) lt h.below;
  complete = λ k l kt i. go k l kt i (k == n) refl;
}
  where
    go : (k : ℕ) (l : Lit) → k < n + 1 → Contains (get_or clauses k []) l → (b : Bool) → (k == n) ≡ b → OccursIn new l k
    go k l kt i true e =
        let s = eqb-true k n e in
        subst (λ j. OccursIn new l j) (sym s) (a.added l (subst (λ (d : List Lit). Contains d l) (ap (λ j. get_or clauses j []) s ∙ sym is) i))
    go k l kt i false e =
        let l2 : k < n = grind (arith, nat_tests) in
        a.kept l k (h.complete k l l2 i)

pub indexed_all : (w : Occurrences) (clauses : List (List Lit)) (n : ℕ) → length clauses ≤ n → HasIndexed w clauses n → IsIndexOf w clauses
indexed_all w clauses n all h = record { whole = h.whole; below = h.below; complete = λ k l lt i. h.complete k l (omega (arith, lt, all)) i }
