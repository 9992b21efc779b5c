-- Where propagation is quiet, a clause says something new.
use Rattle.std.proofs.Common.{◌≡◌, ◌≢◌, ℕ, ◌<◌, ◌⊎◌, Bool, true, false, cond, List, [], ◌∷◌, length, get_or, Contains, inl, inr, refl, sym, ap, ◌∙◌, subst, zero, suc, arith}
use Rattle.std.specs.List.{AllByRecursion}
use Rattle.std.specs.Bool.{Decides, beq}
use Rattle.std.proofs.lemmas.Bool.{false≢true}
use Rattle.std.proofs.lemmas.Bool.Decides.{Decides-and, Decides-like}
use Rattle.std.specs.Cmp.{booleans_Decides}
use Rattle.std.proofs.lemmas.List.Elements.{All-contains, All-from_recursion}
use Rattle.spec_text.proofs.Members.{first, later, none}
use Rattle.spec_sorts.specs.Terms.{same_term}
use Rattle.spec_sorts.specs.Literals.{Literal, complement}
use Rattle.spec_sorts.proofs.SameTerms.{terms_decide}
use Rattle.spec_proofs.specs.Resolution.{given, unit, false_clause}
use Rattle.spec_derivations.specs.Quiet.{IsQuiet, IsConsistent, OthersFail}
use Rattle.spec_derivations.proofs.Quiet.{derived_holds, none_conflicts}
use Rattle.spec_derivations.specs.Learned.{same_literal, others, IsOpenIn, IsNew}

-- the test of literals tells whether they are one
pub literals_decide : (l m : Literal) → Decides (same_literal l m) (l ≡ m)
literals_decide l m = Decides-like (same_literal l m)
    (λ h. (λ i. record { atom = h.0 i; positive = h.1 i }))
    (λ e. (ap (λ (x : Literal). x.atom) e, ap (λ (x : Literal). x.positive) e))
    (Decides-and (same_term l.atom m.atom) (beq l.positive m.positive) (terms_decide l.atom m.atom) (booleans_Decides l.positive m.positive))

pub decide_literals : (l m : Literal) → (l ≡ m) ⊎ (l ≢ m)
decide_literals l m = go (same_literal l m) (literals_decide l m)
  where
    go : (b : Bool) → Decides b (l ≡ m) → (l ≡ m) ⊎ (l ≢ m)
    go true d = inl (d.0 refl)
    go false d = inr (λ e. false≢true (d.1 e))

-- what is so of the complement of each other literal
others_all : (P : Literal → Type 0) (clause : List Literal) (l : Literal) → ((m : Literal) → Contains clause m → m ≢ l → P (complement m)) → AllByRecursion P (others clause l)
others_all P [] l h = tt
others_all P (m ∷ ms) l h = go (same_literal m l) (literals_decide m l) (others_all P ms l (λ n i d. h n (later m ms n i) d))
  where
    go : (b : Bool) → Decides b (m ≡ l) → AllByRecursion P (others ms l) → AllByRecursion P (cond b (others ms l) (complement m ∷ others ms l))
    go true d rest = rest
    go false d rest = (h m (first m ms) (λ e. absurd (false≢true (d.1 e))), rest)

-- each other literal's complement is among them
pub others_there : (clause : List Literal) (l m : Literal) → Contains clause m → m ≢ l → Contains (others clause l) (complement m)
others_there [] l m h d = absurd (none m h)
others_there (x ∷ xs) l m (k, lt, e) d = at k lt e (λ i. others_there xs l m i d)
  where
    at : (k : ℕ) → k < length (x ∷ xs) → get_or (x ∷ xs) k m ≡ m → (Contains xs m → Contains (others xs l) (complement m)) → Contains (others (x ∷ xs) l) (complement m)
    at zero lt e rest = go (same_literal x l) (literals_decide x l)
      where
        go : (b : Bool) → Decides b (x ≡ l) → Contains (cond b (others xs l) (complement x ∷ others xs l)) (complement m)
        go true same = absurd (d (sym e ∙ same.0 refl))
        go false same = (zero, omega arith, ap complement e)
    at (suc k) lt e rest = go (same_literal x l)
      where
        there : Contains (others xs l) (complement m)
        there = rest (k, omega (arith, lt), e)

        go : (b : Bool) → Contains (cond b (others xs l) (complement x ∷ others xs l)) (complement m)
        go true = there
        go false = later (complement x) (others xs l) (complement m) there

others_held : (clause : List Literal) (l : Literal) (held : List Literal) → OthersFail complement held clause l → (m : Literal) → Contains (others clause l) m → Contains held m
others_held clause l held h m i = All-contains (Contains held) (others clause l) m (All-from_recursion (Contains held) (others clause l) (others_all (Contains held) clause l h)) i

-- a clause whose literals but one are false, where propagation is quiet, says what it does not give
pub quiet_is_new : (premises : List (List Literal)) (held : List Literal) (clause : List Literal) (l : Literal) → IsQuiet complement premises held → IsConsistent complement held → Contains clause l → (Contains held l → ⊥) → OthersFail complement held clause l → IsOpenIn premises clause l
quiet_is_new premises held clause l quiet consistent there free rest =
    let started = others_held clause l held rest in
    record {
      there = there;
      not_given = λ d. free (derived_holds complement decide_literals premises (others clause l) held quiet consistent started l d);
      no_conflict = none_conflicts complement decide_literals premises (others clause l) held quiet consistent started;
    }

-- a clause that contains a premise is not new
pub contains_none : (premises : List (List Literal)) (clause d : List Literal) → Contains premises d → ((m : Literal) → Contains d m → Contains clause m) → IsNew premises clause → ⊥
contains_none premises clause d d_in within new =
    let l = new.0 in
    new.1.no_conflict (false_clause d d_in (λ m i. elim (decide_literals m l) [
      | inl e ↦ absurd (new.1.not_given (unit d l d_in (subst (λ (x : Literal). Contains d x) e i) (λ n j differ. given (complement n) (others_there clause l n (within n j) differ))))
      | inr differ ↦ given (complement m) (others_there clause l m (within m i) differ)
    ]))
