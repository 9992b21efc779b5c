-- Which terms are in place, how many they are, and how deep.
use Rattle.std.proofs.Common.{◌≡◌, ◌≢◌, ◌≤◌, ◌<◌, ℕ, zero, suc, ◌+◌, Bool, true, false, cond, ◌&&◌, List, [], ◌∷◌, length, take, get_or, Some, Contains, refl, sym, ◌∙◌, arith}
use Rattle.std.specs.Prelude.{nat_eq, nat_lt}
use Rattle.std.specs.List.{slice_get}
use Rattle.std.proofs.lemmas.Bool.{false≢true}
use Rattle.std.proofs.lemmas.Bool.Decides.{nat_tests}
use Rattle.std.proofs.lemmas.Option.{none-some, same_Some, slice_get-get_or}
use Rattle.spec_text.proofs.Members.{later}
use Rattle.spec_sorts.specs.Terms.{Term, no_term}
use Rattle.spec_proof_texts.specs.Lines.{level_limit, place_limit}
use Rattle.spec_proof_texts.specs.Plans.{how_many, height_over, AreHeights}

-- the terms whose height is above 0
abbrev pub placed_by : List ℕ → List Term → List Term
placed_by (zero ∷ ns) (t ∷ ts) = placed_by ns ts
placed_by (suc n ∷ ns) (t ∷ ts) = t ∷ placed_by ns ts
placed_by _ _ = []

pub placed_there : (ns : List ℕ) (ts : List Term) (j : ℕ) (u : Term) (m : ℕ) → slice_get ts j ≡ Some u → get_or ns j 0 ≡ suc m → Contains (placed_by ns ts) u
placed_there ns [] j u m at e = absurd (none-some u at)
placed_there [] (t ∷ ts) j u m at e = absurd (omega (arith, e))
placed_there (zero ∷ ns) (t ∷ ts) zero u m at e = absurd (omega (arith, e))
placed_there (suc n ∷ ns) (t ∷ ts) zero u m at e = ap_first (same_Some t u at)
  where
    ap_first : t ≡ u → Contains (t ∷ placed_by ns ts) u
    ap_first same = (zero, omega arith, same)
placed_there (zero ∷ ns) (t ∷ ts) (suc j) u m at e = placed_there ns ts j u m at e
placed_there (suc n ∷ ns) (t ∷ ts) (suc j) u m at e = later t (placed_by ns ts) u (placed_there ns ts j u m at e)

placed_count : (ns : List ℕ) (ts : List Term) → length (placed_by ns ts) ≤ how_many ns
placed_count [] ts = omega arith
placed_count (zero ∷ ns) [] = omega arith
placed_count (suc n ∷ ns) [] = omega arith
placed_count (zero ∷ ns) (t ∷ ts) = placed_count ns ts
placed_count (suc n ∷ ns) (t ∷ ts) = omega (arith, placed_count ns ts)

-- What a height above 0 says.
pub record IsHigh (wanted : Bool) (deepest before m : ℕ) : Type 0 where
  pub wanted_is : wanted ≡ true
  pub few : before < place_limit
  pub low : deepest < level_limit
  pub over : deepest ≡ m

pub is_high : (wanted : Bool) (deepest before m : ℕ) → height_over wanted deepest before ≡ suc m → IsHigh wanted deepest before m
is_high wanted deepest before m e = go wanted (nat_lt before place_limit) (nat_lt deepest level_limit) refl refl refl e
  where
    go : (a b c : Bool) → wanted ≡ a → nat_lt before place_limit ≡ b → nat_lt deepest level_limit ≡ c → cond (a && (b && c)) (suc deepest) 0 ≡ suc m → IsHigh wanted deepest before m
    go true true true x y z e = record { wanted_is = x; few = grind (arith, nat_tests, y); low = grind (arith, nat_tests, z); over = omega (arith, e) }
    go false b c x y z e = absurd (omega (arith, e))
    go true false c x y z e = absurd (omega (arith, e))
    go true true false x y z e = absurd (omega (arith, e))

-- so many are no more than a limit, where before each of them there are fewer
few_from : (limit before : ℕ) (ns : List ℕ) → ((k m : ℕ) → get_or ns k 0 ≡ suc m → before + how_many (take k ns) < limit) → before ≤ limit → before + how_many ns ≤ limit
few_from limit before [] h le = omega (arith, le)
few_from limit before (zero ∷ ns) h le = few_from limit before ns (λ k m e. h (suc k) m e) le
few_from limit before (suc n ∷ ns) h le =
    let here : before + 0 < limit = h 0 n refl in
    let rest = few_from limit (suc before) ns (λ k m e. omega (arith, h (suc k) m e)) (omega (arith, here)) in
    omega (arith, rest)

-- a number of a list is at a place of it
within : (ns : List ℕ) (k m : ℕ) → get_or ns k 0 ≡ suc m → k < length ns
within [] k m e = absurd (omega (arith, e))
within (n ∷ ns) zero m e = omega arith
within (n ∷ ns) (suc k) m e = omega (arith, within ns k m e)

pub placed_few : (terms : List Term) (single : List Bool) (heights : List ℕ) → AreHeights terms single heights → length (placed_by heights terms) ≤ place_limit
placed_few terms single heights are =
    let few : 0 + how_many heights ≤ place_limit = few_from place_limit 0 heights (λ k m e.
    let lt = within heights k m e in
    let at : slice_get terms k ≡ Some (get_or terms k no_term) = slice_get-get_or terms k no_term (omega (arith, lt, are.as_many)) in
    let high = is_high (get_or single k false) _ (how_many (take k heights)) m (sym (are.each k (get_or terms k no_term) at) ∙ e) in
    omega (arith, high.few)) (omega arith) in
    omega (arith, few, placed_count heights terms)

-- a term with arguments that is marked, and not to be defined, has a height
pub has_height : (a b : Bool) (n : ℕ) → a ≡ true → b ≡ true → a && (b && nat_eq n 0) ≡ false → (m : ℕ) × (n ≡ suc m)
has_height true true zero e f g = absurd (false≢true (sym g))
has_height true true (suc n) e f g = (n, refl)
has_height false b n e f g = absurd (false≢true e)
has_height true false n e f g = absurd (false≢true f)
