-- What a closure was about at its marks is a prefix of what it is about.
use Rattle.std.proofs.Common.{◌≡◌, ℕ, zero, suc, ◌<◌, ◌≤◌, List, [], ◌∷◌, length, get_or, take, map, inl, inr, ◌⊎◌, refl, sym, ap, ◌∙◌, arith}
use Rattle.std.proofs.lemmas.Bool.{cases_lt}
use Rattle.std.proofs.lemmas.List.{length-take-le, take_all}
use Rattle.congruence_relation.specs.Relation.{Facts}
use Rattle.congruence_closure.specs.declared.parts.Extent.{Extent}
use Rattle.congruence_closure.specs.declared.closure.ClosureMark.{ClosureMark}
use Rattle.congruence_closure.specs.Closure.{ClosureState, ArePrefix}
use Rattle.congruence_closure.specs.State.{facts_at}
use Rattle.congruence_closure.specs.Whole.{marked}

-- the first of a list are as many of its first ones as they are
taken : {X : Type 0} (n : ℕ) (xs : List X) → take n xs ≡ take (length (take n xs)) xs
taken n xs = go (cases_lt n (length xs))
  where
    go : (n < length xs) ⊎ (length xs ≤ n) → take n xs ≡ take (length (take n xs)) xs
    go (inl low) = ap (λ m. take m xs) (sym (length-take-le n xs (omega (arith, low))))
    go (inr high) = take_all n xs high ∙ sym (take_all (length (take n xs)) xs (omega (arith, ap length (take_all n xs high))))

-- facts up to an extent are a prefix
front_at : (f : Facts) (e : Extent) → ArePrefix (facts_at f e) f
front_at f e = record { listed = taken e.listed f.listed; truths = refl; held = taken e.held f.held }

-- each mark's are
pub front_marked : (f : Facts) (now : ClosureState) (marks : List ClosureMark) (k : ℕ) → k < length (map (marked f) marks) → ArePrefix (get_or (map (marked f) marks) k now).facts f
front_marked f now [] k low = absurd (omega (arith, low))
front_marked f now (m ∷ marks) zero low = front_at f m.extent
front_marked f now (m ∷ marks) (suc k) low = front_marked f now marks k (omega (arith, low))
