-- Unit propagation passes each chain of binary resolutions.
use Rattle.std.proofs.Common.{◌≡◌, ◌≢◌, List, [], ◌∷◌, map, Contains, ◌⊎◌, inl, inr, sym, subst}
use Rattle.spec_text.proofs.Members.{first, later, to_image, from_image}
use Rattle.spec_proofs.specs.Resolution.{Derives, given, unit, false_clause, Resolves, IsWithin, IsChain}

-- what a mapped list has is within what is mapped of a list that has it all
pub mapped_within : {X Y : Type 0} (f : X → Y) (xs ys : List X) → IsWithin xs ys → IsWithin (map f xs) (map f ys)
mapped_within f xs ys within y c =
    let h = from_image f xs y c in
    subst (Contains (map f ys)) h.2 (to_image f ys h.0 (within h.0 h.1))

module _ {L : Type 0} (complement : L → L) (premises : List (List L)) (clause : List L) where
  -- what unit propagation gives, where each literal of the clause is false
  abbrev Known : L → Type 0
  Known l = Derives complement premises (map complement clause) l

  -- from the last premise to the first: each literal of the clause up to here is false
  each_false : (so_far : List L) (ps : List (List L)) → IsWithin ps premises → IsChain complement so_far ps clause → (l : L) → Contains so_far l → Known (complement l)
  each_false so_far [] inside chain l here = given (complement l) (to_image complement clause l (chain l here))
  each_false so_far (p ∷ ps) inside chain l here = go (each_false chain.0 ps (λ q q_in. inside q (later p ps q q_in)) chain.2) (chain.1.rest_of_one l here)
    where
      go : ((m : L) → Contains chain.0 m → Known (complement m)) → (l ≡ chain.1.pivot) ⊎ Contains chain.0 l → Known (complement l)
      go known (inr in_next) = known l in_next
      go known (inl same) = subst (λ m. Known (complement m)) (sym same) (unit p (complement chain.1.pivot) (inside p (first p ps)) chain.1.in_other others)
        where
          others : (m : L) → Contains p m → m ≢ complement chain.1.pivot → Known (complement m)
          others m m_in differs = either (chain.1.rest_of_other m m_in)
            where
              either : (m ≡ complement chain.1.pivot) ⊎ Contains chain.0 m → Known (complement m)
              either (inl e) = absurd (differs e)
              either (inr in_next) = known m in_next

  -- so a chain ends in what follows
  pub chain_resolves : (start : List L) (rest : List (List L)) → IsWithin (start ∷ rest) premises → IsChain complement start rest clause → Resolves complement premises clause
  chain_resolves start rest inside chain = false_clause start (inside start (first start rest)) (each_false start rest (λ q q_in. inside q (later start rest q q_in)) chain)
