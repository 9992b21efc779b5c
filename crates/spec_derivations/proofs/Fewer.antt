-- What is new over clauses is new over fewer.
use Rattle.std.proofs.Common.{List, [], ◌∷◌, ◌++◌}
use Rattle.spec_sorts.specs.Literals.{Literal, complement}
use Rattle.spec_proofs.specs.Resolution.{Derives, given, unit, Conflicts, false_clause, both_ways, IsWithin}
use Rattle.spec_derivations.specs.Learned.{others, IsNew, AreNew}
use Rattle.spec_derivations.proofs.Grown.{more_joined}

module _ (fewer more : List (List Literal)) (h : IsWithin fewer more) (start : List Literal) where
  pub derives : (l : Literal) → Derives complement fewer start l → Derives complement more start l
  derives _ (given l i) = given l i
  derives _ (unit c l c_in l_in rest) = unit c l (h c c_in) l_in (λ m m_in differs. derives (complement m) (rest m m_in differs))

  pub conflicts : Conflicts complement fewer start → Conflicts complement more start
  conflicts (false_clause c c_in rest) = false_clause c (h c c_in) (λ m m_in. derives (complement m) (rest m m_in))
  conflicts (both_ways l a b) = both_ways l (derives l a) (derives (complement l) b)

pub new_fewer : (more fewer : List (List Literal)) (c : List Literal) → IsWithin fewer more → IsNew more c → IsNew fewer c
new_fewer more fewer c h n =
    let l = n.0 in
    let is = n.1 in (
      l,
      record {
        there = is.there;
        not_given = λ d. is.not_given (derives fewer more h (others c l) l d);
        no_conflict = λ d. is.no_conflict (conflicts fewer more h (others c l) d);
      },
    )

pub all_new_fewer : (more fewer cs : List (List Literal)) → IsWithin fewer more → AreNew more cs → AreNew fewer cs
all_new_fewer more fewer [] h n = tt
all_new_fewer more fewer (c ∷ cs) h n =
    (new_fewer more fewer c h n.0, all_new_fewer (more ++ c ∷ []) (fewer ++ c ∷ []) cs (more_joined fewer (c ∷ []) more (c ∷ []) h (λ x i. i)) n.1)
