use Rattle.std.proofs.Common.{◌≡◌, ◌<◌, List, ◌∷◌, length, reverse}
use Rattle.explain_forest.specs.declared.types.Edge.{Edge}
use Rattle.explain_forest.specs.Forest.{Linked}
use Rattle.explain_forest.specs.Kept.{height}
use Rattle.explain_forest.proofs.arrays.below_of.Given as goal

abbrev pub invariant-climb : goal.invariant-climb
invariant-climb l = record {
  low : l.at < length l.parents;
  linked : (e : Edge) (es : List Edge) → reverse l.edges ≡ e ∷ es → Linked es l.at e.a.0;
}

abbrev pub decreases-climb : goal.decreases-climb
decreases-climb l = height l.stamps (length (reverse l.edges)) l.at
