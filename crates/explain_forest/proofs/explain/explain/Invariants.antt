use Rattle.std.proofs.Common.{◌≡◌, ◌++◌, length, reverse}
use Rattle.explain_forest.specs.Forest.{path}
use Rattle.explain_forest.specs.Telling.{told, told_all, AreTold, costs}
use Rattle.explain_forest.proofs.explain.explain.Given as goal

abbrev pub invariant-parts : goal.invariant-parts
invariant-parts l = record {
  linked : AreTold (length l.parents) (reverse l.edges) l.parts.items;
  told : l.out.items ++ told_all (reverse l.edges) l.parts.items ≡ path (reverse l.edges) l.fn.x.0 l.fn.y.0;
}

abbrev pub decreases-parts : goal.decreases-parts
decreases-parts l = costs (reverse l.edges) l.parts.items
