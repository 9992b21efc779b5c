-- The numbers up to here.
use Rattle.std.proofs.Common.{◌≡◌, map, take}
use Rattle.script_standing.specs.declared.standing.Expression.{Expression}
use Rattle.model_judge.proofs.conjunctions.terms_of.Given as goal

abbrev pub invariant-expressions : goal.invariant-expressions
invariant-expressions l = l.terms.items ≡ map (λ (e : Expression). e.term) (take l.expression-index l.expressions)
