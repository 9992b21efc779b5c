-- The numbers up to here.
use Rattle.std.proofs.Common.{◌≡◌, map, take}
use Rattle.congruence_closure.specs.State.{class_number}
use Rattle.congruence_closure.proofs.parts.ClosureParts.classes.Given as goal

abbrev pub invariant-terms : goal.invariant-terms
invariant-terms l = l.numbers.items ≡ map (class_number l.self.now.numbers) (take l.t-index l.terms)
