use Rattle.std.proofs.Common.{◌≡◌, map, take}
use Rattle.class_table.specs.Classes.{class_at}
use Rattle.congruence_closure.proofs.key_table.key_of.Given as goal

abbrev pub invariant-arguments : goal.invariant-arguments
invariant-arguments l = l.arguments.items ≡ map (λ a. record { 0 = class_at l.classes.numbers a }) (take l.a-index l.node.arguments.items)
