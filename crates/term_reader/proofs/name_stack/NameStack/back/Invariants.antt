use Rattle.std.proofs.Common.{◌≡◌, length, take}
use Rattle.term_reader.specs.NameStacks.{IsStack}
use Rattle.term_reader.proofs.name_stack.NameStack.back.Given as goal

abbrev pub invariant-names : goal.invariant-names
invariant-names l =
    IsStack l.self-inside.met l.self-inside.latest.items l.self-inside.places.items
    × (l.self-inside.met ≡ l.initial.self-inside.met)
    × (take l.len l.self-inside.places.items ≡ take l.len l.initial.self-inside.places.items)

abbrev pub decreases-names : goal.decreases-names
decreases-names l = length l.self-inside.places.items
