-- Literals that come to a closure.
use Rattle.std.specs.Prelude.{Contains}
use Rattle.std.proofs.lemmas.List.Elements.{All-contains}
use Rattle.term_core.specs.declared.ids.Lit.{Lit}
use Rattle.congruence_relation.specs.Relation.{Facts}
use Rattle.congruence_closure.specs.Closure.{AreInOrder}
use Rattle.congruence_closure.specs.Listed.{IsListed}

-- no literal is held of a term that is not listed
pub unlisted_not_held : (f : Facts) → AreInOrder f → (l : Lit) → (IsListed f.listed l.term → ⊥) → Contains f.held l → ⊥
unlisted_not_held f order l none there = none (All-contains (λ (m : Lit). IsListed f.listed m.term) f.held l order.held there)
