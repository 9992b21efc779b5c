use Rattle.std.proofs.Common.{ℕ, List, Contains, ◌≢◌, refl, subst}
use Rattle.std.specs.Prelude.{◌↔◌}
use Rattle.tableau.proofs.Noting.{removed}
use Rattle.tableau.proofs.columns.Column.remove.Goals as goal

pub returns : goal.returns
returns c = subst (λ (old : List ℕ). (k : ℕ) → Contains c.swap_remove.new.self.keys k ↔ (Contains old k × (k ≢ c.args.number))) c.self.view_is
    (removed c.self.inside.numbers.keys c.swap_remove.new.self.keys c.args.number _ (λ k. refl) c.swap_remove.ensures.updates.0)
