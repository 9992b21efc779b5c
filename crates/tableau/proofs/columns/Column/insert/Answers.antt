use Rattle.std.proofs.Common.{ℕ, List, Contains, ◌≡◌, subst}
use Rattle.std.specs.Prelude.{◌↔◌, ◌⊎◌}
use Rattle.tableau.proofs.RowSets.{inserted}
use Rattle.tableau.proofs.columns.Column.insert.Goals as goal

pub returns-clause-ok : goal.returns-clause-ok
returns-clause-ok c = subst (λ (old : List ℕ). (k : ℕ) → Contains c.insert.new.self.keys k ↔ (Contains old k ⊎ (k ≡ c.args.number))) c.self.view_is (inserted c.self.inside.numbers.keys c.insert.new.self.keys c.args.number c.in-Ok.ensures.keys)
