use Rattle.std.proofs.Common.{ℕ, List, ◌≡◌, ◌<◌, length, slice_index_or, subst}
use Rattle.tableau.proofs.RowSets.{once}
use Rattle.tableau.proofs.columns.Column.as_slice.Goals as goal

pub returns-clause-once : goal.returns-clause-once
returns-clause-once c = subst (λ (ks : List ℕ). (i j : ℕ) → i < length ks → j < length ks → slice_index_or ks i 0 ≡ slice_index_or ks j 0 → i ≡ j) c.self.view_is (once c.self.inside.numbers.keys c.as_slice.ensures.unique)
