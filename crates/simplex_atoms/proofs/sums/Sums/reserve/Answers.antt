-- The sums stay, in any order.
use Rattle.std.proofs.Common.{subst}
use Rattle.std.specs.Prelude.{IsPermutation}
use Rattle.std.proofs.lemmas.List.Sorted.{IsPermutation-map}
use Rattle.simplex_atoms.specs.Sums.{SumsView, sum_meant, sums_meant}
use Rattle.simplex_atoms.proofs.sums.Sums.reserve.Goals as goal

pub returns-clause-list : goal.returns-clause-list
returns-clause-list c =
    subst (λ (v : SumsView). IsPermutation v.list (sums_meant c.reserve.new.self.entries)) c.self.view_is
    (IsPermutation-map sum_meant c.self.inside.multiples.entries c.reserve.new.self.entries c.reserve.ensures.entries.0)
