-- Where values solve rows they do so at each number in the place of the infinitesimal.
use Rattle.std.proofs.Common.{ℕ, List, [], ◌∷◌, ◌∙◌, ap}
use Rattle.spec_tableaux.specs.Spaces.{Pair, as_space, pairs}
use Rattle.spec_tableaux.specs.Rows.{Row, Solves}
use Rattle.spec_tableaux.specs.Numbers.{Number, numbers}
use Rattle.spec_tableaux.specs.Halves.{at_number}
use Rattle.spec_causes.proofs.AtNumbers.{sum_at}

pub rows_at : (e : Number) (v : ℕ → Pair Number) (rs : List (Row Number)) → Solves (pairs numbers) v rs → Solves (as_space numbers) (λ y. at_number e (v y)) rs
rows_at e v [] h = tt
rows_at e v (r ∷ rs) h = (record { is = ap (at_number e) h.0.is ∙ sum_at e v r.entries }, rows_at e v rs h.1)
