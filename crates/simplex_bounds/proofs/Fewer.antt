-- Values that keep bounds keep the first of them.
use Rattle.std.proofs.Common.{◌≡◌, ℕ, true, List, take, get_or}
use Rattle.std.proofs.lemmas.List.Elements.{All-contains, All-take, Contains-get_or}
use Rattle.spec_tableaux.specs.Spaces.{Pair}
use Rattle.spec_tableaux.specs.Numbers.{Number}
use Rattle.spec_tableaux.specs.Ranges.{is_within}
use Rattle.simplex_bounds.specs.declared.bounds.Bound.{Bound}
use Rattle.spec_tableaux.specs.Points.{deltas}
use Rattle.simplex_bounds.specs.Held.{ranges_in, RespectsBound}
use Rattle.simplex_bounds.proofs.Keeping.{ranges_kept}

pub fewer_kept : (n : ℕ) (bs : List Bound) (v : ℕ → Pair Number) → ((y : ℕ) → is_within deltas (ranges_in bs) v y ≡ true) → (y : ℕ) → is_within deltas (ranges_in (take n bs)) v y ≡ true
fewer_kept n bs v within =
    (ranges_kept (take n bs) v).1
    (λ b has. All-contains (RespectsBound v) (take n bs) b (All-take (RespectsBound v) n bs (λ k d lt. (ranges_kept bs v).0 within (get_or bs k d) (Contains-get_or bs k d lt))) has)
