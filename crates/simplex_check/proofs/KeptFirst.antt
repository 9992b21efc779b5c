-- Values that keep the first of the bounds that are held.
use Rattle.std.proofs.Common.{◌≡◌, ℕ, ◌+◌, ◌<◌, ◌≤◌, List, ◌++◌, length, take, Contains, sym, ◌∙◌, ap, arith, subst}
use Rattle.std.proofs.lemmas.List.{length-append, take-append-le, take-take, get_or-take, length-take-le}
use Rattle.std.proofs.Math.Seq.{take-length}
use Rattle.spec_text.proofs.Members.{none as no_member}
use Rattle.spec_tableaux.specs.Spaces.{Pair}
use Rattle.spec_tableaux.specs.Numbers.{Number}
use Rattle.spec_tableaux.specs.Points.{point_in}
use Rattle.simplex_bounds.specs.Held.{RespectsBound}
use Rattle.simplex_bounds.specs.declared.bounds.Bound.{Bound}
use Rattle.simplex_check.specs.Suspects.{KeepsFirst}

-- what is of the first is of the list
of_first : (k : ℕ) (xs : List Bound) (b : Bound) → k ≤ length xs → Contains (take k xs) b → Contains xs b
of_first k xs b le (i, lt, e) =
    let n : length (take k xs) ≡ k = length-take-le k xs le in
    let l : i < k = omega (arith, lt, n) in
    (i, omega (arith, l, le), sym (get_or-take k xs i b l) ∙ e)

pub keeps_none : (held : List Bound) (vs : List (Pair Number)) → KeepsFirst 0 held vs
keeps_none held vs = record { few = omega (arith); each = λ b has. absurd (no_member b has) }

pub keeps_all : (held : List Bound) (vs : List (Pair Number)) → ((b : Bound) → Contains held b → RespectsBound (point_in vs) b) → KeepsFirst (length held) held vs
keeps_all held vs k = record { few = omega (arith); each = λ b has. k b (subst (λ bs. Contains bs b) (take-length held) has) }

-- more bounds are held
pub keeps_more : (n : ℕ) (old new : List Bound) (vs : List (Pair Number)) → (bs : List Bound) × (new ≡ old ++ bs) → KeepsFirst n old vs → KeepsFirst n new vs
keeps_more n old new vs m k = record {
  few = let l : length new ≡ length old + length m.0 = ap length m.1 ∙ length-append old m.0 in omega (arith, l, k.few);
  each = λ b has. k.each b (subst (λ bs. Contains bs b) (ap (take n) m.1 ∙ take-append-le n old m.0 k.few) has);
}

-- fewer are held
pub keeps_back : (n m k : ℕ) (held new : List Bound) (vs : List (Pair Number)) → new ≡ take m held → m ≤ length held → k ≤ n → k ≤ m → KeepsFirst n held vs → KeepsFirst k new vs
keeps_back n m k held new vs e le kn km f = record {
  few = let l : length new ≡ m = ap length e ∙ length-take-le m held le in omega (arith, l, km);
  each = λ b has. f.each b (of_first k (take n held) b (let l : length (take n held) ≡ n = length-take-le n held f.few in omega (arith, l, kn))
      (subst (λ bs. Contains bs b) (ap (take k) e ∙ take-take k m held km ∙ sym (take-take k n held kn)) has));
}
