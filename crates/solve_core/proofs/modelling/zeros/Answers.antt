-- That each is 0.
use Rattle.std.proofs.Common.{◌≡◌, ℕ, zero, suc, List, ◌∷◌, map, refl, ap, ◌∙◌}
use Rattle.std.specs.Prelude.{replicate}
use Rattle.spec_numbers.specs.Fractions.{Fraction}
use Rattle.spec_tableaux.specs.Numbers.{Number}
use Rattle.ratio128.specs.declared.ratio.Ratio.{Ratio}
use Rattle.ratio128.specs.Meant.{fraction}
use Rattle.solve_core.proofs.modelling.zeros.Goals as goal

-- the fractions of the same number, so many times
repeated : (q : Ratio) (n : ℕ) → map fraction (replicate n q) ≡ replicate n (fraction q)
repeated q zero = refl
repeated q (suc n) = ap (λ (qs : List Fraction). fraction q ∷ qs) (repeated q n)

pub returns : goal.returns
returns c =
    let zeros = c.in_ok-list.ensures.items_if_clones_equal (λ y same. same) in
    ap (map fraction) zeros ∙ repeated c.zero.result c.args.count ∙ ap (λ (n : Number). replicate c.args.count n.fraction) c.zero.ensures
