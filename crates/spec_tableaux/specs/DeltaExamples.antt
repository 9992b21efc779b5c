-- Numbers with an infinitesimal part, worked out.
use Rattle.std.specs.Prelude.{◌≡◌, ◌^◌, ◌-◌, pos, negsuc, Err, refl}
use Rattle.std.proofs.Common.{Less}
use Rattle.spec_numbers.specs.Fractions.{gcd, whole, plus, times, compare}
use Rattle.spec_numbers.specs.Bounds.{is_small, fits, sum_fits, added}
use Rattle.spec_numbers.specs.declared.Op.TheVariants.{Add}
use Rattle.spec_text.specs.Answers.{◌>>=◌}
use Rattle.spec_tableaux.specs.Deltas.{number, delta_added, delta_at, delta_compare}

-- 2 - epsilon is less than 2, and 2 is less than 2 + epsilon
pub below : delta_compare (record { base = whole (pos 2); tilt = whole (negsuc 0) }) (number (whole (pos 2))) ≡ Less
unfolding delta_compare compare
below = refl

pub above : delta_compare (number (whole (pos 2))) (record { base = whole (pos 2); tilt = whole (pos 1) }) ≡ Less
unfolding delta_compare compare
above = refl

-- 1 + 2 epsilon is 2 where epsilon is 1/2
pub value : delta_at (record { base = whole (pos 1); tilt = whole (pos 2) }) (record { num = pos 1; den = 2 })
    ≡ whole (pos 2)
unfolding gcd plus times delta_at
value = refl

-- where both parts of a sum leave the bound, the overflow is that of the base
pub base_first : delta_added
    (record { base = whole (pos (2 ^ 127 - 1)); tilt = whole (pos (2 ^ 127 - 1)) })
    (record { base = whole (pos 1); tilt = whole (pos 2) })
    ≡ Err (record { op = Add; left = whole (pos (2 ^ 127 - 1)); right = whole (pos 1) })
unfolding gcd plus is_small fits sum_fits added ◌>>=◌ delta_added
base_first = refl
