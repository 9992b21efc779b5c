-- A `Ratio` is nothing but its fraction.
use Rattle.std.proofs.Common.{◌≡◌, ℕ, ℤ}
use Rattle.std.proofs.Math.Path.{to_path_p, PathP}
use Rattle.std.proofs.Math.Nat.{ℕ_set}
use Rattle.std.proofs.Math.Bridge.{le_prop}
use Rattle.ratio128.specs.declared.ratio.Ratio.{Ratio}
use Rattle.ratio128.specs.Parts.{AreParts}
use Rattle.ratio128.specs.Meant.{fraction}

parts_prop : (z : ℤ) (d : ℕ) → IsProp (AreParts z d)
parts_prop z d = hlevel (ℕ_set, le_prop)

pub same_ratio : (a b : Ratio) → fraction a ≡ fraction b → a ≡ b
same_ratio a b e = λ i. record { num = (e i).num; den = (e i).den; parts = p i }
  where
    p : PathP (λ i. AreParts (e i).num (e i).den) a.parts b.parts
    p = to_path_p (λ i. AreParts (e i).num (e i).den) (parts_prop b.num b.den _ b.parts)
