use Rattle.std.proofs.Common.{◌≡◌, pos}
use Rattle.std.proofs.lemmas.Bool.Decides.{Decides-int_eq}
use Rattle.spec_tableaux.specs.Numbers.{numbers, fractions}
use Rattle.tableau.proofs.Exact.{one_test, zero_test}
use Rattle.tableau.proofs.numbers.is_zero.Goals as goal

pub returns : goal.returns
unfolding numbers fractions
returns c = one_test _ _ (c.args.a.num ≡ pos 0) (zero_test c.args.a _ c.is_zero.ensures) (Decides-int_eq c.args.a.num (pos 0))
