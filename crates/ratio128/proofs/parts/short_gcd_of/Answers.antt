use Rattle.std.proofs.Common.{◌≡◌, sym, ◌∙◌, arith, ap}
use Rattle.spec_numbers.specs.Fractions.{gcd}
use Rattle.spec_numbers.proofs.Gcd.{gcd-step, gcd-zero, gcd_positive}
use Rattle.ratio128.proofs.parts.short_gcd_of.Goals as goal

pub loop-y-preserved : goal.loop-y-preserved
loop-y-preserved c = sym (gcd-step _ _ (omega arith)) ∙ c.loop-y.invariant

pub returns : goal.returns
returns c =
    let e : c.loop-y.x ≡ gcd c.args.a c.args.b = sym (gcd-zero _) ∙ ap (gcd c.loop-y.x) (sym c.loop-y-test.false) ∙ c.loop-y.invariant in
    record { value = e; positive = rw e (gcd_positive c.args.a c.args.b c.requires) }
