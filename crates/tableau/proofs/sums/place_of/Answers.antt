use Rattle.std.proofs.Common.{rules, ◌≡◌, ◌==◌, ◌∷◌, false, length, ap, subst, arith}
use Rattle.std.proofs.lemmas.Bool.Decides.{nat_tests}
use Rattle.spec_tableaux.specs.SolvedForms.{AllVariables}
use Rattle.tableau.specs.Entries.{entries_of}
use Rattle.tableau.proofs.Putting.{puts_first, puts_later}
use Rattle.tableau.proofs.sums.place_of.Goals as goal

pub loop-e-init : goal.loop-e-init
loop-e-init c = record { short = omega arith; puts = puts_first c.args.entries.now c.args.x; new = c.requires }

pub loop-e-preserved : goal.loop-e-preserved
loop-e-preserved c =
    let some : c.loop-e.rest.now ≡ c.in-Some.e.now ∷ c.in-Some.more.now = search rules in
    let n = subst (λ z. AllVariables (λ y. (y == c.args.x) ≡ false) (entries_of z)) some c.loop-e.invariant.new in
    let k = ap length some in
    let s = c.loop-e.invariant.short in
    let h = n.0 in
    record {
      short = omega (arith, k, s);
      puts = puts_later c.args.entries.now c.loop-e.rest.now c.in-Some.more.now c.args.x c.in-Some.e.now some (grind (arith, nat_tests)) c.loop-e.invariant.puts;
      new = n.1;
    }
