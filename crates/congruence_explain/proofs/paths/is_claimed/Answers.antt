-- That the one literal is of the equality.
use Rattle.std.proofs.Common.{◌≡◌, true}
use Rattle.std.proofs.lemmas.Bool.Decides.{nat_tests}
use Rattle.spec_equality.specs.Reasons.{equal}
use Rattle.term_core.specs.Tables.{term_at}
use Rattle.term_core.proofs.Numbers.{same_id}
use Rattle.congruence_explain.specs.declared.claims.Claim.TheVariants.{Equality, Atom}
use Rattle.congruence_explain.specs.Claims.{unequal, no_term_id}
use Rattle.congruence_explain.proofs.Along.{one_equality_of}
use Rattle.congruence_explain.proofs.paths.is_claimed.Goals as goal

pub returns-then-a-x : goal.returns-then-a-x
returns-then-a-x c = λ e.
    let t = c.args.table.now in
    let b_is : c.in-Equality.b.0 ≡ c.args.y.0 = grind (Rattle.std.proofs.Common.arith, nat_tests) in
    one_equality_of t c.args.clause.now (unequal no_term_id no_term_id) c.args.x c.args.y (Equality c.in-Equality.a c.in-Equality.b) c.in-len1.len_at_least c.in-len1.len_below c.in-Equality.is
    (λ i. equal (term_at t (same_id c.in-Equality.a c.args.x c.if-a-x.true i)) (term_at t (same_id c.in-Equality.b c.args.y b_is i)))

pub returns-in-Atom : goal.returns-in-Atom
returns-in-Atom c = λ e.
    one_equality_of c.args.table.now c.args.clause.now (unequal no_term_id no_term_id) c.args.x c.args.y (Atom c.in-Atom.id) c.in-len1.len_at_least c.in-len1.len_below c.in-Atom.is (c.is_equality.ensures e)
