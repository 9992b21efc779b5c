-- That all pairs come, or why not.
use Rattle.std.proofs.Common.{◌<◌, ◌≤◌, length, sym, ◌∙◌, arith}
use Rattle.std.proofs.lemmas.List.{length-map}
use Rattle.term_core.specs.declared.ids.TermId.{TermId}
use Rattle.term_core.specs.Tables.{term_at, clause_at}
use Rattle.linear_form.specs.Coefficients.{coefficient_meant, coefficients_meant}
use Rattle.linear_form.proofs.ClauseSteps.{other_lengths, pair_more, pair_none, pair_end, pair_sides}
use Rattle.linear_form.proofs.clauses.pairs_of.Goals as goal

pub returns-then-clause-coeffs-clause-means : goal.returns-then-clause-coeffs-clause-means
returns-then-clause-coeffs-clause-means c =
    let ids = c.args.clause.now in
    let ks = c.args.coeffs.now in
    other_lengths (clause_at c.args.table.now ids) (coefficients_meant ks) (λ e. c.if-clause-coeffs.true (sym (length-map ids (term_at c.args.table.now)) ∙ e ∙ length-map ks coefficient_meant))

pub returns-in-None-clause-means : goal.returns-in-None-clause-means
returns-in-None-clause-means c =
    let at = c.literals.at in
    let d : TermId = record { 0 = 0 } in
    let more : at < length c.args.coeffs.now = omega (arith, c.literals-test.true, c.if-clause-coeffs.false) in
    c.literals.invariant.means ∙ pair_none c.args.table.now c.literals.pairs.items c.args.clause.now c.args.coeffs.now at d c.index-coeffs-at.result c.literals-test.true more c.index-coeffs-at.is c.in-None.ensures.means

pub literals-preserved : goal.literals-preserved
literals-preserved c =
    let t = c.args.table.now in
    let at = c.literals.at in
    let d : TermId = record { 0 = 0 } in
    let p = c.in-Some.pair in
    let more : at < length c.args.coeffs.now = omega (arith, c.literals-test.true, c.if-clause-coeffs.false) in
    record {
      means = c.literals.invariant.means
          ∙ pair_more t c.literals.pairs.items c.args.clause.now c.args.coeffs.now at d c.index-coeffs-at.result c.literals-test.true more c.index-coeffs-at.is c.push.new.self.items p c.in_ok-push-in-Some.ensures.items c.in-Some.ensures.means;
      there = pair_sides t c.literals.pairs.items c.push.new.self.items p c.in_ok-push-in-Some.ensures.items c.literals.invariant.there c.in-Some.ensures.there;
    }

pub returns-clause-means : goal.returns-clause-means
returns-clause-means c =
    let all : length c.args.clause.now ≤ c.literals.at = omega arith in
    let both : length c.args.coeffs.now ≤ c.literals.at = omega (arith, all, c.if-clause-coeffs.false) in
    c.literals.invariant.means ∙ pair_end c.args.table.now c.literals.pairs.items c.args.clause.now c.args.coeffs.now c.literals.at all both
