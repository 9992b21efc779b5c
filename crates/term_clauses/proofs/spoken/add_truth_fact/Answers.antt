-- The truth values and the negation are put, and then the equality comes.
use Rattle.std.proofs.Common.{◌≡◌, false, [], ◌∷◌, ap, ◌∙◌}
use Rattle.std.specs.Prelude.{not}
use Rattle.std.proofs.lemmas.Result.{on_ok_weaker}
use Rattle.spec_sorts.specs.Terms.{Equal, pair, negated}
use Rattle.term_core.specs.Tables.{term_at}
use Rattle.term_core.proofs.TermsExtend.{term_at-kept}
use Rattle.proof_log.specs.Logs.{IsFormulaIn}
use Rattle.term_clauses.specs.Stating.{Widens}
use Rattle.term_clauses.specs.Choices.{equality_at, truth_term, truth_fact}
use Rattle.term_clauses.proofs.Arguments.{Widens-trans}
use Rattle.term_clauses.proofs.Parts.{formula_kept, signed_in}
use Rattle.term_clauses.proofs.Speaking.{formulas_kept, more_made, more_same, truth_in, formulas_comparable}
use Rattle.term_clauses.proofs.spoken.add_truth_fact.Goals as goal
use Rattle.term_clauses.proofs.spoken.add_truth_fact.Goals.{In_ok-other, After-signed}

-- the first truth value is a formula after the second is put
this_in : (c : In_ok-other) → IsFormulaIn c.truth-2.new.table c.in_ok-this.this
this_in c = formula_kept c.truth.new.table c.truth-2.new.table c.truth-2.ensures.wider c.in_ok-this.this (truth_in c.truth.new.table c.args.value c.in_ok-this.this c.in_ok-this.ensures.means)

-- the table is wider after the negation is put
wide : (c : After-signed) → Widens c.args.table.now c.signed.new.table
wide c =
    let t = c.args.table.now in
    let u = c.truth.new.table in
    let v = c.truth-2.new.table in
    let w = c.signed.new.table in
    Widens-trans t u w c.truth.ensures.wider (Widens-trans u v w c.truth-2.ensures.wider c.signed.ensures.wider)

pub signed-requires : goal.signed-requires
signed-requires c = this_in (goal.at.signed-requires c).In_ok-other

pub returns-in_err-denied-clause-wider : goal.returns-in_err-denied-clause-wider
returns-in_err-denied-clause-wider c = wide (goal.at.returns-in_err-denied-clause-wider c).After-signed

pub add_equality-requires-clause-sides : goal.add_equality-requires-clause-sides
add_equality-requires-clause-sides c =
    let v = c.truth-2.new.table in
    let w = c.signed.new.table in
    let means = c.in_ok-denied.ensures.means in
    formulas_comparable w c.in_ok-denied.denied c.in_ok-other.other
    (signed_in v w c.signed.ensures.wider false c.in_ok-this.this c.in_ok-denied.denied (this_in (goal.at.add_equality-requires-clause-sides c).In_ok-other) means.0 means.1)
    (formula_kept v w c.signed.ensures.wider c.in_ok-other.other (truth_in v (not c.args.value) c.in_ok-other.other c.in_ok-other.ensures.means))

pub add_equality-requires-clause-ids : goal.add_equality-requires-clause-ids
add_equality-requires-clause-ids c = formulas_kept c.args.table.now c.signed.new.table (wide (goal.at.add_equality-requires-clause-ids c).After-signed) c.args.ids.now.items c.requires

pub returns-clause-wider : goal.returns-clause-wider
returns-clause-wider c = Widens-trans c.args.table.now c.signed.new.table c.add_equality.new.table (wide (goal.at.returns-clause-wider c).After-signed) c.add_equality.ensures.wider

pub returns-clause-more : goal.returns-clause-more
returns-clause-more c =
    let t = c.args.table.now in
    let u = c.truth.new.table in
    let v = c.truth-2.new.table in
    let w = c.signed.new.table in
    let z = c.add_equality.new.table in
    let b = c.args.value in
    let this = c.in_ok-this.this in
    let other = c.in_ok-other.other in
    let denied = c.in_ok-denied.denied in
    let yes = c.in_ok-this.ensures.means in
    let no = c.in_ok-other.ensures.means in
    let one : term_at w denied ≡ negated (truth_term b) = c.in_ok-denied.ensures.means.1 ∙ ap negated (term_at-kept u v c.truth-2.ensures.wider.terms this yes.0 ∙ yes.1) in
    let two : term_at w other ≡ truth_term (not b) = term_at-kept v w c.signed.ensures.wider.terms other no.0 ∙ no.1 in
    let same : equality_at w denied other ∷ [] ≡ truth_fact b ∷ [] = λ i. pair Equal (one i) (two i) ∷ [] in
    let start = c.args.ids.now.items in
    let all = c.add_equality.new.ids.items in
    on_ok_weaker c.add_equality.result
    (λ more. more_made t w z (wide (goal.at.returns-clause-more c).After-signed) start all (truth_fact b ∷ []) c.requires (more_same w z start all (equality_at w denied other ∷ []) (truth_fact b ∷ []) same more))
    c.add_equality.ensures.more
