-- Each term has its entry, or none, in the sum.
use Rattle.std.proofs.Common.{◌≡◌, ◌∷◌, rules, subst}
use Rattle.std.proofs.lemmas.List.{nil_from_length}
use Rattle.std.proofs.lemmas.List.Elements.{All-head, All-tail}
use Rattle.spec_causes.specs.Shared.{OverflowsSumAt}
use Rattle.ratio128.specs.declared.ratio.Ratio.{Ratio}
use Rattle.ratio128.specs.Meant.{overflow}
use Rattle.term_core.specs.declared.ids.TermId.{TermId}
use Rattle.term_core.specs.Tables.{IsIn}
use Rattle.simplex_bounds.specs.Deltas.{pair_of}
use Rattle.spec_text.proofs.AnswerLaws.{told}
use Rattle.simplex.specs.Values.{variables_meant, AreTermsIn}
use Rattle.simplex.specs.Coming.{term_tableau_of}
use Rattle.simplex.proofs.SharedTerms.{Left, left_all, left_none, left_more, left_overflows}
use Rattle.simplex.proofs.simplex.Simplex.sum_of.Goals as goal

pub loop-x-init : goal.loop-x-init
loop-x-init c = record {
  known = c.requires.there;
  left = left_all c.args.table.now (term_tableau_of c.args.table.now c.args.self.now) c.args.variables.now (pair_of c.zero-sum.result) c.zero-sum.ensures;
}

pub returns-in_err-sum-clause-wide : goal.returns-in_err-sum-clause-wide
returns-in_err-sum-clause-wide c =
    let t = c.args.table.now in
    let v = c.args.self.now in
    let x = c.in-Some.x.now in
    let more = c.in-Some.more.now in
    let whole = variables_meant t c.args.variables.now in
    let some : c.loop-x.rest.now ≡ x ∷ more = search rules in
    let known = subst (AreTermsIn t) some c.loop-x.invariant.known in
    let left = subst (λ xs. Left (term_tableau_of t v) whole (variables_meant t xs) (pair_of c.loop-x.sum)) some c.loop-x.invariant.left in
    told (λ w. OverflowsSumAt (term_tableau_of t v) whole (overflow w)) c.from_residual.result c.in_err-sum.field-0.0 c.from_residual.ensures.1
    (left_overflows t v c.ids_are_unique.ensures c.requires.with whole x more (pair_of c.loop-x.sum) (overflow c.in_err-sum.field-0.0)
    (All-head (λ (p : TermId × Ratio). IsIn t p.0) x more known) left c.in_err-sum.ensures.wide)

pub loop-x-preserved : goal.loop-x-preserved
loop-x-preserved c =
    let t = c.args.table.now in
    let v = c.args.self.now in
    let x = c.in-Some.x.now in
    let more = c.in-Some.more.now in
    let whole = variables_meant t c.args.variables.now in
    let some : c.loop-x.rest.now ≡ x ∷ more = search rules in
    let known = subst (AreTermsIn t) some c.loop-x.invariant.known in
    let left = subst (λ xs. Left (term_tableau_of t v) whole (variables_meant t xs) (pair_of c.loop-x.sum)) some c.loop-x.invariant.left in
    record {
      known = All-tail (λ (p : TermId × Ratio). IsIn t p.0) x more known;
      left = left_more t v c.ids_are_unique.ensures c.requires.with whole x more (pair_of c.loop-x.sum) (pair_of c.in_ok-sum.sum)
          (All-head (λ (p : TermId × Ratio). IsIn t p.0) x more known) left c.in_ok-sum.ensures.next;
    }

pub returns-clause-sum : goal.returns-clause-sum
returns-clause-sum c =
    let t = c.args.table.now in
    let s = term_tableau_of t c.args.self.now in
    let whole = variables_meant t c.args.variables.now in
    left_none s whole (pair_of c.loop-x.sum)
    (subst (λ xs. Left s whole (variables_meant t xs) (pair_of c.loop-x.sum)) (nil_from_length c.loop-x.rest.now c.in_default.ensures.cases) c.loop-x.invariant.left)
