-- Without the newest mark.
use Rattle.std.proofs.Common.{◌≡◌, ◌-◌, length, take, ap, sym, subst, ◌∙◌, arith}
use Rattle.proof_log.specs.Theories.{TheoryView}
use Rattle.simplex.specs.Views.{SimplexView, SimplexFits, slack_count}
use Rattle.simplex.proofs.Fitting.{fits_unmarked, as_many}
use Rattle.simplex.proofs.simplex.Simplex.forget_mark.Goals as goal

pub invariant_of-self : goal.invariant_of-self
invariant_of-self c =
    let s = c.self.inside in
    let v : SimplexView = record {
      theory = s.literals;
      atoms = s.atoms;
      assignment = s.assignment;
      bounds = s.bounds;
      starts = s.starts.items;
    } in
    let f : SimplexFits v = c.self.invariant.0 in
    let kept : c.len-kept.result - 1 ≡ length s.literals.marks - 1 = omega (arith, c.len-kept.ensures, as_many v f) in
    let starts = c.truncate.ensures.items ∙ ap (λ n. take n s.starts.items) kept in (
      subst (λ (x : SimplexView). SimplexFits x)
          (λ i. record { theory = sym c.forget_mark.ensures i; atoms = s.atoms; assignment = s.assignment; bounds = s.bounds; starts = sym starts i })
          (fits_unmarked v f),
      c.self.invariant.1 ∙ ap (λ (x : TheoryView). slack_count s.atoms.slack_list x.watched) (sym c.forget_mark.ensures),
      c.self.invariant.2,
    )
