-- There is a mark more.
use Rattle.std.proofs.Common.{◌≡◌, ◌++◌, ◌∷◌, [], ap, sym, subst, ◌∙◌}
use Rattle.proof_log.specs.Theories.{TheoryView}
use Rattle.simplex.specs.declared.starts.Start.{Start}
use Rattle.simplex.specs.Views.{SimplexView, SimplexFits, slack_count}
use Rattle.simplex.proofs.Fitting.{fits_marked}
use Rattle.simplex.proofs.simplex.Simplex.mark.Goals as goal

pub invariant_of-self-2 : goal.invariant_of-self-2
invariant_of-self-2 c =
    let s = c.self.inside in
    let v : SimplexView = record {
      theory = s.literals;
      atoms = s.atoms;
      assignment = s.assignment;
      bounds = s.bounds;
      starts = s.starts.items;
    } in
    let start : Start = record { bounds = c.held_len.result; slack_list = s.slack_list } in
    let items : c.push_reserved.new.self.items ≡ s.starts.items ++ start ∷ [] =
    c.push_reserved.ensures.items ∙ ap (λ ss. ss ++ start ∷ []) c.reserve.ensures.items in (
      subst (λ (x : SimplexView). SimplexFits x)
          (λ i. record { theory = sym c.in_ok-mark.ensures i; atoms = s.atoms; assignment = s.assignment; bounds = s.bounds; starts = sym items i })
          (fits_marked v c.self.invariant.0 start c.held_len.ensures c.self.invariant.1),
      c.self.invariant.1 ∙ ap (λ (x : TheoryView). slack_count s.atoms.slack_list x.watched) (sym c.in_ok-mark.ensures),
      c.self.invariant.2,
    )
