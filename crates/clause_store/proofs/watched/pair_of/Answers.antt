-- The first two different literals, or the only one.
use Rattle.std.proofs.Common.{◌∙◌, List, Contains, get_or, take, inl, inr, refl, sym, subst}
use Rattle.std.proofs.lemmas.List.{take_more, take_all, get_or_default}
use Rattle.std.proofs.lemmas.List.Elements.{Contains-push_cases}
use Rattle.term_core.specs.declared.ids.Lit.{Lit}
use Rattle.sat_trail.specs.Trails.{no_lit}
use Rattle.clause_store.proofs.watched.pair_of.Goals as goal

pub loop-l-preserved : goal.loop-l-preserved
loop-l-preserved c m i =
    let xs = c.args.clause.now in
    let k = c.loop-l.l-index in
    elim (Contains-push_cases (take k xs) (get_or xs k no_lit) m (subst (λ (ys : List Lit). Contains ys m) (take_more xs k no_lit c.loop-l-test.true) i)) [
      | inl was ↦ c.loop-l.invariant m was
      | inr is ↦ sym is ∙ get_or_default xs k no_lit _ c.loop-l-test.true ∙ c.if-not-same.ensures
    ]

pub returns : goal.returns
returns c = record {
  first_in = λ d. absurd (d refl);
  second_in = λ d. absurd (d refl);
  alone = λ e m i. c.loop-l.invariant m (subst (λ (ys : List Lit). Contains ys m) (sym (take_all c.loop-l.l-index c.args.clause.now c.loop-l-test.false)) i);
}
