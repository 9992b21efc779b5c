-- What came is a lemma of the watched terms.
use Rattle.std.proofs.Common.{refl, sym, subst}
use Rattle.proof_log.specs.Theories.{derived, IsTheoryOver, terms_watched, DerivesLemmas}
use Rattle.proof_log.proofs.Composed.{lemmas_none}
use Rattle.congruence_relation.specs.Relation.{Facts, AreFactsOf, terms_listed}
use Rattle.congruence.specs.Views.{theory_of}
use Rattle.congruence.proofs.Views.{same_view}
use Rattle.congruence.proofs.Shown.{over_watched, came_none}
use Rattle.congruence.proofs.implying.explain_found.Goals as goal

pub explain_conflict-requires : goal.explain_conflict-requires
explain_conflict-requires c =
    let t = c.args.table.now in
    let v = c.args.closure.now in
    let w = c.saturate.new.self in
    let view = same_view v w c.saturate.ensures.facts c.saturate.ensures.marks in (
      refl,
      (
        subst (IsTheoryOver t) (sym view) c.requires.over,
        (subst (AreFactsOf t) (sym c.saturate.ensures.facts) c.requires.with, (c.requires.log, c.in_ok-conflict.ensures.conflict c.in-Some.conflict c.in-Some.is)),
      ),
    )

pub returns-in_err-conflict-clause-derives : goal.returns-in_err-conflict-clause-derives
returns-in_err-conflict-clause-derives c =
    let t = c.args.table.now in
    lemmas_none (terms_watched t (theory_of c.args.closure.now)) (derived t c.args.log.now) c.requires.log

pub returns-in_default-clause-derives : goal.returns-in_default-clause-derives
returns-in_default-clause-derives c =
    let t = c.args.table.now in
    lemmas_none (terms_watched t (theory_of c.args.closure.now)) (derived t c.args.log.now) c.requires.log

pub returns-in_err-step-clause-derives : goal.returns-in_err-step-clause-derives
returns-in_err-step-clause-derives c =
    came_none c.args.closure.now (derived c.args.table.now c.args.log.now) (derived c.explain_conflict.new.table c.explain_conflict.new.log) c.requires.log c.in_err-step.ensures.same

pub returns-clause-derives : goal.returns-clause-derives
returns-clause-derives c =
    let old = derived c.args.table.now c.args.log.now in
    let new = derived c.explain_conflict.new.table c.explain_conflict.new.log in
    over_watched c.args.closure.now old new (subst (λ (f : Facts). DerivesLemmas (terms_listed old.table f) old new) c.saturate.ensures.facts c.in_ok-step.ensures.derives)
