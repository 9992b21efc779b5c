-- A literal more is held for a while.
use Rattle.std.proofs.Common.{◌≡◌, ◌∙◌, ap}
use Rattle.proof_log.specs.Theories.{derived, terms_watched}
use Rattle.proof_log.proofs.Composed.{lemmas_none}
use Rattle.congruence_closure.specs.Closure.{ClosureState}
use Rattle.congruence_closure.specs.State.{with_held}
use Rattle.congruence.specs.Views.{theory_of}
use Rattle.congruence.proofs.Shown.{held_over, held_with}
use Rattle.congruence.proofs.implying.show.Goals as goal

pub returns-in_err-mark-clause-derives : goal.returns-in_err-mark-clause-derives
returns-in_err-mark-clause-derives c =
    let t = c.args.table.now in
    lemmas_none (terms_watched t (theory_of c.args.closure.now)) (derived t c.args.log.now) c.requires.log

pub explain_found-shown-requires-clause-over : goal.explain_found-shown-requires-clause-over
explain_found-shown-requires-clause-over c =
    let v = c.args.closure.now in
    let w = c.hold.new.self in
    let l = c.args.denied in
    let facts : w.now.facts ≡ with_held v.now.facts l = ap (λ (s : ClosureState). s.facts) c.hold.ensures.now ∙ ap (λ (s : ClosureState). with_held s.facts l) c.mark.ensures.now in
    held_over c.args.table.now v w l facts c.requires.over c.requires.atom

pub explain_found-shown-requires-clause-with : goal.explain_found-shown-requires-clause-with
explain_found-shown-requires-clause-with c =
    let v = c.args.closure.now in
    let w = c.hold.new.self in
    let l = c.args.denied in
    let facts : w.now.facts ≡ with_held v.now.facts l = ap (λ (s : ClosureState). s.facts) c.hold.ensures.now ∙ ap (λ (s : ClosureState). with_held s.facts l) c.mark.ensures.now in
    held_with c.args.table.now v w l facts c.requires.with c.requires.watched
