-- What the literal shows.
use Rattle.proof_log.specs.Theories.{derived}
use Rattle.std.proofs.Common.{◌≡◌, ◌++◌, ◌∷◌, [], sym, ◌∙◌, ap, true, false}
use Rattle.congruence_relation.specs.Relation.{truth_of}
use Rattle.congruence_explain.specs.Claims.{joins}
use Rattle.congruence_explain.specs.Steps.{ExplanationSetting, steps_since}
use Rattle.congruence_explain.proofs.Going.{held_shown, decided_shown}
use Rattle.congruence_explain.proofs.edges.tell_held.Goals as goal

pub returns-then-not-is_between-clause-told : goal.returns-then-not-is_between-clause-told
returns-then-not-is_between-clause-told g c = λ es k needed at.
    let t = g.start.table in
    let e = c.args.edge in
    let l = c.args.l in
    let s : ExplanationSetting = record { table = t; truths = c.args.truths; edges = es } in
    let off : joins e.a e.b l.term (truth_of c.args.truths l.positive) ≡ false = ap (λ v. joins e.a e.b l.term v) (sym c.truth.ensures) ∙ sym c.is_between.ensures ∙ c.if-not-is_between.true in
    let old = c.args.stated.now.items in
    held_shown s k needed (steps_since g.start (derived c.args.table.now c.args.log.now)) old c.push.new.self.items e l at c.requires.1.1.0 off (c.requires.1.1.1 off)
    (c.in_ok-push.ensures.items ∙ ap (λ x. old ++ x ∷ []) c.denial.ensures)

pub returns-clause-told : goal.returns-clause-told
returns-clause-told g c = λ es k needed at.
    let t = g.start.table in
    let e = c.args.edge in
    let l = c.args.l in
    let s : ExplanationSetting = record { table = t; truths = c.args.truths; edges = es } in
    let on : joins e.a e.b l.term (truth_of c.args.truths l.positive) ≡ true = ap (λ v. joins e.a e.b l.term v) (sym c.truth.ensures) ∙ sym c.is_between.ensures ∙ c.if-not-is_between.false in
    let old = c.args.stated.now.items in
    decided_shown s k needed (steps_since g.start (derived c.args.table.now c.args.log.now)) (steps_since g.start (derived c.tell_decided.new.table c.tell_decided.new.log)) old c.push.new.self.items e l at c.requires.1.1.0 on
    (c.in_ok-push.ensures.items ∙ ap (λ x. old ++ x ∷ []) c.denial.ensures)
    c.in_ok-tell_decided.ensures.steps
