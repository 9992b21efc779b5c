-- The step follows, since it is right without premises, so it is last, or there is no memory.
use Rattle.std.proofs.Common.{◌≡◌, [], ◌∷◌, List, sym, ap, ◌∙◌, subst, arith}
use Rattle.spec_derivations.specs.Derivations.{FollowsFrom}
use Rattle.rule_bool.specs.Arguments.{fractions_of}
use Rattle.term_core.specs.declared.ids.TermId.{TermId}
use Rattle.term_core.specs.Tables.{clause_at}
use Rattle.proof_log.specs.declared.premises.StepId.{StepId}
use Rattle.proof_log.specs.Logs.{Logged, stepped, inference_of, derivation_in}
use Rattle.term_clauses.specs.Growth.{Grows}
use Rattle.term_clauses.specs.Stating.{listed_steps, Tells}
use Rattle.term_clauses.proofs.Growing.{Grows-self, Grows-push, Tells-push}
use Rattle.term_clauses.proofs.steps.state.Goals as goal
use Rattle.term_clauses.proofs.steps.state.Goals.{In_ok-number}

pub add_right-requires-clause-follows : goal.add_right-requires-clause-follows
add_right-requires-clause-follows c =
    let t = c.args.table.now in
    let ids = c.args.clause.items in
    let rule = c.args.rule in
    let d = derivation_in t c.args.log.now in
    let premises : c.from.result ≡ [] = c.from.ensures ∙ c.new.ensures.items in
    let arguments : c.from-2.result ≡ [] = c.from-2.ensures ∙ ap fractions_of c.new-2.ensures.items in
    let follows : FollowsFrom d (inference_of t (stepped rule [] [] ids)) = ((λ k e lt. absurd (omega (arith, lt))), c.requires.right) in
    let by_premises = subst (λ (ps : List StepId). FollowsFrom d (inference_of t (stepped rule ps [] ids))) (sym premises) follows in
    let by_arguments = subst (λ qs. FollowsFrom d (inference_of t (stepped rule c.from.result qs ids))) (sym arguments) by_premises in
    subst (λ (ns : List TermId). FollowsFrom d (inference_of t (stepped rule c.from.result c.from-2.result ns))) (sym c.from-3.ensures) by_arguments

-- nothing came
pub returns-in_err-number-clause-grows : goal.returns-in_err-number-clause-grows
returns-in_err-number-clause-grows c =
    let t = c.args.table.now in
    subst (λ (log : List Logged). Grows [] t t c.args.log.now log) (sym c.in_err-number.ensures) (Grows-self [] t c.args.log.now c.requires.log)

-- the step is last
grows : (c : In_ok-number) → Grows [] c.args.table.now c.args.table.now c.args.log.now c.add_right.new.self
grows c =
    let h = c.in_ok-number.ensures in
    Grows-push [] c.args.table.now c.args.log.now c.add_right.new.self (stepped c.args.rule c.from.result c.from-2.result c.from-3.result) h.last tt h.right

pub returns-in_err-push-clause-grows : goal.returns-in_err-push-clause-grows
returns-in_err-push-clause-grows c = grows (goal.at.returns-in_err-push-clause-grows c).In_ok-number

pub returns-clause-grows : goal.returns-clause-grows
returns-clause-grows c = grows (goal.at.returns-clause-grows c).In_ok-number

pub returns-clause-tells : goal.returns-clause-tells
returns-clause-tells c =
    let t = c.args.table.now in
    let h = c.in_ok-number.ensures in
    let l = stepped c.args.rule c.from.result c.from-2.result c.from-3.result in
    subst (λ (ids : List TermId). Tells (listed_steps t c.args.log.now c.args.steps.now.items) (listed_steps t c.add_right.new.self c.push.new.self.items) (clause_at t ids ∷ [])) c.from-3.ensures
    (Tells-push [] t c.args.log.now c.add_right.new.self l c.in_ok-number.number c.args.steps.now.items c.push.new.self.items
    (grows (goal.at.returns-clause-tells c).In_ok-number) c.requires.log h.number h.last c.in_ok-push.ensures.items)
