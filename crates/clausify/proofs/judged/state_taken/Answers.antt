-- The step follows, since its numbers are read as they are printed, so it is last.
use Rattle.std.proofs.Common.{◌≡◌, [], ◌∷◌, List, sym, ap, ◌∙◌, subst}
use Rattle.spec_numbers.specs.Fractions.{Fraction}
use Rattle.spec_proofs.specs.declared.Rule.TheVariants.{LaGeneric}
use Rattle.spec_derivations.specs.Derivations.{FollowsFrom}
use Rattle.rule_bool.specs.Arguments.{fractions_of}
use Rattle.term_core.specs.declared.ids.TermId.{TermId}
use Rattle.term_core.specs.Tables.{clause_at}
use Rattle.proof_log.specs.declared.premises.StepId.{StepId}
use Rattle.proof_log.specs.Logs.{Logged, stepped, inference_of, derivation_in}
use Rattle.term_clauses.specs.Growth.{Grows}
use Rattle.term_clauses.specs.Stating.{listed_steps, Tells}
use Rattle.term_clauses.proofs.Growing.{Grows-self, Grows-push, Tells-push}
use Rattle.clausify.proofs.Following.{step_follows}
use Rattle.clausify.proofs.judged.state_taken.Goals as goal
use Rattle.clausify.proofs.judged.state_taken.Goals.{In_ok-number}

pub returns-in_err-weights-clause-grows : goal.returns-in_err-weights-clause-grows
returns-in_err-weights-clause-grows c = Grows-self [] c.args.table.now c.args.log.now c.requires.log

pub add_right-requires-clause-follows : goal.add_right-requires-clause-follows
add_right-requires-clause-follows c =
    let t = c.args.table.now in
    let d = derivation_in t c.args.log.now in
    let ids = c.args.clause.items in
    let says : List StepId → List Fraction → List TermId → Type 0 = λ ps qs ns. FollowsFrom d (inference_of t (stepped LaGeneric ps qs ns)) in
    let follows = step_follows t c.args.log.now c.args.weight c.one.result ids c.one.ensures c.ratios_are_fractions.ensures.reduced c.ratios_are_fractions.ensures.bounded c.requires.taken in
    let premises : c.from.result ≡ [] = c.from.ensures ∙ c.new.ensures.items in
    let arguments : c.from-2.result ≡ fractions_of (c.args.weight ∷ c.one.result ∷ []) = c.from-2.ensures ∙ ap fractions_of c.in_ok-weights.ensures.items in
    subst (says c.from.result c.from-2.result) (sym c.from-3.ensures)
    (subst (λ qs. says c.from.result qs ids) (sym arguments) (subst (λ ps. says ps (fractions_of (c.args.weight ∷ c.one.result ∷ [])) ids) (sym premises) follows))

-- nothing came
pub returns-in_err-number-clause-grows : goal.returns-in_err-number-clause-grows
returns-in_err-number-clause-grows c =
    let t = c.args.table.now in
    subst (λ (log : List Logged). Grows [] t t c.args.log.now log) (sym c.in_err-number.ensures) (Grows-self [] t c.args.log.now c.requires.log)

-- the step is last
grows : (c : In_ok-number) → Grows [] c.args.table.now c.args.table.now c.args.log.now c.add_right.new.self
grows c =
    let h = c.in_ok-number.ensures in
    Grows-push [] c.args.table.now c.args.log.now c.add_right.new.self (stepped LaGeneric c.from.result c.from-2.result c.from-3.result) h.last tt h.right

pub returns-in_err-push-clause-grows : goal.returns-in_err-push-clause-grows
returns-in_err-push-clause-grows c = grows (goal.at.returns-in_err-push-clause-grows c).In_ok-number

pub returns-clause-grows : goal.returns-clause-grows
returns-clause-grows c = grows (goal.at.returns-clause-grows c).In_ok-number

pub returns-clause-tells : goal.returns-clause-tells
returns-clause-tells c =
    let t = c.args.table.now in
    let h = c.in_ok-number.ensures in
    let l = stepped LaGeneric c.from.result c.from-2.result c.from-3.result in
    subst (λ (ids : List TermId). Tells (listed_steps t c.args.log.now c.args.steps.now.items) (listed_steps t c.add_right.new.self c.push.new.self.items) (clause_at t ids ∷ [])) c.from-3.ensures
    (Tells-push [] t c.args.log.now c.add_right.new.self l c.in_ok-number.number c.args.steps.now.items c.push.new.self.items
    (grows (goal.at.returns-clause-tells c).In_ok-number) c.requires.log h.number h.last c.in_ok-push.ensures.items)
