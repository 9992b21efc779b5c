-- One number after the other.
use Rattle.std.proofs.Common.{◌≡◌, ◌<◌, ◌++◌, ℕ, List, length, map, set, take, drop, get_or, sym, ap, ◌∙◌, subst}
use Rattle.proof_log.specs.declared.premises.StepId.{StepId}
use Rattle.proof_log.specs.Keeping.{step_of}
use Rattle.proof_log.specs.Moving.{new_number}
use Rattle.proof_log.proofs.Renaming.{renamed_at, renamed_more}
use Rattle.proof_log.proofs.keeping.rename_all.Goals as goal

-- the number that is read is the old one
read : (f : StepId → StepId) (now old : List StepId) (k : ℕ) → k < length old → now ≡ map f (take k old) ++ drop k old → get_or now k (step_of 0) ≡ get_or old k (step_of 0)
read f now old k lt is = ap (λ (l : List StepId). get_or l k (step_of 0)) is ∙ renamed_at f old k lt (step_of 0)

pub number_of-requires : goal.number_of-requires
number_of-requires c = subst (λ (s : StepId). s.0 < length c.args.marks.now.items) (sym (read (new_number c.args.from c.args.marks.now.items) c.steps.steps c.args.steps.now c.steps.k c.steps-test.true c.steps.invariant)) (c.requires c.steps.k (step_of 0) c.steps-test.true)

pub steps-preserved : goal.steps-preserved
steps-preserved c =
    let f = new_number c.args.from c.args.marks.now.items in
    let old = c.args.steps.now in
    ap (λ (l : List StepId). set l c.steps.k c.number_of.result) c.steps.invariant
    ∙ ap (λ (s : StepId). set (map f (take c.steps.k old) ++ drop c.steps.k old) c.steps.k s) (c.number_of.ensures ∙ ap f (read f c.steps.steps old c.steps.k c.steps-test.true c.steps.invariant)) ∙ renamed_more f old c.steps.k c.steps-test.true
