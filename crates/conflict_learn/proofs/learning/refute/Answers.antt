-- That the clause without literals follows.
use Rattle.std.proofs.Common.{◌∙◌, ℕ, Bool, List, [], ◌∷◌, ◌++◌, length, refl, sym, ap, subst, arith}
use Rattle.spec_sorts.specs.Literals.{literals_of}
use Rattle.term_core.specs.declared.ids.TermId.{TermId}
use Rattle.term_core.specs.Tables.{clause_at}
use Rattle.proof_log.specs.declared.premises.StepId.{StepId}
use Rattle.conflict_learn.specs.Conflicts.{Conflict}
use Rattle.conflict_learn.specs.Analyses.{IsVariableMarked, MarksVariables, AreDropped}
use Rattle.conflict_learn.proofs.Uip.{met_within}
use Rattle.conflict_learn.proofs.Following.{unmarked, begins}
use Rattle.conflict_learn.proofs.Dropped.{drops_none, has_used}
use Rattle.conflict_learn.proofs.Concluding.{states_follow, zero_left, states_none, refutes}
use Rattle.conflict_learn.proofs.learning.refute.Goals as goal

pub log_step-requires-clause-follows : goal.log_step-requires-clause-follows
log_step-requires-clause-follows c =
    let t = c.args.table.now in
    let v = c.args.trail.now in
    let x : Conflict = record { table = t; log = c.args.log.now; trail = v; clash = c.args.clash } in
    let once = c.is_sound.ensures.once in
    let leveled = c.is_sound.ensures.leveled in
    let ps = c.drop_fixed.new.premises.items in
    let none = c.in_ok-marks.marks.items in
    let marks = c.mark.new.marks.items in
    let is = c.in_ok-marks.ensures.items_if_clones_equal (λ y same. same) in
    let empty : (n : ℕ) → IsVariableMarked none n → ⊥ = λ n m. unmarked c.vars.result n (subst (λ (ms : List Bool). IsVariableMarked ms n) is m) in
    let more = subst (λ (ids : List TermId). MarksVariables t (literals_of (clause_at t ids)) none marks) c.clause.ensures c.mark.ensures in
    let first = c.in_ok-push.ensures.items ∙ ap (λ (xs : List StepId). xs ++ c.args.clash ∷ []) c.new-premises.ensures.items in
    let start = drops_none x once c.ids_are_unique.ensures leveled c.requires.clash c.requires.reasons (length v.literals) marks (c.args.clash ∷ []) (begins x once c.ids_are_unique.ensures c.requires.clash none marks empty more) (λ p le lt e. omega (arith, le, lt)) in
    let d = c.in_ok-drop_fixed.ensures.dropped c.args.clash (length v.literals) c.requires.clash (subst (λ (xs : List StepId). AreDropped x (length v.literals) (length v.literals) marks xs) (sym first) start) in
    states_follow x once leveled c.requires.clash c.requires.reasons c.requires.log c.terms_are_closed.ensures (length v.literals) ps d.no_others
    (has_used x once c.ids_are_unique.ensures leveled c.requires.clash c.requires.reasons (length v.literals) c.drop_fixed.new.marks.items ps d)
    [] (λ p lt m up. zero_left x once leveled c.requires.clash c.requires.reasons c.requires.of_zero (length v.literals) p m up)
    (λ p le m none. omega (arith, le, met_within x (length v.literals) p m))
    t c.new.result.items (states_none t c.new.result.items c.new.ensures.items) refl

pub returns : goal.returns
returns c =
    let t = c.args.table.now in
    let v = c.args.trail.now in
    let x : Conflict = record { table = t; log = c.args.log.now; trail = v; clash = c.args.clash } in
    let once = c.is_sound.ensures.once in
    let leveled = c.is_sound.ensures.leveled in
    let none = c.in_ok-marks.marks.items in
    let marks = c.mark.new.marks.items in
    let is = c.in_ok-marks.ensures.items_if_clones_equal (λ y same. same) in
    let empty : (n : ℕ) → IsVariableMarked none n → ⊥ = λ n m. unmarked c.vars.result n (subst (λ (ms : List Bool). IsVariableMarked ms n) is m) in
    let more = subst (λ (ids : List TermId). MarksVariables t (literals_of (clause_at t ids)) none marks) c.clause.ensures c.mark.ensures in
    let first = c.in_ok-push.ensures.items ∙ ap (λ (xs : List StepId). xs ++ c.args.clash ∷ []) c.new-premises.ensures.items in
    let start = drops_none x once c.ids_are_unique.ensures leveled c.requires.clash c.requires.reasons (length v.literals) marks (c.args.clash ∷ []) (begins x once c.ids_are_unique.ensures c.requires.clash none marks empty more) (λ p le lt e. omega (arith, le, lt)) in
    let d = c.in_ok-drop_fixed.ensures.dropped c.args.clash (length v.literals) c.requires.clash (subst (λ (xs : List StepId). AreDropped x (length v.literals) (length v.literals) marks xs) (sym first) start) in
    refutes x once leveled c.requires.clash c.requires.reasons (length v.literals) c.drop_fixed.new.premises.items d.no_others c.new.result.items c.new.ensures.items c.log_step.result c.log_step.new.log c.log_step.ensures
