-- That the analysis has begun at the end of the trail.
use Rattle.std.proofs.Common.{◌∙◌, ℕ, Bool, false, List, [], ◌∷◌, ◌++◌, length, Contains, sym, ap, subst, arith}
use Rattle.spec_sorts.specs.Literals.{literals_of}
use Rattle.term_core.specs.declared.ids.TermId.{TermId}
use Rattle.term_core.specs.declared.ids.Lit.{Lit}
use Rattle.term_core.specs.Tables.{clause_at, literal_at}
use Rattle.proof_log.specs.declared.premises.StepId.{StepId}
use Rattle.sat_trail.specs.Trails.{no_lit}
use Rattle.conflict_learn.specs.Conflicts.{Conflict}
use Rattle.conflict_learn.specs.Analyses.{IsVariableMarked, MarksVariables, Sorting, Sorts, sorting_of, HasCome}
use Rattle.conflict_learn.proofs.Sorting.{sorts_none}
use Rattle.conflict_learn.proofs.Following.{unmarked, clash_known, clash_before, begins}
use Rattle.conflict_learn.proofs.analysis.begin.Goals as goal

pub meet_all-requires-clause-known : goal.meet_all-requires-clause-known
meet_all-requires-clause-known c m there i =
    let t = c.args.table.now in
    let x : Conflict = record { table = t; log = c.args.log.now; trail = c.args.trail.now; clash = c.args.clash } in
    let has = subst (λ (ids : List TermId). Contains (literals_of (clause_at t ids)) (literal_at t m)) c.clause.ensures i in
    clash_known x c.args.trail.now.vars (λ p lt. c.is_sound.ensures.known p no_lit lt) c.requires.clash m (record { in_table = there; there = has })

pub returns-clause-begun : goal.returns-clause-begun
returns-clause-begun c =
    let t = c.args.table.now in
    let v = c.args.trail.now in
    let x : Conflict = record { table = t; log = c.args.log.now; trail = v; clash = c.args.clash } in
    let none = c.in_ok-marks.marks.items in
    let a = sorting_of c.meet_all.new.seen in
    let is = c.in_ok-marks.ensures.items_if_clones_equal (λ y same. same) in
    let empty : (n : ℕ) → IsVariableMarked none n → ⊥ = λ n m. unmarked c.vars.result n (subst (λ (ms : List Bool). IsVariableMarked ms n) is m) in
    let marks = subst (λ (ids : List TermId). MarksVariables t (literals_of (clause_at t ids)) none a.marks) c.clause.ensures c.in_ok-meet_all.ensures.marks in
    let started = subst (λ (ms : List Bool). let b : Sorting = record { marks = ms; many = 0; lower = []; back = 0; fixed = false } in Sorts v c.args.level (length v.literals) b) (sym is)
    (sorts_none v c.args.level (length v.literals) c.vars.result (omega arith) (unmarked c.vars.result)) in
    let begun = subst (λ (ls : List Lit). let b : Sorting = record { marks = none; many = 0; lower = ls; back = 0; fixed = false } in Sorts v c.args.level (length v.literals) b) (sym c.new.ensures.items) started in
    let sorted = c.in_ok-meet_all.ensures.sorts (length v.literals)
    (λ m there i. clash_before x c.is_sound.ensures.once c.ids_are_unique.ensures c.requires.clash none m (record { in_table = there; there = subst (λ (ids : List TermId). Contains (literals_of (clause_at t ids)) (literal_at t m)) c.clause.ensures i }))
    begun in
    let h : HasCome x c.args.level (length v.literals) a (c.args.clash ∷ []) = record { reached = begins x c.is_sound.ensures.once c.ids_are_unique.ensures c.requires.clash none a.marks empty marks; sorted = sorted } in
    let first = c.in_ok-push.ensures.items ∙ ap (λ (ps : List StepId). ps ++ c.args.clash ∷ []) c.new-premises.ensures.items in (
      c.len.ensures,
      subst (λ (k : ℕ). HasCome x c.args.level k a c.push.new.self.items) (sym c.len.ensures) (subst (λ (ps : List StepId). HasCome x c.args.level (length v.literals) a ps) (sym first) h),
    )
