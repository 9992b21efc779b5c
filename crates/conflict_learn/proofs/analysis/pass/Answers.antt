-- That one place is passed.
use Rattle.std.proofs.Common.{◌≡◌, ◌∙◌, ◌<◌, ◌-◌, List, length, get_or, Contains, None, Some, refl, sym, subst, arith, true≢false}
use Rattle.spec_sorts.specs.Literals.{literals_of}
use Rattle.term_core.specs.declared.ids.TermId.{TermId}
use Rattle.term_core.specs.declared.ids.Lit.{Lit}
use Rattle.term_core.specs.Tables.{clause_at, literal_at}
use Rattle.proof_log.specs.declared.premises.StepId.{StepId}
use Rattle.sat_trail.specs.Trails.{no_lit}
use Rattle.conflict_learn.specs.Conflicts.{Conflict, step_of}
use Rattle.conflict_learn.specs.Analyses.{IsMarkedAt, MarksVariables, Sorting, sorting_of, HasCome}
use Rattle.conflict_learn.proofs.Sorting.{sorts_past, sorts_less}
use Rattle.conflict_learn.proofs.Following.{placed, no_reason, reason_known, reason_lit, passes_by, passes}
use Rattle.conflict_learn.proofs.analysis.pass.Goals as goal

pub returns-then-not-index-clause-passed : goal.returns-then-not-index-clause-passed
returns-then-not-index-clause-passed c clash is_clash r =
    let v = c.args.trail.now in
    let a = sorting_of c.args.analysis.now.seen in
    let x : Conflict = record { table = c.args.table.now; log = c.args.log.now; trail = v; clash = clash } in
    let known : c.literal-l.result.term.0 < length a.marks = subst (λ (l : Lit). l.term.0 < length a.marks) (sym c.literal-l.ensures) (let k = c.is_sound.ensures.known c.args.at no_lit c.requires.at in omega (arith, k, c.requires.size)) in
    let mark = placed v a.marks c.args.at c.literal-l.result c.index.result.now c.literal-l.ensures known c.index.ensures in
    let unmarked : IsMarkedAt v a.marks c.args.at → ⊥ = λ m. true≢false (sym m ∙ mark ∙ c.if-not-index.true) in
    passes_by x c.is_sound.ensures.once c.ids_are_unique.ensures c.is_sound.ensures.leveled is_clash c.requires.reasons c.args.at c.requires.at c.args.level a c.args.analysis.now.premises.items r
    (λ s m e. unmarked m) a refl (sorts_past v c.args.level c.args.at a unmarked r.sorted)

pub returns-in_default-clause-passed : goal.returns-in_default-clause-passed
returns-in_default-clause-passed c clash is_clash r =
    let v = c.args.trail.now in
    let a = sorting_of c.args.analysis.now.seen in
    let x : Conflict = record { table = c.args.table.now; log = c.args.log.now; trail = v; clash = clash } in
    let known : c.literal-l.result.term.0 < length a.marks = subst (λ (l : Lit). l.term.0 < length a.marks) (sym c.literal-l.ensures) (let k = c.is_sound.ensures.known c.args.at no_lit c.requires.at in omega (arith, k, c.requires.size)) in
    let is_marked : IsMarkedAt v a.marks c.args.at = placed v a.marks c.args.at c.literal-l.result c.index.result.now c.literal-l.ensures known c.index.ensures ∙ c.if-not-index.false in
    let less : Sorting = record { marks = a.marks; many = c.args.analysis.now.seen.many - 1; lower = a.lower; back = a.back; fixed = a.fixed } in
    passes_by x c.is_sound.ensures.once c.ids_are_unique.ensures c.is_sound.ensures.leveled is_clash c.requires.reasons c.args.at c.requires.at c.args.level a c.args.analysis.now.premises.items r
    (λ s m e. no_reason c.reason.result s c.in_default.is (c.reason.ensures ∙ e)) less refl
    (sorts_less v c.args.level c.args.at a (c.args.analysis.now.seen.many - 1) is_marked (c.requires.of_level is_marked) (omega (arith, c.requires.some)) r.sorted)

pub meet_all-requires-clause-known : goal.meet_all-requires-clause-known
meet_all-requires-clause-known c m there i =
    let t = c.args.table.now in
    let v = c.args.trail.now in
    let x : Conflict = record { table = t; log = c.args.log.now; trail = v; clash = step_of c.in-Some.number } in
    let by = c.requires.reasons c.args.at c.in-Some.number c.requires.at (sym c.reason.ensures ∙ c.in-Some.is) in
    let has = subst (λ (ids : List TermId). Contains (literals_of (clause_at t ids)) (literal_at t m)) c.clause.ensures i in
    reason_known x v.vars (λ p lt. c.is_sound.ensures.known p no_lit lt) c.args.at c.in-Some.number c.requires.at by m (record { in_table = there; there = has })

pub returns-clause-passed : goal.returns-clause-passed
returns-clause-passed c clash is_clash r =
    let t = c.args.table.now in
    let v = c.args.trail.now in
    let a = sorting_of c.args.analysis.now.seen in
    let b = sorting_of c.meet_all.new.seen in
    let x : Conflict = record { table = t; log = c.args.log.now; trail = v; clash = clash } in
    let once = c.is_sound.ensures.once in
    let known : c.literal-l.result.term.0 < length a.marks = subst (λ (l : Lit). l.term.0 < length a.marks) (sym c.literal-l.ensures) (let k = c.is_sound.ensures.known c.args.at no_lit c.requires.at in omega (arith, k, c.requires.size)) in
    let is_marked : IsMarkedAt v a.marks c.args.at = placed v a.marks c.args.at c.literal-l.result c.index.result.now c.literal-l.ensures known c.index.ensures ∙ c.if-not-index.false in
    let reason : get_or v.reasons c.args.at None ≡ Some c.in-Some.number = sym c.reason.ensures ∙ c.in-Some.is in
    let more = subst (λ (ids : List TermId). MarksVariables t (literals_of (clause_at t ids)) a.marks b.marks) c.clause.ensures c.in_ok-meet_all.ensures.marks in
    let less = sorts_less v c.args.level c.args.at a (c.args.analysis.now.seen.many - 1) is_marked (c.requires.of_level is_marked) (omega (arith, c.requires.some)) r.sorted in
    let sorted = c.in_ok-meet_all.ensures.sorts c.args.at
    (λ m there i. reason_lit x once c.ids_are_unique.ensures c.is_sound.ensures.leveled is_clash c.requires.reasons c.args.at c.requires.at c.in-Some.number reason a.marks is_marked m
    (record { in_table = there; there = subst (λ (ids : List TermId). Contains (literals_of (clause_at t ids)) (literal_at t m)) c.clause.ensures i }))
    less in
    let h = passes x once c.ids_are_unique.ensures c.is_sound.ensures.leveled is_clash c.requires.reasons c.args.at c.requires.at c.args.level a c.args.analysis.now.premises.items r c.in-Some.number is_marked reason b more sorted in
    subst (λ (ps : List StepId). HasCome x c.args.level c.args.at b ps) (sym c.in_ok-push.ensures.items) h
