-- That the literal of one place is dropped.
use Rattle.std.proofs.Common.{◌≡◌, ◌∙◌, ◌<◌, ◌+◌, List, length, get_or, Contains, None, Some, sym, subst, arith, true≢false}
use Rattle.spec_sorts.specs.Literals.{literals_of}
use Rattle.term_core.specs.declared.ids.TermId.{TermId}
use Rattle.term_core.specs.declared.ids.Lit.{Lit}
use Rattle.term_core.specs.Tables.{clause_at, literal_at}
use Rattle.proof_log.specs.declared.premises.StepId.{StepId}
use Rattle.sat_trail.specs.Trails.{no_lit}
use Rattle.conflict_learn.specs.Conflicts.{Conflict, step_of}
use Rattle.conflict_learn.specs.Analyses.{IsMarkedAt, MarksVariables, AreDropped}
use Rattle.conflict_learn.proofs.Following.{placed, reason_known}
use Rattle.conflict_learn.proofs.Dropped.{drops_past, drops_one}
use Rattle.conflict_learn.proofs.dropping.drop_at.Goals as goal

pub returns-then-not-index-clause-dropped : goal.returns-then-not-index-clause-dropped
returns-then-not-index-clause-dropped c clash from is_clash d =
    let v = c.args.trail.now in
    let marks = c.args.marks.now.items in
    let x : Conflict = record { table = c.args.table.now; log = c.args.log.now; trail = v; clash = clash } in
    let known : c.literal-l.result.term.0 < length marks = subst (λ (l : Lit). l.term.0 < length marks) (sym c.literal-l.ensures) (let k = c.is_sound.ensures.known c.args.at no_lit c.requires.at in omega (arith, k, c.requires.size)) in
    let mark = placed v marks c.args.at c.literal-l.result c.index.result.now c.literal-l.ensures known c.index.ensures in
    drops_past x c.is_sound.ensures.once c.ids_are_unique.ensures c.is_sound.ensures.leveled is_clash c.requires.reasons from marks c.args.premises.now.items (c.args.at + 1) c.args.at d
    (λ p le lt pl m e. let is : p ≡ c.args.at = omega (arith, le, lt) in true≢false (sym (subst (IsMarkedAt v marks) is m) ∙ mark ∙ c.if-not-index.true))

pub mark-requires-clause-known : goal.mark-requires-clause-known
mark-requires-clause-known c m there i =
    let t = c.args.table.now in
    let v = c.args.trail.now in
    let x : Conflict = record { table = t; log = c.args.log.now; trail = v; clash = step_of c.in-Some.number } in
    let by = c.requires.reasons c.args.at c.in-Some.number c.requires.at (sym c.reason.ensures ∙ c.in-Some.is) in
    let has = subst (λ (ids : List TermId). Contains (literals_of (clause_at t ids)) (literal_at t m)) c.clause.ensures i in
    let k = reason_known x v.vars (λ p lt. c.is_sound.ensures.known p no_lit lt) c.args.at c.in-Some.number c.requires.at by m (record { in_table = there; there = has }) in
    omega (arith, k, c.requires.size)

pub returns-clause-dropped : goal.returns-clause-dropped
returns-clause-dropped c clash from is_clash d =
    let t = c.args.table.now in
    let v = c.args.trail.now in
    let marks = c.args.marks.now.items in
    let x : Conflict = record { table = t; log = c.args.log.now; trail = v; clash = clash } in
    let known : c.literal-l.result.term.0 < length marks = subst (λ (l : Lit). l.term.0 < length marks) (sym c.literal-l.ensures) (let k = c.is_sound.ensures.known c.args.at no_lit c.requires.at in omega (arith, k, c.requires.size)) in
    let is_marked : IsMarkedAt v marks c.args.at = placed v marks c.args.at c.literal-l.result c.index.result.now c.literal-l.ensures known c.index.ensures ∙ c.if-not-index.false in
    let reason : get_or v.reasons c.args.at None ≡ Some c.in-Some.number = sym c.reason.ensures ∙ c.in-Some.is in
    let more = subst (λ (ids : List TermId). MarksVariables t (literals_of (clause_at t ids)) marks c.mark.new.marks.items) c.clause.ensures c.mark.ensures in
    let h = drops_one x c.is_sound.ensures.once c.ids_are_unique.ensures c.is_sound.ensures.leveled is_clash c.requires.reasons from marks c.args.premises.now.items c.args.at c.requires.at c.requires.fixed c.in-Some.number is_marked reason c.mark.new.marks.items more d in
    subst (λ (ps : List StepId). AreDropped x from c.args.at c.mark.new.marks.items ps) (sym c.in_ok-push.ensures.items) h
