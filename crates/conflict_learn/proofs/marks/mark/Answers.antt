-- One variable more is marked.
use Rattle.std.proofs.Common.{[], ◌∷◌, ◌++◌, true, List, take, set, Contains, sym, subst, arith}
use Rattle.std.proofs.lemmas.List.{take_all}
use Rattle.spec_sorts.specs.Literals.{Literal, literals_of}
use Rattle.term_core.specs.Tables.{clause_at}
use Rattle.conflict_learn.specs.Analyses.{MarksVariables}
use Rattle.conflict_learn.proofs.Meanings.{literals_more, literal_in}
use Rattle.conflict_learn.proofs.Marking.{marks_none, marks_more}
use Rattle.conflict_learn.proofs.marks.mark.Goals as goal

pub loop-id-init : goal.loop-id-init
loop-id-init c = marks_none c.args.table.now c.args.marks.now.items

pub index_mut-requires : goal.index_mut-requires
index_mut-requires c =
    let t = c.args.table.now in
    let there = literal_in t c.args.clause.now c.loop-id.id-index _ c.loop-id-test.true in
    let meant = subst (λ (x : Literal). Contains (literals_of (clause_at t c.args.clause.now)) x) (sym c.literal-l.ensures.means) there in
    let known = c.requires.known c.literal-l.result c.literal-l.ensures.there meant in
    omega (arith, known, c.loop-id.invariant.size, c.loop-id.marks.ok.0)

pub loop-id-preserved : goal.loop-id-preserved
loop-id-preserved c =
    let t = c.args.table.now in
    let ids = c.args.clause.now in
    let old = c.args.marks.now.items in
    let new = set c.loop-id.marks.items c.literal-l.result.term.0 true in
    let there = literal_in t ids c.loop-id.id-index _ c.loop-id-test.true in
    let meant = subst (λ (x : Literal). Contains (literals_of (clause_at t ids)) x) (sym c.literal-l.ensures.means) there in
    let known = c.requires.known c.literal-l.result c.literal-l.ensures.there meant in
    let h = marks_more t _ old c.loop-id.marks.items c.literal-l.result c.literal-l.ensures.there (omega (arith, known, c.loop-id.invariant.size)) c.loop-id.invariant in
    subst (λ (ls : List Literal). MarksVariables t ls old new) (sym (literals_more t ids c.loop-id.id-index _ c.loop-id-test.true))
    (subst (λ (x : Literal). MarksVariables t (literals_of (clause_at t (take c.loop-id.id-index ids)) ++ x ∷ []) old new) c.literal-l.ensures.means h)

pub returns : goal.returns
returns c = rw (take_all _ _ c.loop-id-test.false) at c.loop-id.invariant
