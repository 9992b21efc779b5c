-- That the literals up to here have the level, and then all.
use Rattle.std.proofs.Common.{◌∙◌, [], ◌∷◌, ◌++◌, List, take, Contains, sym, subst}
use Rattle.std.proofs.lemmas.List.{take_all}
use Rattle.spec_sorts.specs.Literals.{Literal, literals_of}
use Rattle.term_core.specs.declared.ids.TermId.{TermId}
use Rattle.term_core.specs.Tables.{clause_at, literal_at}
use Rattle.conflict_learn.specs.Analyses.{IsGreatestOf}
use Rattle.conflict_learn.proofs.Meanings.{literals_more, literal_in}
use Rattle.conflict_learn.proofs.Marking.{greatest_level}
use Rattle.conflict_learn.proofs.level.conflict_level.Goals as goal

pub higher-level-requires : goal.higher-level-requires
higher-level-requires c =
    let t = c.args.table.now in
    let there = literal_in t c.clause-id-items.result.now c.loop-id.id-index _ c.loop-id-test.true in
    let meant = subst (λ (x : Literal). Contains (literals_of (clause_at t c.clause-id-items.result.now)) x) (sym c.literal.ensures.means) there in
    c.requires.clash.fails c.literal.result (record {
      in_table = c.literal.ensures.there;
      there = subst (λ (ids : List TermId). Contains (literals_of (clause_at t ids)) (literal_at t c.literal.result)) c.clause-id-items.ensures meant;
    })

pub loop-id-preserved : goal.loop-id-preserved
loop-id-preserved c =
    let t = c.args.table.now in
    let v = c.args.trail.now in
    let ids = c.clause-id-items.result.now in
    let h = c.higher-level.ensures t _ c.ids_are_unique.ensures c.literal.ensures.there c.loop-id.invariant in
    subst (λ (ls : List Literal). IsGreatestOf t v ls c.higher-level.result) (sym (literals_more t ids c.loop-id.id-index _ c.loop-id-test.true))
    (subst (λ (x : Literal). IsGreatestOf t v (literals_of (clause_at t (take c.loop-id.id-index ids)) ++ x ∷ []) c.higher-level.result) c.literal.ensures.means h)

pub returns : goal.returns
returns c =
    let t = c.args.table.now in
    let v = c.args.trail.now in
    let all = subst (λ (ids : List TermId). IsGreatestOf t v (literals_of (clause_at t ids)) c.loop-id.level) (take_all _ _ c.loop-id-test.false ∙ c.clause-id-items.ensures) c.loop-id.invariant in
    greatest_level (record { table = t; log = c.args.log.now; trail = v; clash = c.args.clash }) c.loop-id.level all
