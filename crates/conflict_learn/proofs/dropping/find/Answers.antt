-- That the clause of the point is found.
use Rattle.std.proofs.Common.{◌≡◌, ◌∙◌, ◌∷◌, [], ◌++◌, Bool, List, sym, subst}
use Rattle.term_core.specs.declared.ids.Lit.{Lit}
use Rattle.clause_literals.specs.Literals.{lit_complement}
use Rattle.conflict_learn.specs.Conflicts.{Conflict}
use Rattle.conflict_learn.specs.Points.{IsLeft}
use Rattle.conflict_learn.specs.Analyses.{IsMarkedAt, IsNewest, IsBack, sorting_of}
use Rattle.conflict_learn.proofs.Dropped.{has_one, all_used, is_left, is_back}
use Rattle.conflict_learn.proofs.dropping.find.Goals as goal

pub newest_before-one-requires-clause-some : goal.newest_before-one-requires-clause-some
newest_before-one-requires-clause-some c =
    let v = c.args.trail.now in
    let x : Conflict = record { table = c.args.table.now; log = c.args.log.now; trail = v; clash = c.args.clash } in
    let h = c.in_ok-analysis.ensures.passed in
    let a = c.in_ok-analysis.analysis in
    let o = has_one x c.is_sound.ensures.once c.ids_are_unique.ensures c.is_sound.ensures.leveled c.requires.clash c.requires.reasons c.args.level c.requires.level c.requires.above a.at (sorting_of a.seen) a.premises.items h.0 h.1 in
    (o.0, o.1, subst (λ (ms : List Bool). IsMarkedAt v ms o.0) (sym c.deref.ensures.value) o.2)

pub returns : goal.returns
returns c =
    let v = c.args.trail.now in
    let n = c.args.level in
    let x : Conflict = record { table = c.args.table.now; log = c.args.log.now; trail = v; clash = c.args.clash } in
    let once = c.is_sound.ensures.once in
    let differ = c.ids_are_unique.ensures in
    let leveled = c.is_sound.ensures.leveled in
    let h = c.in_ok-analysis.ensures.passed in
    let a = sorting_of c.in_ok-analysis.analysis.seen in
    let from = c.in_ok-analysis.analysis.at in
    let ps = c.in_ok-analysis.analysis.premises.items in
    let one = c.newest_before-one.result in
    let newest = subst (λ (ms : List Bool). IsNewest v ms from one) c.deref.ensures.value c.newest_before-one.ensures in
    let d = c.in_ok-drop_seen.ensures.dropped c.args.clash n c.requires.clash c.requires.level c.requires.above h in
    let clause : c.push.new.self.items ≡ a.lower ++ lit_complement one ∷ [] = c.in_ok-push.ensures.items ∙ (λ i. (c.drop_seen.ensures.lower i).items ++ c.negated.ensures i ∷ []) in
    let left = is_left x once differ leveled c.requires.clash c.requires.reasons n c.requires.level c.requires.above from a ps h.0 h.1 one newest in
    let back = is_back x once differ leveled c.requires.clash c.requires.reasons n c.requires.level c.requires.above from a ps h.0 h.1 one newest in (
      record {
        from = from;
        point = h.1;
        left = subst (IsLeft x from) (sym clause) left;
        used = all_used x once differ leveled c.requires.clash c.requires.reasons from c.drop_seen.new.analysis.seen.marks.items c.drop_seen.new.analysis.premises.items d;
      },
      subst (λ (ls : List Lit). IsBack v n ls c.drop_seen.new.analysis.seen.back) (sym clause) (subst (IsBack v n (a.lower ++ lit_complement one ∷ [])) (sym c.drop_seen.ensures.back) back),
    )
