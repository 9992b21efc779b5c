-- That what came up of level 0 is dropped.
use Rattle.std.proofs.Common.{◌∙◌, length, sym, arith, true≢false}
use Rattle.conflict_learn.specs.Conflicts.{Conflict}
use Rattle.conflict_learn.specs.Analyses.{sorting_of}
use Rattle.conflict_learn.proofs.Dropped.{drops_none, drops_past, none_fixed}
use Rattle.conflict_learn.proofs.dropping.drop_seen.Goals as goal

pub returns-then-not-analysis-clause-dropped : goal.returns-then-not-analysis-clause-dropped
returns-then-not-analysis-clause-dropped c clash n is_clash top above h =
    let v = c.args.trail.now in
    let x : Conflict = record { table = c.args.table.now; log = c.args.log.now; trail = v; clash = clash } in
    let once = c.is_sound.ensures.once in
    let differ = c.ids_are_unique.ensures in
    let leveled = c.is_sound.ensures.leveled in
    let a = sorting_of c.args.analysis.now.seen in
    let ps = c.args.analysis.now.premises.items in
    let from = c.args.analysis.now.at in
    let d = drops_none x once differ leveled is_clash c.requires.reasons from a.marks ps h.0.reached (none_fixed x once differ leveled is_clash c.requires.reasons n top above from a ps h.0 h.1) in
    drops_past x once differ leveled is_clash c.requires.reasons from a.marks ps (length v.literals) 0 d
    (λ p le lt pl m e. true≢false (sym (h.0.sorted.has_fixed p (record { within = pl; is_marked = m; of_other = λ is. omega (arith, e, is, above) }) e) ∙ c.if-not-analysis.true))

pub returns-clause-dropped : goal.returns-clause-dropped
returns-clause-dropped c clash n is_clash top above h =
    let v = c.args.trail.now in
    let x : Conflict = record { table = c.args.table.now; log = c.args.log.now; trail = v; clash = clash } in
    let once = c.is_sound.ensures.once in
    let differ = c.ids_are_unique.ensures in
    let leveled = c.is_sound.ensures.leveled in
    let a = sorting_of c.args.analysis.now.seen in
    let ps = c.args.analysis.now.premises.items in
    let from = c.args.analysis.now.at in
    let d = drops_none x once differ leveled is_clash c.requires.reasons from a.marks ps h.0.reached (none_fixed x once differ leveled is_clash c.requires.reasons n top above from a ps h.0 h.1) in
    c.in_ok-drop_fixed.ensures.dropped clash from is_clash d
