-- That the clause implies a literal of an atom, with which the search goes on.
use Rattle.std.proofs.Common.{◌∙◌, List, sym, subst, arith}
use Rattle.std.specs.Prelude.{Some}
use Rattle.term_core.specs.declared.ids.TermId.{TermId}
use Rattle.term_core.specs.Tables.{AreIn}
use Rattle.proof_log.specs.Logs.{no_logged}
use Rattle.search_loop.specs.Implying.{IsImplying}
use Rattle.search_loop.proofs.SearchImplied.{adds, has_implied}
use Rattle.search_loop.proofs.search.Search.imply.Goals as goal

pub implied_by-requires : goal.implied_by-requires
implied_by-requires c = subst (AreIn c.args.table.now) (sym c.clause.ensures) (λ k d lt. (c.requires.ready.right.formulas c.args.step.0 no_logged c.requires.step k d lt).0)

pub waits-requires : goal.waits-requires
waits-requires c = omega (arith, c.in-Some.ensures.is_open.known, c.requires.ready.sized)

pub imply-requires : goal.imply-requires
imply-requires c = record { known = c.in-Some.ensures.is_open.known; unassigned = c.in-Some.ensures.is_open.unassigned }

pub returns : goal.returns
returns c =
    let t = c.args.table.now in
    let x = c.args.self.now in
    let r = c.requires.ready in
    let step = c.args.step in
    let l = c.in-Some.l in
    let s = c.add.new.self in
    let v = c.imply.new.self in
    let a = c.in_ok-add.ensures in
    let pushed = c.imply.ensures in
    let once = c.is_sound.ensures.once in
    let leveled = c.is_sound.ensures.leveled in
    let differ = c.ids_are_unique.ensures in
    let implying = subst (λ (ids : List TermId). IsImplying t x.trail ids l) c.clause.ensures c.in-Some.ensures in
    let atom = r.waiting.only l.term (sym c.waits.ensures ∙ c.if-not-waits.false) in
    let seen = c.what_is_marked_was_seen.ensures.added t x.log step x.store s x.trail r.seen a in
    let implied = c.reasons_stay_right.ensures.added t x.log step x.store s x.trail c.steps_are_paired.ensures r.implied a in
    has_implied t differ x r step c.requires.step l implying atom once leveled s a seen implied v pushed
    (c.what_is_marked_was_seen.ensures.pushed s x.trail v l (Some step.0) x.trail.level c.is_sound.ensures.propagated seen pushed)
    (c.reasons_stay_right.ensures.propagated s x.trail v implied (adds t differ x r step c.requires.step l implying atom once leveled s a seen implied v pushed))
