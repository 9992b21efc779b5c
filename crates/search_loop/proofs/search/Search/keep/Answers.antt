-- That the search goes on.
use Rattle.search_loop.proofs.SearchLevels.{undecided}
use Rattle.search_loop.proofs.SearchKept.{continues_kept, ready_kept}
use Rattle.search_loop.proofs.search.Search.keep.Goals as goal

pub returns-clause-continues : goal.returns-clause-continues
returns-clause-continues c =
    let held = c.requires.clash in
    continues_kept c.args.table.now c.args.self.now c.requires.ready c.args.step held.0 held.1 held.2 c.add.new.self c.in_ok-add.ensures

pub returns-clause-ready : goal.returns-clause-ready
returns-clause-ready c =
    let t = c.args.table.now in
    let x = c.args.self.now in
    let s = c.add.new.self in
    let held = c.requires.clash in
    let r = c.requires.ready in
    ready_kept t x r c.args.step held.0 held.1 held.2 s c.in_ok-add.ensures
    (λ p lt none. absurd (undecided x.trail c.is_sound.ensures.once c.is_sound.ensures.leveled c.requires.level p lt none))
    (c.what_is_marked_was_seen.ensures.added t x.log c.args.step x.store s x.trail r.seen c.in_ok-add.ensures)
    (c.reasons_stay_right.ensures.added t x.log c.args.step x.store s x.trail c.steps_are_paired.ensures r.implied c.in_ok-add.ensures)
