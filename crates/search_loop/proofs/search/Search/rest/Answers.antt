-- That what the search has fits together at level 0, and that the theory keeps up.
use Rattle.std.proofs.Common.{◌∙◌, sym, ap, refl, arith, length}
use Rattle.search_loop.proofs.SearchReady.{all_of_atoms, ready_cut}
use Rattle.search_loop.proofs.SearchRounds.{continues_same}
use Rattle.search_loop.proofs.search.Search.rest.Goals as goal

pub returns-then-level-eq0-clause-continues : goal.returns-then-level-eq0-clause-continues
returns-then-level-eq0-clause-continues g c t = continues_same t c.args.self.now c.args.self.now refl refl refl refl refl refl refl refl

pub go_back-requires-clause-below : goal.go_back-requires-clause-below
go_back-requires-clause-below g c = omega (arith, c.level.ensures, c.if-level-eq0.false)

pub go_back-requires-clause-keeps : goal.go_back-requires-clause-keeps
go_back-requires-clause-keeps g c = c.requires.asked.keeps

pub returns-clause-ready : goal.returns-clause-ready
returns-clause-ready g c t r =
    let x = c.args.self.now in
    let v = c.go_back.new.trail in
    let ws = c.put_back.new.self in
    let cut = c.go_back.ensures.cut in
    ready_cut t x v ws c.len-self.result 0 r cut (c.what_is_marked_was_seen.ensures.cut x.store x.trail v 0 r.seen cut) (c.reasons_stay_right.ensures.cut x.store x.trail v 0 r.implied cut)
    (c.put_back.ensures.waiting x.atoms.items v (all_of_atoms t x r) cut r.waiting) c.put_back.ensures.size

pub returns-clause-level : goal.returns-clause-level
returns-clause-level g c = c.go_back.ensures.cut.level_is

pub returns-clause-continues : goal.returns-clause-continues
returns-clause-continues g c t =
    let x = c.args.self.now in
    continues_same t x (record x { trail = c.go_back.new.trail; decider = c.put_back.new.self; fed = c.len-self.result }) refl refl refl c.go_back.ensures.cut.vars refl refl refl refl

pub returns-clause-asked : goal.returns-clause-asked
returns-clause-asked g c = record {
  keeps = c.go_back.ensures.back.keeps;
  terms = c.go_back.ensures.back.watched ∙ c.requires.asked.terms;
  fed = c.len-self.ensures ∙ ap length (sym c.go_back.ensures.back.holds);
}
