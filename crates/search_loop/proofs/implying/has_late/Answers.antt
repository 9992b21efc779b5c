-- That it is another one of the clause's, and since when it is false.
use Rattle.std.proofs.Common.{◌<◌, sym, ap, ◌∙◌}
use Rattle.std.proofs.lemmas.List.Elements.{All-contains}
use Rattle.term_core.specs.declared.ids.Lit.{Lit}
use Rattle.clause_literals.specs.Literals.{lit_complement}
use Rattle.conflict_learn.proofs.Places.{place_of}
use Rattle.search_loop.proofs.SearchClauses.{lit_at}
use Rattle.search_loop.proofs.implying.has_late.Goals as goal

pub level_by-requires : goal.level_by-requires
level_by-requires c =
    let v = c.args.trail.now in
    let m = c.literal-m.result in
    let is_one = lit_at c.args.table.now c.args.clause.now c.loop-id.id-index _ c.loop-id-test.true m c.literal-m.ensures.there c.literal-m.ensures.means in
    record { known = All-contains (λ (l : Lit). l.term.0 < v.vars) v.literals (lit_complement m) c.is_sound.ensures.known (c.requires.others m is_one c.if-same.ensures) }

pub returns-then-level_by-level : goal.returns-then-level_by-level
returns-then-level_by-level c so =
    let v = c.args.trail.now in
    let m = c.literal-m.result in
    let is_one = lit_at c.args.table.now c.args.clause.now c.loop-id.id-index _ c.loop-id-test.true m c.literal-m.ensures.there c.literal-m.ensures.means in
    let k = place_of v.literals (lit_complement m) (c.requires.others m is_one c.if-same.ensures) in (
      m,
      is_one,
      c.if-same.ensures,
      record { place = k.0; within = k.1; there = k.2; level = sym (c.level_by.ensures k.0 k.1 (ap (λ (x : Lit). x.term) k.2)) ∙ c.if-level_by-level.true ∙ c.level.ensures },
    )
