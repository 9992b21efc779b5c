use Rattle.std.proofs.Common.{◌≡◌, ◌∷◌, ◌<◌, length, map, slice_set, rules, ap, sym, ◌∙◌, subst}
use Rattle.std.proofs.lemmas.List.{length-set, nil_from_length}
use Rattle.simplex_bounds.specs.Deltas.{pair_of}
use Rattle.spec_tableaux.specs.Points.{point_in}
use Rattle.simplex_check.specs.Changes.{ChangesAreBelow, written}
use Rattle.simplex_check.proofs.Writing.{known_first, written_step}
use Rattle.simplex_check.proofs.changes.write.Goals as goal

pub index_mut-requires : goal.index_mut-requires
index_mut-requires c =
    let some : c.loop-change.rest.now ≡ c.in-Some.change.now ∷ c.in-Some.more.now = search rules in
    let h : c.in-Some.change.now.variable < length c.loop-change.values.items = (known_first (length c.loop-change.values.items) c.in-Some.change.now c.loop-change.rest.now c.in-Some.more.now some c.loop-change.invariant.known).0 in
    search rules

pub loop-change-preserved : goal.loop-change-preserved
loop-change-preserved c =
    let some : c.loop-change.rest.now ≡ c.in-Some.change.now ∷ c.in-Some.more.now = search rules in
    let k = known_first (length c.loop-change.values.items) c.in-Some.change.now c.loop-change.rest.now c.in-Some.more.now some c.loop-change.invariant.known in
    let l : length (slice_set c.loop-change.values.items c.in-Some.change.now.variable c.in-Some.change.now.value) ≡ length c.loop-change.values.items = length-set c.loop-change.values.items c.in-Some.change.now.variable c.in-Some.change.now.value in
    record {
      known = subst (λ n. ChangesAreBelow n c.in-Some.more.now) (sym l) k.1;
      lengths = l ∙ c.loop-change.invariant.lengths;
      point = written_step c.loop-change.values.items c.in-Some.change.now c.loop-change.rest.now c.in-Some.more.now (λ y. written c.args.changes.now (point_in (map pair_of c.args.values.now.items)) y) some k.0 c.loop-change.invariant.point;
    }

pub returns-clause-point : goal.returns-clause-point
returns-clause-point c = λ y. ap (λ cs. written cs (point_in (map pair_of c.loop-change.values.items)) y) (sym (nil_from_length c.loop-change.rest.now c.in_default.ensures.cases)) ∙ c.loop-change.invariant.point y
