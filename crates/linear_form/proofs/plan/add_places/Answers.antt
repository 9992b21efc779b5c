-- One place after the other comes.
use Rattle.std.proofs.Common.{◌<◌, length, sym, subst, ◌∙◌}
use Rattle.term_walks.specs.Orders.{numbers_of, In}
use Rattle.term_walks.proofs.Named.{numbers_length}
use Rattle.linear_form.proofs.PlacesUsed.{places_more, all_more, all_at, number_at}
use Rattle.linear_form.proofs.plan.add_places.Goals as goal

pub place_of-requires-clause-there : goal.place_of-requires-clause-there
place_of-requires-clause-there c = all_at (λ q. In q c.args.order.now) c.args.ids.now c.ids.at (record { 0 = 0 }) c.ids-test.true c.requires.there

pub ids-preserved : goal.ids-preserved
ids-preserved c =
    let ids = c.args.ids.now in
    let order = c.args.order.now in
    let lt = c.ids-test.true in
    record {
      same = places_more order c.args.uses.now.items c.ids.uses.items c.push.new.self.items (numbers_of ids) c.ids.at c.place_of.result 0 c.in_ok-push.ensures.items (c.place_of.ensures.same ∙ number_at ids c.ids.at (record { 0 = 0 }) lt) (subst (λ n. c.ids.at < n) (sym (numbers_length ids)) lt) c.ids.invariant.same;
      inside = λ h. all_more (λ j. j < length order) c.ids.uses.items c.push.new.self.items c.place_of.result c.in_ok-push.ensures.items c.place_of.ensures.inside (c.ids.invariant.inside h);
    }
