-- One term less at each turn.
use Rattle.std.proofs.Common.{◌≡◌, ◌<◌, ◌≤◌, ◌-◌, ℕ, length, take, inr, sym, ap, ◌∙◌, subst, arith}
use Rattle.std.proofs.lemmas.List.{length-map, take-map, take-take, length-take-le}
use Rattle.congruence_relation.specs.Relation.{application, applications}
use Rattle.congruence_closure.specs.Tables.{lists, IsIndexed}
use Rattle.congruence_closure.proofs.Places.{indexed_take}
use Rattle.congruence_closure.proofs.listing.Listing.cut.Goals as goal

pub newest-preserved : goal.newest-preserved
newest-preserved c =
    let old = c.newest.self-inside.listed.items in
    let n : ℕ = c.len-place.result - 1 in
    let some : c.args.count < length c.newest.self-inside.listed.items = omega (arith, c.newest.self-inside.listed.ok.0) in
    let below : n ≤ length c.newest.self-inside.listed.items = omega (arith, c.newest.self-inside.listed.ok.0) in
    let apps : length (applications c.newest.self-inside.listed.items) ≡ length c.newest.self-inside.listed.items = length-map c.newest.self-inside.listed.items application in
    let is : applications c.truncate.new.self.items ≡ take n (applications c.newest.self-inside.listed.items) = ap applications c.truncate.ensures.items ∙ sym (take-map application n c.newest.self-inside.listed.items) in
    let size : length c.truncate.new.self.items ≡ n = ap length c.truncate.ensures.items ∙ length-take-le n c.newest.self-inside.listed.items below in
    record {
      indexed = subst (λ xs. IsIndexed xs c.newest.self-inside.places.items (lists c.drop_users.new.all.items)) (sym is)
          (indexed_take (applications c.newest.self-inside.listed.items) c.newest.self-inside.places.items (lists c.newest.self-inside.users.items) (lists c.drop_users.new.all.items) n
          (omega (arith, apps, below)) c.drop_users.ensures c.newest.invariant.indexed);
      kept = is ∙ ap (take n) c.newest.invariant.kept ∙ take-take n (length c.newest.self-inside.listed.items) c.args.self.now below ∙ ap (λ k. take k c.args.self.now) (sym size);
      fits = omega (arith, size, below, c.newest.invariant.fits);
      enough = inr (omega (arith, size, some, c.newest.self-inside.listed.ok.0));
    }
