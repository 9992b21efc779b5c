-- The parts fit together, and as many numbers as clauses are left.
use Rattle.std.proofs.Common.{◌≡◌, ◌≤◌, ◌∙◌, length, sym, ap, arith}
use Rattle.std.proofs.lemmas.List.{length-take-le}
use Rattle.clause_store.specs.Stores.{StoreView}
use Rattle.clause_store.proofs.Stored.{clause_count}
use Rattle.clause_store.proofs.Places.{numbered_count}
use Rattle.clause_store.proofs.Kept.{fewer_kept}
use Rattle.clause_store.proofs.store.ClauseStore.keep.Goals as goal

pub invariant_of-self : goal.invariant_of-self
invariant_of-self c =
    let es = c.self.inside.parts.watched.entries.items in
    let new = c.keep.new.self.watched.entries in
    let numbers = c.number_all.new.numbers.items in
    let count : length c.args.kept.now ≡ length es = c.requires.count ∙ ap (λ (s : StoreView). length s.clauses) (sym c.self.view_is) ∙ clause_count es in
    let fewer : c.len.result ≤ length numbers = omega (arith, fewer_kept c.args.kept.now es new.items count c.keep.ensures.entries, c.len.ensures, new.ok.0, ap length c.number_all.ensures, numbered_count c.args.kept.now 0) in
    record {
      fits = c.keep.ensures.fits;
      room = ap length c.truncate.ensures.items ∙ length-take-le c.len.result numbers fewer ∙ c.len.ensures ∙ new.ok.0;
    }
