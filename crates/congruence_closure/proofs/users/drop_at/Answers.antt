-- The list of the term is cut, the others are as they were.
use Rattle.std.proofs.Common.{ℕ, List, sym, subst, arith}
use Rattle.std.specs.Prelude.{slice_set, Contains}
use Rattle.congruence_closure.specs.Tables.{lists}
use Rattle.congruence_closure.proofs.Places.{list_at, lists_set, kept_below_set}
use Rattle.congruence_closure.proofs.users.drop_at.Goals as goal

pub returns-then-t-len : goal.returns-then-t-len
returns-then-t-len c =
    let at = list_at c.args.all.now.items c.args.t.0 c.index_mut.result.now (omega arith) c.index_mut.ensures.value in
    kept_below_set (lists c.args.all.now.items) (lists (slice_set c.args.all.now.items c.args.t.0 c.drop_from.new.list)) c.args.t.0 c.args.place c.drop_from.new.list.items
    (lists_set c.args.all.now.items c.args.t.0 c.drop_from.new.list)
    (λ i low there. c.drop_from.ensures i low (subst (λ (xs : List ℕ). Contains xs i) (sym at) there))
