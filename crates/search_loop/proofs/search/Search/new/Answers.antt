-- That nothing is there.
use Rattle.std.proofs.Common.{refl}
use Rattle.search_loop.proofs.SearchEmpty.{empty_search}
use Rattle.search_loop.proofs.search.Search.new.Goals as goal

pub returns : goal.returns
returns c = empty_search c.what_is_marked_was_seen.ensures.begun c.reasons_stay_right.ensures.begun c.empty_logs_are_right.ensures c.args.limits.now
    (record { alloc = c.args.alloc; log = c.new-2.result; store = c.new-3.result; trail = c.new-4.result; terms = c.new-5.result; atoms = c.new-6.result; decider = c.new-7.result; restarts = c.new-8.result; budget = c.in_ok-budget.budget; fed = 0; since = 0 })
    c.new-2.ensures c.new-3.ensures c.new-4.ensures c.new-5.ensures.items c.new-6.ensures.items c.new-7.ensures c.in_ok-budget.ensures refl refl
