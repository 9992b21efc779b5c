-- A table with room for all its terms has room for these.
use Rattle.std.proofs.Common.{◌≤◌, subst}
use Rattle.term_walks.proofs.TermsCounted.{room_for_all}
use Rattle.term_walks.proofs.count.fit_in.Goals as goal

pub returns-then-len-room : goal.returns-then-len-room
returns-then-len-room c =
    let t = c.args.table.now in
    room_for_all t c.args.ids.now c.args.room c.subterms_are_counted.ensures.no_more c.requires c.terms_are_closed.ensures (subst (λ n. n ≤ c.args.room) c.len.ensures c.if-len-room.true)
