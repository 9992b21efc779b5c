-- What is seen, and how many of its arguments.
use Rattle.std.proofs.Common.{◌≤◌, ◌-◌, length}
use Rattle.term_walks.proofs.TermsCounted.{Counted}
use Rattle.term_walks.proofs.count.count.Given as goal

abbrev pub invariant-seen : goal.invariant-seen
invariant-seen l = record {
  counted : Counted l.table l.ids l.seen.keys l.done;
  low : l.done ≤ length l.seen.keys;
}

abbrev pub decreases-seen : goal.decreases-seen
decreases-seen l = l.room - l.done
