-- The next step.
use Rattle.std.proofs.Common.{subst}
use Rattle.smt_sexpr.specs.Items.{trees_meant}
use Rattle.smt_sexpr.proofs.Splitting.{split_end}
use Rattle.term_reader.specs.Names.{setting_meant}
use Rattle.term_reader.proofs.Tables.{keeps_same}
use Rattle.sort_check.specs.Walks.{here, IsWalk}
use Rattle.sort_check.proofs.Widening.{widens_same}
use Rattle.sort_check.proofs.walk.step.Goals as goal

pub returns-in-Ok-clause-grows : goal.returns-in-Ok-clause-grows
returns-in-Ok-clause-grows c = record { keeps = c.read_next.ensures.keeps; widens = widens_same c.args.scope.now }

pub returns-in-Err-clause-grows : goal.returns-in-Err-clause-grows
returns-in-Err-clause-grows c = record { keeps = c.read_next.ensures.keeps; widens = widens_same c.args.scope.now }

pub returns-in-Err-close-clause-goes : goal.returns-in-Err-close-clause-goes
returns-in-Err-close-clause-goes c =
    let h = here c.args.table.now c.args.scope.now c.args.walk.now in
    let end = split_end (trees_meant c.args.walk.now.rest) c.in_default.ensures.first in
    λ root k. c.in-Err-close.ensures.goes root (subst (IsWalk (setting_meant c.args.setting) root) (λ i. record h { frames = c.in-Some-pop.ensures.items i; rest = end i }) k)

pub returns-clause-grows : goal.returns-clause-grows
returns-clause-grows c = record { keeps = keeps_same c.args.table.now; widens = widens_same c.args.scope.now }
