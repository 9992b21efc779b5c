-- A greater length comes last.
use Rattle.std.proofs.Common.{sym, subst}
use Rattle.clause_store.specs.QuietPairs.{LengthsRise}
use Rattle.clause_store.proofs.Working.{rising_push}
use Rattle.clause_store.proofs.parts.note.Goals as goal

pub returns-in-Ok-clause-rising : goal.returns-in-Ok-clause-rising
returns-in-Ok-clause-rising c = subst LengthsRise (sym c.in-Ok.ensures.items) (rising_push c.args.quiet_at.now.items c.args.len c.requires.rising c.requires.most)
