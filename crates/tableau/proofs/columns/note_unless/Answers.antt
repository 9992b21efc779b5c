use Rattle.std.proofs.Common.{◌≡◌, refl}
use Rattle.tableau.proofs.Noting.{grown_none}
use Rattle.tableau.proofs.columns.note_unless.Goals as goal

pub returns-then-begins_with-clause-grown : goal.returns-then-begins_with-clause-grown
returns-then-begins_with-clause-grown c = grown_none (λ k. k ≡ c.args.number) c.args.columns.now.items c.args.columns.now.items refl

pub returns-then-begins_with-clause-noted : goal.returns-then-begins_with-clause-noted
returns-then-begins_with-clause-noted c = c.begins_with.ensures c.if-begins_with.true c.args.columns.now.items c.args.number c.requires.known
