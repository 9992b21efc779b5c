-- Why two terms are equal, they are in the other direction.
use Rattle.std.proofs.Common.{sym, subst}
use Rattle.congruence_closure.specs.Changes.{IsWhy}
use Rattle.congruence_closure.specs.State.{PartsView}
use Rattle.congruence_closure.proofs.Joining.{why_turned}
use Rattle.congruence_closure.proofs.parts.ClosureParts.join.Goals as goal

pub put_under-requires-else-size_of-clause-why : goal.put_under-requires-else-size_of-clause-why
put_under-requires-else-size_of-clause-why c =
    let now = c.args.self.now.now in
    subst (λ (p : PartsView). IsWhy p.now.facts p.now.edges c.args.why c.args.b c.args.a) (sym c.note_decided.ensures) (why_turned now.facts now.edges c.args.why c.args.a c.args.b c.requires.why)
