-- There is a reason more.
use Rattle.std.proofs.Common.{sym, subst}
use Rattle.std.proofs.lemmas.List.Elements.{All-push}
use Rattle.simplex.specs.Hints.{IsOfAtom, AreOfAtoms}
use Rattle.simplex.proofs.simplex.Simplex.reasons_for.Goals as goal

pub members-preserved : goal.members-preserved
members-preserved c =
    let v = c.args.self.now in
    subst (AreOfAtoms v) (sym c.in_ok-push.ensures.items) (All-push (IsOfAtom v) c.members.reasons.items c.in-Some.reason c.members.invariant c.in-Some.ensures)
