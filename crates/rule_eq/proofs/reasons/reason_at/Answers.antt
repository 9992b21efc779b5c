-- That the reason of a place is what its literal denies, or its premise states.
use Rattle.std.proofs.Common.{◌<◌, length, get_or, None, sym, subst}
use Rattle.rule_eq.specs.declared.reasons.Reasons.{Reasons}
use Rattle.rule_eq.specs.Reasoning.{reasons_meant, GivesTerm}
use Rattle.rule_eq.proofs.Giving.{literal_gives, premise_gives}
use Rattle.rule_eq.proofs.reasons.reason_at.Goals as goal

pub returns-in-Literals : goal.returns-in-Literals
returns-in-Literals c =
    let table = c.args.table.now in
    subst (λ (r : Reasons). GivesTerm table (get_or (reasons_meant table r) c.args.place None) c.denied.result) (sym c.in-Literals.is)
    (literal_gives table c.args.place c.denied.result c.in-Literals.ids.now _
    (subst (λ (r : Reasons). c.args.place < length (reasons_meant table r)) c.in-Literals.is c.requires.place) c.denied.ensures)

pub returns-in-Premises : goal.returns-in-Premises
returns-in-Premises c =
    let table = c.args.table.now in
    subst (λ (r : Reasons). GivesTerm table (get_or (reasons_meant table r) c.args.place None) c.alone.result) (sym c.in-Premises.is)
    (premise_gives table c.args.place c.alone.result c.in-Premises.clauses.now c.as_slice.result.now c.index-clauses-place.result c.as_slice.ensures c.index-clauses-place.is
    (subst (λ (r : Reasons). c.args.place < length (reasons_meant table r)) c.in-Premises.is c.requires.place) c.alone.ensures)
