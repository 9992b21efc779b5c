-- One value more is given.
use Rattle.std.proofs.Common.{nat_eq, get_or, ap}
use Rattle.std.specs.HashMap.{get}
use Rattle.std.specs.Map.{lookup}
use Rattle.std.proofs.lemmas.List.{get_or_default}
use Rattle.term_core.specs.declared.ids.TermId.{TermId}
use Rattle.simplex.proofs.TellingValues.{tells_none, tells_more}
use Rattle.simplex.proofs.numbers.values_by_term.Goals as goal

pub slacks-init : goal.slacks-init
slacks-init c = tells_none (get nat_eq c.new-known.result) c.args.terms.now c.args.values.now (λ q. ap (lookup (nat_eq q)) c.new-known.ensures.empty)

pub slacks-preserved : goal.slacks-preserved
slacks-preserved c =
    let ids = c.args.terms.now in
    let at = c.slacks.at in
    let none : TermId = record { 0 = 0 } in
    let id = get_or ids at none in
    tells_more (get nat_eq c.slacks.known) (get nat_eq c.insert.new.self) ids c.args.values.now at id c.index-values-at.result c.slacks-test.true (get_or_default ids at none id c.slacks-test.true)
    c.index-values-at.is c.in_ok-insert.ensures.updates.0 c.slacks.invariant
