-- The negation is made of the terms.
use Rattle.spec_sorts.specs.Terms.{negated}
use Rattle.term_core.specs.Tables.{term_at}
use Rattle.term_clauses.specs.Stating.{NamesTerm}
use Rattle.case_equalities.specs.Stating.{IsDenialOf}
use Rattle.case_equalities.proofs.Batches.{ok_weaker}
use Rattle.case_equalities.proofs.Leading.{negation_made}
use Rattle.case_equalities.proofs.casing.denial.Goals as goal

pub returns-clause-means : goal.returns-clause-means
returns-clause-means g c =
    let t = c.args.table.now in
    let u = c.signed.new.table in
    let id = c.args.id in
    ok_weaker (NamesTerm u (negated (term_at t id))) (IsDenialOf g.batch u id) (λ denial. negation_made g.batch t u c.signed.ensures.wider id denial c.requires) c.signed.result c.signed.ensures.means
