-- Different numbers name different terms.
use Rattle.std.proofs.Common.{subst}
use Rattle.term_core.specs.Tables.{AreDifferent}
use Rattle.term_core.proofs.TermsApart.{terms_apart}
use Rattle.term_core.proofs.terms.TermTable.ids_are_unique.Goals as goal

pub returns : goal.returns
returns c = subst (λ t. AreDifferent t.terms) c.self.view_is (terms_apart _ _ c.self.invariant.whole)
