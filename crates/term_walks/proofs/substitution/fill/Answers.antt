-- What came is cut off again.
use Rattle.std.proofs.Common.{ap, sym, subst}
use Rattle.term_core.specs.Tables.{Extends, declared_in}
use Rattle.term_core.proofs.TermsExtend.{Extends-self}
use Rattle.term_walks.proofs.Filled.{cut_back}
use Rattle.term_walks.proofs.substitution.fill.Goals as goal

pub returns-in-Err-clause-kept : goal.returns-in-Err-clause-kept
returns-in-Err-clause-kept c =
    let old = c.args.table.now in
    let back = cut_back old c.fill_body.new.table c.cut.new.self c.fill_body.ensures.kept.0 c.fill_body.ensures.kept.1 (rw c.len-len.ensures at c.cut.ensures.terms) c.cut.ensures.declared in
    (subst (Extends old) (sym back) (Extends-self old), ap declared_in back)
