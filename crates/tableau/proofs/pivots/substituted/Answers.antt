use Rattle.std.proofs.Common.{true, sym, ap, ◌∙◌, subst}
use Rattle.spec_tableaux.specs.Spaces.{as_space}
use Rattle.spec_tableaux.specs.SolvedForms.{IsTidy}
use Rattle.spec_tableaux.specs.Numbers.{numbers}
use Rattle.spec_tableaux.proofs.SolvedForms.{tidy_without}
use Rattle.tableau.specs.Numbers.{number_of}
use Rattle.tableau.specs.Entries.{entries_of}
use Rattle.tableau.specs.Sums.{OverflowsCombined, combined}
use Rattle.tableau.specs.Pivots.{pivot_meant, OverflowsRow}
use Rattle.tableau.proofs.Loops.{merged_new, substituted_made}
use Rattle.tableau.proofs.Telling.{passed_on}
use Rattle.tableau.proofs.RowOverflowing.{of_combined}
use Rattle.tableau.proofs.pivots.substituted.Goals as goal

pub merge-requires-clause-es_tidy : goal.merge-requires-clause-es_tidy
merge-requires-clause-es_tidy c = subst (IsTidy numbers 0) (sym (ap entries_of c.deref.ensures.value ∙ c.in_ok-rest.ensures)) (tidy_without (as_space numbers) 0 c.args.pivot.now.entering (entries_of c.args.entries.now) c.requires.tidy)

pub returns-in_err-merged-clause-wide : goal.returns-in_err-merged-clause-wide
returns-in_err-merged-clause-wide c =
    passed_on (OverflowsCombined true (entries_of c.deref.result.now) (number_of c.args.c) (entries_of c.deref-2.result.now)) (OverflowsRow (pivot_meant c.args.pivot.now) (number_of c.args.c) (entries_of c.args.entries.now))
    c.from_residual-in_err-merged.result c.in_err-merged.field-0.0
    (of_combined (pivot_meant c.args.pivot.now) (number_of c.args.c) (entries_of c.args.entries.now) (entries_of c.deref.result.now) (entries_of c.deref-2.result.now) (ap entries_of c.deref.ensures.value ∙ c.in_ok-rest.ensures) (ap entries_of c.deref-2.ensures.value))
    c.from_residual-in_err-merged.ensures.1 c.in_err-merged.ensures.wide

pub put_new-requires : goal.put_new-requires
put_new-requires c = merged_new (pivot_meant c.args.pivot.now) (entries_of c.args.entries.now) (entries_of c.in_ok-rest.rest.items) (entries_of c.in_ok-merged.merged.items) (number_of c.args.c)
    c.requires.ready c.requires.tidy c.requires.new c.in_ok-rest.ensures (c.in_ok-merged.ensures.ok ∙ (λ i. combined true (entries_of (c.deref.ensures.value i)) (number_of c.args.c) (entries_of (c.deref-2.ensures.value i))))

pub returns-clause-ok : goal.returns-clause-ok
returns-clause-ok c = substituted_made (pivot_meant c.args.pivot.now) (entries_of c.args.entries.now) (entries_of c.in_ok-rest.rest.items) (entries_of c.in_ok-merged.merged.items) (entries_of c.put_new.new.entries.items) (number_of c.args.c) (number_of c.in_ok-scaled.scaled)
    c.requires.there c.in_ok-scaled.ensures.ok c.in_ok-rest.ensures (c.in_ok-merged.ensures.ok ∙ (λ i. combined true (entries_of (c.deref.ensures.value i)) (number_of c.args.c) (entries_of (c.deref-2.ensures.value i)))) c.in_ok-put_new.ensures
