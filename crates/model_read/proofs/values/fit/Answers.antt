-- What was written as a value of a sort.
use Rattle.std.proofs.Common.{sym, ap, ◌∙◌}
use Rattle.term_core.specs.Symbols.{sort_meant}
use Rattle.model_read.specs.Values.{fitted}
use Rattle.model_read.proofs.values.fit.Goals as goal

pub returns-in-Bool-clause-fits : goal.returns-in-Bool-clause-fits
returns-in-Bool-clause-fits c g w m h =
    let is = rw c.in-Bool.is at h in
    c.fit_truth.ensures.fits c.args.table.now.sorts g ∙ ap (fitted g (sort_meant c.args.table.now.sorts c.args.sort) c.args.at) (sym is)

pub returns-in-Number-clause-fits : goal.returns-in-Number-clause-fits
returns-in-Number-clause-fits c g w m h =
    let is = rw c.in-Number.is at h in
    c.fit_number.ensures.fits c.args.table.now.sorts g is.number is.means ∙ ap (fitted g (sort_meant c.args.table.now.sorts c.args.sort) c.args.at) (sym is.is)

pub returns-in-Element-clause-fits : goal.returns-in-Element-clause-fits
returns-in-Element-clause-fits c g w m h = c.fit_element.ensures.fits g w m (rw c.in-Element.is at h)

pub returns-in-Bool-clause-named : goal.returns-in-Bool-clause-named
returns-in-Bool-clause-named c = c.fit_truth.ensures.named c.args.table.now.sorts

pub returns-in-Number-clause-named : goal.returns-in-Number-clause-named
returns-in-Number-clause-named c = c.fit_number.ensures.named c.args.table.now.sorts
