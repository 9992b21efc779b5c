-- An element is of a declared sort.
use Rattle.std.proofs.Common.{refl}
use Rattle.spec_sorts.specs.Terms.{Truth, Number}
use Rattle.model_read.proofs.WrittenValues.{element_of_none}
use Rattle.model_read.proofs.values.fit_element.Goals as goal

pub returns-in-Bool-clause-fits : goal.returns-in-Bool-clause-fits
returns-in-Bool-clause-fits c g w m h = rw c.in-Bool.is (element_of_none g Truth c.args.at c.args.number c.args.name w h c.fault_at.result (λ k v. refl) c.fault_at.ensures)

pub returns-in-Real-clause-fits : goal.returns-in-Real-clause-fits
returns-in-Real-clause-fits c g w m h = rw c.in-Real.is (element_of_none g Number c.args.at c.args.number c.args.name w h c.fault_at-in-Real.result (λ k v. refl) c.fault_at-in-Real.ensures)

pub returns-in-Declared-clause-fits : goal.returns-in-Declared-clause-fits
returns-in-Declared-clause-fits c g w m h = rw c.in-Declared.is (c.fit_declared.ensures.fits g w m h)
