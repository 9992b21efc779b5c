-- A number is of its sort alone.
use Rattle.std.proofs.Common.{refl}
use Rattle.spec_sorts.specs.Terms.{Truth, Declared}
use Rattle.spec_model_files.specs.Values.{written_number}
use Rattle.model_read.proofs.WrittenValues.{fits_not}
use Rattle.model_read.proofs.values.fit_number.Goals as goal

pub returns-in-Bool-clause-fits : goal.returns-in-Bool-clause-fits
returns-in-Bool-clause-fits c sorts g x h = rw c.in-Bool.is (fits_not g Truth c.args.at (written_number x) c.fault_at.result refl c.fault_at.ensures)

pub returns-in-Real-clause-fits : goal.returns-in-Real-clause-fits
returns-in-Real-clause-fits c sorts g x h = rw c.in-Real.is (c.within.ensures.fits sorts g x h)

pub returns-in-Declared-clause-fits : goal.returns-in-Declared-clause-fits
returns-in-Declared-clause-fits c sorts g x h = rw c.in-Declared.is (fits_not g (Declared _) c.args.at (written_number x) c.fault_at-in-Declared.result refl c.fault_at-in-Declared.ensures)
