-- A truth value is of its sort alone.
use Rattle.std.proofs.Common.{refl}
use Rattle.spec_sorts.specs.Terms.{Truth, Number, Declared}
use Rattle.spec_sorts.specs.Values.{truth}
use Rattle.spec_model_files.specs.Values.{written_truth}
use Rattle.model_read.proofs.WrittenValues.{fits_is, fits_not}
use Rattle.model_read.proofs.values.fit_truth.Goals as goal

pub returns-in-Bool-clause-fits : goal.returns-in-Bool-clause-fits
returns-in-Bool-clause-fits c sorts g = rw c.in-Bool.is (fits_is g Truth c.args.at (written_truth c.args.truth) (truth c.args.truth) refl refl)

pub returns-in-Real-clause-fits : goal.returns-in-Real-clause-fits
returns-in-Real-clause-fits c sorts g = rw c.in-Real.is (fits_not g Number c.args.at (written_truth c.args.truth) c.fault_at.result refl c.fault_at.ensures)

pub returns-in-Declared-clause-fits : goal.returns-in-Declared-clause-fits
returns-in-Declared-clause-fits c sorts g = rw c.in-Declared.is (fits_not g (Declared _) c.args.at (written_truth c.args.truth) c.fault_at-in-Declared.result refl c.fault_at-in-Declared.ensures)
