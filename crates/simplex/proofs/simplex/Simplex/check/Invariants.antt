-- What is held, over the table.
use Rattle.simplex.proofs.simplex.Simplex.check.Given as goal

abbrev pub ghost-clash : goal.ghost-clash
ghost-clash a = record { table = a.table.now; simplex = a.self.now }
