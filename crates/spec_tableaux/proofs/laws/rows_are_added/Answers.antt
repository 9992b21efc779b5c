use Rattle.spec_tableaux.proofs.Growing.{row_added, added_solved}
use Rattle.spec_tableaux.proofs.laws.rows_are_added.Goals as goal

pub returns : goal.returns
returns c d = record { solutions = λ s l rs b es v. row_added s l v rs b es; solved = added_solved }
