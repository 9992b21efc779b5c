use Rattle.std.proofs.Common.{ℕ, List, Ok, sym, ap, ◌∙◌}
use Rattle.alethe_reader.specs.Holding.{clauses_numbered}
use Rattle.alethe_reader.specs.Parts.{known_entries}
use Rattle.alethe_reader.proofs.PremiseLists.{none_left}
use Rattle.alethe_reader.proofs.premises.premises_of.Goals as goal

pub returns-in-None-clause-gives : goal.returns-in-None-clause-gives
returns-in-None-clause-gives c = rw c.in-None.is (none_left (known_entries c.args.state.now) ∙ ap (λ (is : List ℕ). Ok (clauses_numbered c.args.state.now is)) (sym c.new.ensures.items))
