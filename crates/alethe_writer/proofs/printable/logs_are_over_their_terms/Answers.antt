-- By the terms of its entries.
use Rattle.alethe_writer.proofs.Logging.{all_over}
use Rattle.alethe_writer.proofs.printable.logs_are_over_their_terms.Goals as goal

pub returns : goal.returns
returns c = all_over c.numbers_are_given.ensures
