-- One of all names is at the offset where one of those in the row that is read does, or in a row that is open.
use Rattle.std.proofs.Common.{◌+◌}
use Rattle.spec_checking.specs.Reading.{named_in_all, one_is_at}
use Rattle.smt_sexpr.specs.Items.{trees_meant}
use Rattle.sort_check.specs.Walks.{sizes}
use Rattle.alethe_reader.specs.Naming.{open_left}
use Rattle.alethe_reader.proofs.Namings.{Rest}
use Rattle.alethe_reader.proofs.naming.texts_name_at.Given as goal

abbrev pub invariant-texts : goal.invariant-texts
invariant-texts l = Rest l.at (one_is_at (named_in_all (trees_meant l.texts)) l.at) (trees_meant l.rest) l.open.items

abbrev pub decreases-texts : goal.decreases-texts
decreases-texts l = sizes (trees_meant l.rest) + open_left l.open.items
