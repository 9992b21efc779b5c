-- The atoms among the terms up to here.
use Rattle.std.proofs.Common.{take}
use Rattle.search_loop.specs.Search.{AreAtomsAmong}
use Rattle.search_loop.proofs.atoms.atoms_of.Given as goal

abbrev pub invariant-terms : goal.invariant-terms
invariant-terms l = AreAtomsAmong l.table (take l.id-index l.terms) l.atoms.items
