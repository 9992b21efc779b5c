-- The sort of a name.
use Rattle.std.proofs.Common.{sym, subst}
use Rattle.spec_reading.specs.Sorts.{atom_sort}
use Rattle.term_reader.specs.Sorts.{IsSortOf}
use Rattle.term_reader.proofs.sorts.atom_sort.Goals as goal

pub returns-in-Simple : goal.returns-in-Simple
returns-in-Simple c = λ t s h. subst (λ k. IsSortOf t (atom_sort s c.args.at k c.args.name.now) c.sort_named.result) (sym c.in-Simple.is) (c.sort_named.ensures t s h)

pub returns-in-Quoted : goal.returns-in-Quoted
returns-in-Quoted c = λ t s h. subst (λ k. IsSortOf t (atom_sort s c.args.at k c.args.name.now) c.sort_named-in-Quoted.result) (sym c.in-Quoted.is) (c.sort_named-in-Quoted.ensures t s h)
