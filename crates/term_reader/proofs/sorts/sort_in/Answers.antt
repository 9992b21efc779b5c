-- The sort of an atom.
use Rattle.std.proofs.Common.{ap, ◌∙◌, subst}
use Rattle.spec_text.specs.Trees.{atom}
use Rattle.spec_reading.specs.Sorts.{sort_in}
use Rattle.term_reader.specs.Sorts.{IsSortOf}
use Rattle.term_reader.proofs.sorts.sort_in.Goals as goal

pub returns-in-Atom : goal.returns-in-Atom
returns-in-Atom c =
    λ t s h. subst (λ x. IsSortOf t (sort_in s x) c.atom_sort.result) (ap (λ a. atom a c.in-Atom.kind c.in-Atom.name.now) c.from.ensures ∙ c.in-Atom.ensures.seen) (c.atom_sort.ensures t s h)
