-- Cuts in order are cuts of the same atoms.
use Rattle.std.proofs.Common.{List, All, subst, sym}
use Rattle.std.proofs.lemmas.List.Sorted.{All-permutation}
use Rattle.bound_lemmas.specs.declared.cuts.Cut.{Cut}
use Rattle.bound_lemmas.specs.Pairs.{IsCutOf}
use Rattle.bound_lemmas.proofs.neighbours.neighbours_of.Goals as goal

pub pairs_of-requires : goal.pairs_of-requires
pairs_of-requires c =
    let is_cut : Cut → Type 0 = IsCutOf c.args.atoms.now in
    subst (λ (cuts : List Cut). All is_cut cuts) (sym c.deref.ensures.value)
    (All-permutation is_cut c.in_ok-cuts.cuts.items c.sort_unstable_by_key.new.self.items c.sort_unstable_by_key.ensures.permutation c.in_ok-cuts.ensures)
