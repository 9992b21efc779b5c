-- The literal is one of a bound that is held, or the one that is denied.
use Rattle.std.proofs.Common.{◌≡◌, ◌<◌, length, get_or, subst}
use Rattle.term_core.specs.declared.ids.Lit.{Lit}
use Rattle.held_literals.specs.Room.{AreOverWatched}
use Rattle.simplex.specs.Views.{SimplexView, SimplexFits}
use Rattle.simplex.proofs.Hinting.{bound_of_atom, denied_of_atom, some_of_atom}
use Rattle.simplex.proofs.simplex.Simplex.reason.Goals as goal

pub returns-then-member-hint : goal.returns-then-member-hint
returns-then-member-hint c =
    let v = c.args.self.now in
    let n = c.args.hint.atom in
    let l : Lit = record { term = c.in_ok-term.field-0; positive = c.args.hint.denied } in
    let found = subst (λ (x : SimplexView). (n < length x.theory.watched) × (l.term ≡ get_or x.theory.watched n l.term)) c.self.view_is c.in_ok-term.ensures in
    some_of_atom v l c.weighted.result (λ there w same. denied_of_atom v n l w found.0 found.1 same there) c.weighted.ensures

pub returns : goal.returns
returns c =
    let v = c.args.self.now in
    let b = c.in_ok-bound.bound in
    let fits = subst SimplexFits c.self.view_is c.self.invariant.0 in
    let over = subst (λ (x : SimplexView). AreOverWatched x.theory.held x.theory.watched) c.self.view_is c.are_of_watched_terms.ensures.over in
    some_of_atom v b.literal c.weighted-2.result (λ there w same. bound_of_atom v fits over b w c.in_ok-bound.ensures same there) c.weighted-2.ensures
