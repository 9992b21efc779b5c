-- A pair that comes is of the atoms of two neighbours.
use Rattle.std.proofs.Common.{◌∙◌, ◌-◌, List, All, Contains, ap, subst, sym, arith}
use Rattle.std.proofs.lemmas.List.Elements.{All-contains, All-push}
use Rattle.bound_lemmas.specs.declared.cuts.Cut.{Cut}
use Rattle.bound_lemmas.specs.declared.pair.BoundPair.{BoundPair}
use Rattle.bound_lemmas.specs.Pairs.{IsPairOf, IsCutOf}
use Rattle.bound_lemmas.proofs.neighbours.pairs_of.Goals as goal
use Rattle.bound_lemmas.proofs.neighbours.pairs_of.Goals.{in-Some+in_ok-push, in_default}

pub places-preserved : goal.places-preserved
places-preserved c =
    let atoms = c.args.atoms.now in
    let cuts = c.args.cuts.now in
    let is_cut : Cut → Type 0 = IsCutOf atoms in
    let is_pair : BoundPair → Type 0 = IsPairOf atoms in
    elim c.match-pair_of.branch [
      | in-Some+in_ok-push w ↦
          subst (All is_pair) (sym (ap (λ v. v.items) w.pairs-is ∙ w.in_ok-push.ensures.items)) (All-push is_pair c.places.pairs.items w.in-Some.pair c.places.invariant
          (record {
            first = subst (Contains atoms) (sym w.in-Some.ensures.0)
                (All-contains is_cut cuts c.index-cuts-at.result c.requires (c.places.at - 1, omega (arith, c.places-test.true), sym c.index-cuts-at.is));
            second = subst (Contains atoms) (sym w.in-Some.ensures.1)
                (All-contains is_cut cuts c.index-cuts-at-in-places.result c.requires (c.places.at, omega (arith, c.places-test.true), sym c.index-cuts-at-in-places.is));
            different = w.in-Some.ensures.2;
          }))
      | in_default w ↦ subst (λ (pairs : List BoundPair). All is_pair pairs) (sym (ap (λ v. v.items) w.pairs-is)) c.places.invariant
    ]
