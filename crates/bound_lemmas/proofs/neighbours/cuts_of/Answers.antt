-- A cut that comes is of the atom that was looked at.
use Rattle.std.proofs.Common.{◌∙◌, List, All, Contains, ap, subst, sym}
use Rattle.std.proofs.lemmas.List.Elements.{All-push, Contains-get_or}
use Rattle.term_core.specs.declared.ids.TermId.{TermId}
use Rattle.bound_lemmas.specs.declared.cuts.Cut.{Cut}
use Rattle.bound_lemmas.specs.Pairs.{IsCutOf}
use Rattle.bound_lemmas.proofs.neighbours.cuts_of.Goals as goal
use Rattle.bound_lemmas.proofs.neighbours.cuts_of.Goals.{in-Some+in_ok-push, in_default}

pub atoms-preserved : goal.atoms-preserved
atoms-preserved c =
    let atoms = c.args.atoms.now in
    let is_cut : Cut → Type 0 = IsCutOf atoms in
    let none : TermId = record { 0 = 0 } in
    elim c.match-branch-2.branch [
      | in-Some+in_ok-push w ↦
          subst (All is_cut) (sym (ap (λ v. v.items) w.cuts-is ∙ w.in_ok-push.ensures.items)) (All-push is_cut c.atoms.cuts.items w.in-Some.cut c.atoms.invariant
          (subst (Contains atoms) (sym (rw w.in-Some.is at c.in_ok-cut.ensures)) (Contains-get_or atoms c.atoms.atom-index none c.atoms-test.true)))
      | in_default w ↦ subst (λ (cuts : List Cut). All is_cut cuts) (sym (ap (λ v. v.items) w.cuts-is)) c.atoms.invariant
    ]
