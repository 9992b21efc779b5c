-- A literal that comes is of one of the atoms.
use Rattle.std.proofs.Common.{◌∙◌, List, All, Contains, ap, subst, sym}
use Rattle.std.proofs.lemmas.List.Elements.{All-push}
use Rattle.simplex_explain.specs.declared.weighted.Weighted.{Weighted}
use Rattle.bound_lemmas.proofs.cycles.reasons_at.Goals as goal
use Rattle.bound_lemmas.proofs.cycles.reasons_at.Goals.{in-Some+in_ok-push, in_default}

pub places-preserved : goal.places-preserved
places-preserved c =
    let is_of : Weighted → Type 0 = λ r. Contains c.args.atoms.now r.literal.term in
    elim c.match-reason_at.branch [
      | in-Some+in_ok-push w ↦
          subst (All is_of) (sym (ap (λ v. v.items) w.reasons-is ∙ w.in_ok-push.ensures.items)) (All-push is_of c.places.reasons.items w.in-Some.reason c.places.invariant w.in-Some.ensures)
      | in_default w ↦ subst (λ (rs : List Weighted). All is_of rs) (sym (ap (λ v. v.items) w.reasons-is)) c.places.invariant
    ]
