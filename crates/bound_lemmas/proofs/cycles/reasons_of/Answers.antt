-- The literals of one cycle more are of the atoms.
use Rattle.std.proofs.Common.{◌∙◌, List, All, Vec, Global, ap, subst, sym}
use Rattle.std.proofs.lemmas.List.Elements.{All-push}
use Rattle.simplex_explain.specs.declared.weighted.Weighted.{Weighted}
use Rattle.bound_lemmas.specs.Cycles.{AreReasonsOf}
use Rattle.bound_lemmas.proofs.cycles.reasons_of.Goals as goal
use Rattle.bound_lemmas.proofs.cycles.reasons_of.Goals.{then-len-gt2+in_ok-reasons+in_ok-push, else-len-gt2}

pub cycles-preserved : goal.cycles-preserved
cycles-preserved c =
    let are_of : Vec Weighted Global → Type 0 = λ rs. AreReasonsOf c.args.atoms.now rs.items in
    elim c.if-len-gt2.branch [
      | then-len-gt2+in_ok-reasons+in_ok-push w ↦
          subst (All are_of) (sym (ap (λ v. v.items) w.found-is ∙ w.in_ok-push.ensures.items)) (All-push are_of c.cycles.found.items w.in_ok-reasons.reasons c.cycles.invariant w.in_ok-reasons.ensures)
      | else-len-gt2 w ↦ subst (λ (found : List (Vec Weighted Global)). All are_of found) (sym (ap (λ v. v.items) w.found-is)) c.cycles.invariant
    ]
