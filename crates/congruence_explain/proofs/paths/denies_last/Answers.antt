-- The last literal is one of the clause.
use Rattle.std.proofs.Common.{◌≡◌, List, [], ◌∷◌, ◌++◌, sym, ap, ◌∙◌, subst}
use Rattle.std.specs.Prelude.{Contains}
use Rattle.std.proofs.lemmas.Bool.Decides.{nat_tests}
use Rattle.std.proofs.lemmas.List.Elements.{Contains-push}
use Rattle.term_core.proofs.Numbers.{same_id}
use Rattle.congruence_explain.specs.declared.claims.Claim.TheVariants.{Equality}
use Rattle.congruence_explain.specs.declared.claims.SignedClaim.{SignedClaim}
use Rattle.congruence_explain.specs.Claims.{unequal}
use Rattle.congruence_explain.proofs.paths.denies_last.Goals as goal

pub returns-then-a-x : goal.returns-then-a-x
returns-then-a-x c = λ e.
    let x = c.args.x in
    let y = c.args.y in
    let front = c.in-Some.field-0-1.now in
    let b_is : c.in-Equality.b.0 ≡ y.0 = grind (Rattle.std.proofs.Common.arith, nat_tests) in
    let claims = c.in-Equality.is ∙ (λ i. Equality (same_id c.in-Equality.a x c.if-a-x.true i) (same_id c.in-Equality.b y b_is i)) in
    let same : c.in-Some.last.now ≡ unequal x y = λ i. record { claim = claims i; positive = c.if-last.false i } in
    let whole : c.args.clause.now ≡ front ++ unequal x y ∷ [] = c.in-Some.ensures.cases.0 ∙ ap (λ (m : SignedClaim). front ++ m ∷ []) same in
    (c.if-x-y.false, subst (λ (ss : List SignedClaim). Contains ss (unequal x y)) (sym whole) (Contains-push front (unequal x y)))
