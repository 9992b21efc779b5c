use Rattle.std.proofs.Common.{◌≡◌, ◌∙◌, [], ◌∷◌, ◌++◌, length, arith}
use Rattle.explain_forest.proofs.Keeping.{kept-set}
use Rattle.explain_forest.proofs.forest.Forest.mark.Goals as goal

pub invariant_of-self-2 : goal.invariant_of-self-2
invariant_of-self-2 c =
    let f = c.self.inside in
    let edges : c.len.result ≡ length f.edges.items = omega (arith, c.len.ensures, f.edges.ok.0) in
    let terms : c.len-2.result ≡ length f.parents.items = omega (arith, c.len-2.ensures, f.parents.ok.0) in
    kept-set f.parents.items f.stamps.items f.edges.items f.marks.items _ c.self.invariant c.push.new.self.items
    (c.in_ok-push.ensures.items ∙ (λ i. f.marks.items ++ record { edges = edges i; terms = terms i } ∷ []))
