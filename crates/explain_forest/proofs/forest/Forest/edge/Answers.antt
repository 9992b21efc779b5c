-- The edges are in the list by their numbers.
use Rattle.std.proofs.Common.{length, subst, ap, sym, ◌∙◌, ◌<◌}
use Rattle.std.proofs.lemmas.List.{length-reverse, get_or_default}
use Rattle.explain_forest.specs.Forest.{no_edge, numbered}
use Rattle.explain_forest.proofs.Paths.{edge-numbered}
use Rattle.explain_forest.proofs.forest.Forest.edge.Goals as goal

pub returns : goal.returns
returns c =
    let v = ap (λ f. f.now.edges) c.self.view_is in
    let low : c.args.n < length c.self.inside.edges.items = subst (λ k. c.args.n < k) (sym (ap length v) ∙ length-reverse c.self.inside.edges.items) c.requires in
    c.index.ensures ∙ get_or_default c.self.inside.edges.items c.args.n c.index.result.now no_edge low ∙ edge-numbered c.self.inside.edges.items c.args.n no_edge low ∙ ap (λ es. numbered es c.args.n) v
