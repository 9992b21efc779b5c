-- By the head and the arguments.
use Rattle.std.proofs.Common.{◌≡◌, length, refl, sym, ap, ◌∙◌}
use Rattle.std.proofs.lemmas.Bool.Decides.{Decides-eqb}
use Rattle.std.proofs.lemmas.List.{length-map}
use Rattle.term_core.specs.Tables.{clause_at, term_at, head_meant}
use Rattle.solve_core.proofs.SearchTruthsAlone.{other_applies, bare_applies, applies_bare}
use Rattle.solve_core.proofs.propositional.applies_nothing.Goals as goal

pub returns-then-not-is_declared : goal.returns-then-not-is_declared
returns-then-not-is_declared c =
    let t = c.args.table.now in
    let node = c.node-node.result.now in
    let applies = other_applies (term_at t c.args.id) (head_meant t node.head) (clause_at t node.arguments.items) c.node-node.ensures.means (sym (c.if-not-is_declared.ensures t.sorts t.symbols)) in
    (λ e. applies, λ b. refl)

pub returns : goal.returns
returns c =
    let t = c.args.table.now in
    let node = c.node-node.result.now in
    let us = clause_at t node.arguments.items in
    let slice = c.as_slice.result.now in
    let count : length us ≡ length slice = length-map node.arguments.items (term_at t) ∙ sym (ap length c.as_slice.ensures) in
    let means = c.node-node.ensures.means in
    let decides = Decides-eqb (length slice) 0 in (
      λ e. bare_applies (term_at t c.args.id) (head_meant t node.head) us means (count ∙ decides.0 (sym c.is_empty.ensures ∙ e)),
      λ b. c.is_empty.ensures ∙ decides.1 (sym count ∙ applies_bare (term_at t c.args.id) (head_meant t node.head) us means (sym (c.if-not-is_declared.ensures t.sorts t.symbols)) b),
    )
