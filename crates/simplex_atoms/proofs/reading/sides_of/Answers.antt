-- That what is read says what the atom does.
use Rattle.std.proofs.Common.{[], ◌∷◌, ◌≡◌, ◌≢◌, length, get_or, List, true, sym, ap, ◌∙◌, arith}
use Rattle.std.proofs.lemmas.List.{length-map}
use Rattle.spec_text.proofs.General.{two_of_length}
use Rattle.spec_sorts.specs.Terms.{pair, of}
use Rattle.spec_simplex.specs.Constraints.{constraint_by}
use Rattle.term_core.specs.declared.ids.TermId.{TermId}
use Rattle.term_core.specs.Tables.{term_at, head_meant, clause_at}
use Rattle.simplex_atoms.proofs.AtomsRead.{other_counts, no_numbers, other_heads, read}
use Rattle.simplex_atoms.proofs.reading.sides_of.Goals as goal

pub returns-in_default-clause-means : goal.returns-in_default-clause-means
returns-in_default-clause-means c =
    let t = c.args.table.now in
    let n = c.node-node.result.now in
    let slice : length c.as_slice.result.now ≡ length n.arguments.items = ap (λ (ids : List TermId). length ids) c.as_slice.ensures in
    let many : length (clause_at t n.arguments.items) ≢ 2 = λ e. omega (arith, e, length-map n.arguments.items (term_at t), slice, c.in_default.len_below) in
    other_counts (head_meant t n.head) (clause_at t n.arguments.items) many ∙ ap (constraint_by true) (sym c.node-node.ensures.means)

pub returns-in_default-2-clause-means : goal.returns-in_default-2-clause-means
returns-in_default-2-clause-means c =
    let t = c.args.table.now in
    let n = c.node-node.result.now in
    let slice : length c.as_slice.result.now ≡ length n.arguments.items = ap (λ (ids : List TermId). length ids) c.as_slice.ensures in
    let many : length (clause_at t n.arguments.items) ≢ 2 = λ e. omega (arith, e, length-map n.arguments.items (term_at t), slice, c.in_default.len_at_least) in
    other_counts (head_meant t n.head) (clause_at t n.arguments.items) many ∙ ap (constraint_by true) (sym c.node-node.ensures.means)

pub returns-in_default-kind_of-clause-means : goal.returns-in_default-kind_of-clause-means
returns-in_default-kind_of-clause-means c =
    let t = c.args.table.now in
    let n = c.node-node.result.now in
    let d : TermId = record { 0 = 0 } in
    let slice = c.as_slice.result.now in
    let two : slice ≡ get_or slice 0 d ∷ get_or slice 1 d ∷ [] = two_of_length slice d (omega (arith, c.in-len2.len_at_least, c.in-len2.len_below)) in
    let means : term_at t c.args.id ≡ pair (head_meant t n.head) (term_at t (get_or slice 0 d)) (term_at t (get_or slice 1 d)) =
    c.node-node.ensures.means ∙ ap (λ (ids : List TermId). of (head_meant t n.head) (clause_at t ids)) (sym c.as_slice.ensures ∙ two) in
    other_heads t n.head (term_at t (get_or slice 0 d)) (term_at t (get_or slice 1 d)) (sym c.kind_of.ensures ∙ c.in_default-kind_of.is) ∙ ap (constraint_by true) (sym means)

pub returns-then-not-are_numbers-clause-means : goal.returns-then-not-are_numbers-clause-means
returns-then-not-are_numbers-clause-means c =
    let t = c.args.table.now in
    let n = c.node-node.result.now in
    let d : TermId = record { 0 = 0 } in
    let slice = c.as_slice.result.now in
    let two : slice ≡ get_or slice 0 d ∷ get_or slice 1 d ∷ [] = two_of_length slice d (omega (arith, c.in-len2.len_at_least, c.in-len2.len_below)) in
    let means : term_at t c.args.id ≡ pair (head_meant t n.head) (term_at t (get_or slice 0 d)) (term_at t (get_or slice 1 d)) =
    c.node-node.ensures.means ∙ ap (λ (ids : List TermId). of (head_meant t n.head) (clause_at t ids)) (sym c.as_slice.ensures ∙ two) in
    no_numbers (head_meant t n.head) (term_at t (get_or slice 0 d)) (term_at t (get_or slice 1 d)) c.if-not-are_numbers.ensures ∙ ap (constraint_by true) (sym means)

pub returns-clause-means : goal.returns-clause-means
returns-clause-means c =
    let t = c.args.table.now in
    let n = c.node-node.result.now in
    let d : TermId = record { 0 = 0 } in
    let slice = c.as_slice.result.now in
    let two : slice ≡ get_or slice 0 d ∷ get_or slice 1 d ∷ [] = two_of_length slice d (omega (arith, c.in-len2.len_at_least, c.in-len2.len_below)) in
    let means : term_at t c.args.id ≡ pair (head_meant t n.head) (term_at t (get_or slice 0 d)) (term_at t (get_or slice 1 d)) =
    c.node-node.ensures.means ∙ ap (λ (ids : List TermId). of (head_meant t n.head) (clause_at t ids)) (sym c.as_slice.ensures ∙ two) in
    read t (get_or slice 0 d) (get_or slice 1 d) c.args.id c.if-not-are_numbers.ensures n.head c.in-Some.kind (sym c.in-Some.ensures) means ∙ ap (constraint_by true) (sym means)
