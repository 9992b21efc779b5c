-- That what is read says what the negation of the literal does.
use Rattle.std.proofs.Common.{[], ◌∷◌, ◌≡◌, ◌≢◌, length, get_or, List, sym, ap, ◌∙◌, arith}
use Rattle.std.proofs.lemmas.List.{length-map}
use Rattle.spec_text.proofs.General.{two_of_length}
use Rattle.spec_sorts.specs.Terms.{pair, of}
use Rattle.spec_arithmetic.specs.Contradictions.{negation_of}
use Rattle.term_core.specs.declared.ids.TermId.{TermId}
use Rattle.term_core.specs.Tables.{term_at, head_meant, clause_at}
use Rattle.linear_form.specs.Literals.{negation_meant}
use Rattle.linear_form.proofs.Negations.{of_literal, bare_atom, other_counts, no_numbers, numbers_say}
use Rattle.linear_form.proofs.literals.negation_of.Goals as goal

pub returns-in_default-clause-means : goal.returns-in_default-clause-means
returns-in_default-clause-means c =
    let t = c.args.table.now in
    let l = c.literal-literal.result in
    let n = c.node-node.result.now in
    let slice : length c.as_slice.result.now ≡ length n.arguments.items = ap (λ (ids : List TermId). length ids) c.as_slice.ensures in
    let many : length (clause_at t n.arguments.items) ≢ 2 = λ e. omega (arith, e, length-map n.arguments.items (term_at t), slice, c.in_default.len_below) in
    other_counts (head_meant t n.head) (clause_at t n.arguments.items) l.positive many (λ v e. bare_atom t l (term_at t c.args.id) v c.literal-literal.ensures.means (c.node-node.ensures.means ∙ e))
    ∙ ap (negation_of l.positive) (sym c.node-node.ensures.means) ∙ of_literal t l (term_at t c.args.id) c.literal-literal.ensures.means

pub returns-in_default-2-clause-means : goal.returns-in_default-2-clause-means
returns-in_default-2-clause-means c =
    let t = c.args.table.now in
    let l = c.literal-literal.result in
    let n = c.node-node.result.now in
    let slice : length c.as_slice.result.now ≡ length n.arguments.items = ap (λ (ids : List TermId). length ids) c.as_slice.ensures in
    let many : length (clause_at t n.arguments.items) ≢ 2 = λ e. omega (arith, e, length-map n.arguments.items (term_at t), slice, c.in_default.len_at_least) in
    other_counts (head_meant t n.head) (clause_at t n.arguments.items) l.positive many (λ v e. bare_atom t l (term_at t c.args.id) v c.literal-literal.ensures.means (c.node-node.ensures.means ∙ e))
    ∙ ap (negation_of l.positive) (sym c.node-node.ensures.means) ∙ of_literal t l (term_at t c.args.id) c.literal-literal.ensures.means

pub returns-then-not-are_numbers-clause-means : goal.returns-then-not-are_numbers-clause-means
returns-then-not-are_numbers-clause-means c =
    let t = c.args.table.now in
    let l = c.literal-literal.result in
    let n = c.node-node.result.now in
    let d : TermId = record { 0 = 0 } in
    let slice = c.as_slice.result.now in
    let two : slice ≡ get_or slice 0 d ∷ get_or slice 1 d ∷ [] = two_of_length slice d (omega (arith, c.in-len2.len_at_least, c.in-len2.len_below)) in
    let means : term_at t l.term ≡ pair (head_meant t n.head) (term_at t (get_or slice 0 d)) (term_at t (get_or slice 1 d)) =
    c.node-node.ensures.means ∙ ap (λ (ids : List TermId). of (head_meant t n.head) (clause_at t ids)) (sym c.as_slice.ensures ∙ two) in
    no_numbers (head_meant t n.head) (term_at t (get_or slice 0 d)) (term_at t (get_or slice 1 d)) l.positive c.if-not-are_numbers.ensures
    ∙ ap (negation_of l.positive) (sym means) ∙ of_literal t l (term_at t c.args.id) c.literal-literal.ensures.means

pub returns-clause-means : goal.returns-clause-means
returns-clause-means c =
    let t = c.args.table.now in
    let l = c.literal-literal.result in
    let n = c.node-node.result.now in
    let d : TermId = record { 0 = 0 } in
    let slice = c.as_slice.result.now in
    let two : slice ≡ get_or slice 0 d ∷ get_or slice 1 d ∷ [] = two_of_length slice d (omega (arith, c.in-len2.len_at_least, c.in-len2.len_below)) in
    let means : term_at t l.term ≡ pair (head_meant t n.head) (term_at t (get_or slice 0 d)) (term_at t (get_or slice 1 d)) =
    c.node-node.ensures.means ∙ ap (λ (ids : List TermId). of (head_meant t n.head) (clause_at t ids)) (sym c.as_slice.ensures ∙ two) in
    ap (negation_meant t) c.denial_by.ensures ∙ numbers_say t (get_or slice 0 d) (get_or slice 1 d) l.term c.if-not-are_numbers.ensures n.head l.positive means
    ∙ of_literal t l (term_at t c.args.id) c.literal-literal.ensures.means
