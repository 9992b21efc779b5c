-- By the head and the arguments.
use Rattle.std.proofs.Common.{◌≡◌, false, List, [], ◌∷◌, ◌++◌, ◌<◌, length, ap, sym, ◌∙◌, arith}
use Rattle.std.proofs.lemmas.Bool.Decides.{Decides-eqb}
use Rattle.std.proofs.lemmas.List.{length-map}
use Rattle.term_core.specs.declared.ids.TermId.{TermId}
use Rattle.term_core.specs.Tables.{clause_at, term_at, head_meant}
use Rattle.solve_core.specs.Sharing.{reals_in, shared_by}
use Rattle.agreement.proofs.Clashes.{above_none}
use Rattle.solve_core.proofs.SharedTerms.{adds_none, adds_trans, adds_same, shares_nothing, shares_arguments, shares_value}
use Rattle.solve_core.proofs.sharing.add_shared.Goals as goal

pub returns-then-not-is_declared : goal.returns-then-not-is_declared
returns-then-not-is_declared c =
    let t = c.args.table.now in
    let node = c.node-node.result.now in
    adds_same t c.args.ids.now.items c.args.ids.now.items [] (shared_by (term_at t c.args.id))
    (shares_nothing (term_at t c.args.id) (head_meant t node.head) (clause_at t node.arguments.items) c.node-node.ensures.means (sym (c.if-not-is_declared.ensures t.sorts t.symbols)))
    (adds_none t c.args.ids.now.items)

pub returns-then-is_empty : goal.returns-then-is_empty
returns-then-is_empty c =
    let t = c.args.table.now in
    let node = c.node-node.result.now in
    let slice = c.as_slice-arguments.result.now in
    let us = clause_at t node.arguments.items in
    let same : reals_in (clause_at t slice) ≡ reals_in us = ap (λ (is : List TermId). reals_in (clause_at t is)) c.as_slice-arguments.ensures in
    let bare : length us ≡ 0 = length-map node.arguments.items (term_at t) ∙ sym (ap length c.as_slice-arguments.ensures) ∙ (Decides-eqb (length slice) 0).0 (sym c.is_empty.ensures ∙ c.if-is_empty.true) in
    adds_same t c.args.ids.now.items c.add_reals.new.ids.items (reals_in (clause_at t slice)) (shared_by (term_at t c.args.id))
    (same ∙ shares_arguments (term_at t c.args.id) (head_meant t node.head) us c.node-node.ensures.means (sym (c.if-not-is_declared.ensures t.sorts t.symbols)) bare)
    c.in_ok-add_reals.ensures

pub returns : goal.returns
returns c =
    let t = c.args.table.now in
    let id = c.args.id in
    let node = c.node-node.result.now in
    let slice = c.as_slice-arguments.result.now in
    let us = clause_at t node.arguments.items in
    let same : reals_in (clause_at t slice) ≡ reals_in us = ap (λ (is : List TermId). reals_in (clause_at t is)) c.as_slice-arguments.ensures in
    let own : reals_in (clause_at t c.from_ref.result.now) ≡ reals_in (term_at t id ∷ []) = ap (λ (is : List TermId). reals_in (clause_at t is)) c.from_ref.ensures.value in
    let some : 0 < length us = omega (arith, length-map node.arguments.items (term_at t), ap length c.as_slice-arguments.ensures, above_none (length slice) (sym c.is_empty.ensures ∙ c.if-is_empty.false)) in
    adds_same t c.args.ids.now.items c.add_reals-2.new.ids.items (reals_in us ++ reals_in (term_at t id ∷ [])) (shared_by (term_at t id))
    (shares_value (term_at t id) (head_meant t node.head) us c.node-node.ensures.means (sym (c.if-not-is_declared.ensures t.sorts t.symbols)) some)
    (adds_trans t c.args.ids.now.items c.add_reals.new.ids.items c.add_reals-2.new.ids.items (reals_in us) (reals_in (term_at t id ∷ []))
    (adds_same t c.args.ids.now.items c.add_reals.new.ids.items (reals_in (clause_at t slice)) (reals_in us) same c.in_ok-add_reals.ensures)
    (adds_same t c.add_reals.new.ids.items c.add_reals-2.new.ids.items (reals_in (clause_at t c.from_ref.result.now)) (reals_in (term_at t id ∷ [])) own c.in_ok-add_reals-2.ensures))
