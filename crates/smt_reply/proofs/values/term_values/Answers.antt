-- One value more, or the end, or a fault.
use Rattle.std.proofs.Common.{◌+◌, drop, refl, sym, subst, arith}
use Rattle.smt_sexpr.specs.Items.{trees_meant, tree_meant}
use Rattle.smt_sexpr.proofs.Splitting.{split_end, split_more}
use Rattle.term_core.specs.Tables.{clause_at}
use Rattle.smt_reply.proofs.Valued.{AreFirst, first_none, next_fails, next_valued, texts_end, terms_end, terms_left, no_terms_left}
use Rattle.smt_reply.proofs.values.term_values.Goals as goal

pub ids-init : goal.ids-init
ids-init c =
    let all = trees_meant c.args.trees in
    let terms = clause_at c.args.table.now c.args.ids.now in
    record { first = λ i h. subst (AreFirst i c.args.table.now.sorts all terms all terms) (sym c.new-values.ensures.items) (first_none i c.args.table.now.sorts all terms) }

pub returns-in_default : goal.returns-in_default
returns-in_default c i h =
    let terms = clause_at c.args.table.now c.args.ids.now in
    let rest = trees_meant c.ids.rest in
    texts_end i c.args.table.now.sorts (trees_meant c.args.trees) terms rest (drop c.ids.id-index terms) c.ids.values.items (c.ids.invariant.first i h) (split_end rest c.in_default.ensures.first)

pub returns-in-Err : goal.returns-in-Err
returns-in-Err c i h =
    let t = c.args.table.now in
    let terms = clause_at t c.args.ids.now in
    let rest = trees_meant c.ids.rest in
    let is = split_more rest (trees_meant c.in-Some.after) (tree_meant c.in-Some.first) c.in-Some.ensures.first in
    next_fails i t.sorts (trees_meant c.args.trees) terms rest (drop c.ids.id-index terms) c.ids.values.items (c.ids.invariant.first i h) (tree_meant c.in-Some.first) (trees_meant c.in-Some.after) is _ _ (terms_left t c.args.ids.now c.ids.id-index _ _ c.ids-test.true refl) c.in-Err.stop (c.in-Err.ensures i h)

pub ids-preserved : goal.ids-preserved
ids-preserved c =
    let t = c.args.table.now in
    let all = trees_meant c.args.trees in
    let terms = clause_at t c.args.ids.now in
    let rest = trees_meant c.ids.rest in
    let after = trees_meant c.in-Some.after in
    let is = split_more rest after (tree_meant c.in-Some.first) c.in-Some.ensures.first in
    record {
      first = λ i h. subst (AreFirst i t.sorts all terms after (drop (c.ids.id-index + 1) terms)) (sym c.in_default-push.ensures.items)
          (next_valued i t.sorts all terms rest (drop c.ids.id-index terms) c.ids.values.items (c.ids.invariant.first i h) (tree_meant c.in-Some.first) after is _ _ (terms_left t c.args.ids.now c.ids.id-index _ _ c.ids-test.true refl) c.in-Ok.value (c.in-Ok.ensures i h));
    }

pub returns : goal.returns
returns c i h =
    let t = c.args.table.now in
    let terms = clause_at t c.args.ids.now in
    let none = no_terms_left t c.args.ids.now c.ids.id-index (omega (arith, c.ids-test.false)) in
    terms_end i t.sorts (trees_meant c.args.trees) terms (trees_meant c.ids.rest) (drop c.ids.id-index terms) c.ids.values.items (c.ids.invariant.first i h) none
