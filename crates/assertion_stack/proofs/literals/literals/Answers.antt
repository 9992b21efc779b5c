-- One literal more, or the end, or a fault.
use Rattle.std.proofs.Common.{refl, sym, ◌∙◌, subst}
use Rattle.smt_sexpr.specs.Items.{trees_meant, tree_meant}
use Rattle.smt_sexpr.proofs.Splitting.{split_end, split_more}
use Rattle.term_reader.specs.Scopes.{ScopeMeans}
use Rattle.term_reader.proofs.Tables.{keeps_same, keeps_along}
use Rattle.term_reader.proofs.OverTable.{meaning_kept}
use Rattle.assertion_stack.proofs.ReadLiterals.{AreFirst, first_none, all_read, next_fails, next_read}
use Rattle.assertion_stack.proofs.literals.literals.Goals as goal

pub trees-init : goal.trees-init
trees-init c =
    let t = c.args.table.now in
    let all = trees_meant c.args.trees in
    record {
      keeps = keeps_same t;
      same = refl;
      first = λ s h. subst (AreFirst t s all all) (sym c.new-ids.ensures.items) (first_none s all t);
    }

pub literal-requires : goal.literal-requires
literal-requires c =
    let i = c.trees.invariant in
    let s = c.requires.0 in
    (s, subst (λ v. ScopeMeans c.trees.table v s) (sym i.same) (meaning_kept c.args.table.now c.trees.table i.keeps c.args.scope.now s c.requires.1))

pub returns-in-Err-clause-ends : goal.returns-in-Err-clause-ends
returns-in-Err-clause-ends c s h =
    let i = c.trees.invariant in
    let t = c.trees.table in
    let there = subst (λ v. ScopeMeans t v s) (sym i.same) (meaning_kept c.args.table.now t i.keeps c.args.scope.now s h) in
    let is = split_more (trees_meant c.trees.rest) (trees_meant c.in-Some.after) (tree_meant c.in-Some.first) c.in-Some.ensures.first in
    next_fails s (trees_meant c.args.trees) t (trees_meant c.trees.rest) c.trees.ids.items (i.first s h) (tree_meant c.in-Some.first) (trees_meant c.in-Some.after) is c.in-Err.stop (c.in-Err.ensures.ends s there)

pub returns-in-Err-clause-keeps : goal.returns-in-Err-clause-keeps
returns-in-Err-clause-keeps c = keeps_along _ _ _ c.trees.invariant.keeps c.in-Err.ensures.keeps

pub returns-in-Err-clause-same : goal.returns-in-Err-clause-same
returns-in-Err-clause-same c = c.in-Err.ensures.same ∙ c.trees.invariant.same

pub trees-preserved : goal.trees-preserved
trees-preserved c =
    let i = c.trees.invariant in
    let t = c.trees.table in
    let new = c.literal.new.table in
    let all = trees_meant c.args.trees in
    let is = split_more (trees_meant c.trees.rest) (trees_meant c.in-Some.after) (tree_meant c.in-Some.first) c.in-Some.ensures.first in
    record {
      keeps = keeps_along _ _ _ i.keeps c.in-Ok.ensures.keeps;
      same = c.in-Ok.ensures.same ∙ i.same;
      first = λ s h.
          let there = subst (λ v. ScopeMeans t v s) (sym i.same) (meaning_kept c.args.table.now t i.keeps c.args.scope.now s h) in
          let r = c.in-Ok.ensures.ends s there in
          subst (AreFirst new s all (trees_meant c.in-Some.after)) (sym c.in_default-push.ensures.items)
          (next_read s all t (trees_meant c.trees.rest) c.trees.ids.items (i.first s h) (tree_meant c.in-Some.first) (trees_meant c.in-Some.after) is new r.0 c.in-Ok.id c.in-Ok.ensures.keeps r.1 r.2);
    }

pub returns-clause-ends : goal.returns-clause-ends
returns-clause-ends c s h =
    let first = c.trees.invariant.first s h in
    all_read s (trees_meant c.args.trees) c.trees.table (trees_meant c.trees.rest) c.trees.ids.items first (split_end (trees_meant c.trees.rest) c.in_default.ensures.first)
