-- A text of a sort.
use Rattle.std.proofs.Common.{◌≡◌, false, true, [], length, map, refl, sym, ap, ◌∙◌, subst, arith}
use Rattle.std.specs.Prelude.{Err, Ok}
use Rattle.spec_text.specs.declared.Fault.TheVariants.{WrongSort}
use Rattle.spec_text.specs.Answers.{refused}
use Rattle.spec_text.specs.Trees.{offset_of}
use Rattle.spec_sorts.specs.Terms.{sort_of, all_same}
use Rattle.spec_reading.specs.Reading.{reading_of_sort}
use Rattle.smt_sexpr.specs.Items.{trees_meant, tree_meant, first_of}
use Rattle.smt_sexpr.proofs.Splitting.{split_more}
use Rattle.term_core.specs.Symbols.{sort_meant}
use Rattle.term_core.specs.Tables.{term_at, IsIn, clause_at}
use Rattle.term_reader.specs.Names.{setting_meant, located_of}
use Rattle.sort_check.specs.Bindings.{bound_at}
use Rattle.sort_check.specs.Reads.{HasFault}
use Rattle.sort_check.specs.Walks.{first_term, AllMean}
use Rattle.sort_check.proofs.Widening.{grows_same}
use Rattle.sort_check.proofs.Kept.{mean_at, mean_long}
use Rattle.sort_check.proofs.Rows.{one_done}
use Rattle.sort_check.proofs.OneText.{sort_stops, other_sort, that_sort}
use Rattle.sort_check.proofs.sorted.read_of_sort.Goals as goal

pub returns-in_default-clause-grows : goal.returns-in_default-clause-grows
returns-in_default-clause-grows c = grows_same _

pub returns-then-not-all_have-clause-ends : goal.returns-then-not-all_have-clause-ends
returns-then-not-all_have-clause-ends c =
    let w = setting_meant c.args.setting in
    let text = tree_meant c.in-Some.text in
    let b = bound_at c.args.table.now c.args.bound in
    let sort = sort_meant c.args.table.now.sorts c.args.sort in
    let u = c.read.new.table in
    let same : tree_meant c.args.tree ≡ text = ap first_of (split_more (trees_meant c.args.tree) (trees_meant c.in-Some.field-0-1) text c.in-Some.ensures.first) in
    λ s h.
    let r = c.in-Ok.ensures.ends s h in
    let sorts = ap (λ d. d.sorts) c.in-Ok.ensures.grows.keeps.declared in
    let wrong : all_same sort (map sort_of (clause_at u c.in-Ok.ids.items)) ≡ false = (λ i. all_same (sort_meant (sym sorts i) c.args.sort) (map sort_of (clause_at u (sym c.deref.ensures.value i)))) ∙ sym c.all_have.ensures ∙ c.if-not-all_have.true in
    subst (λ x. reading_of_sort w s b sort x ≡ refused (offset_of x) WrongSort) (sym same) (other_sort w s b text u c.in-Ok.ids.items sort (trees_meant c.in-Some.text) r.readings c.in-Some.ensures.alone r.read r.terms.1 wrong)
    ∙ (λ i. refused (sym c.offset.ensures i) WrongSort) ∙ ap (λ f. Err (located_of f)) (sym c.fault_at.ensures)

pub index-requires : goal.index-requires
index-requires c =
    let w = setting_meant c.args.setting in
    let e = c.requires.known in
    let b = bound_at c.args.table.now c.args.bound in
    let r = c.in-Ok.ensures.ends e.0 e.1 in
    let one = one_done w e.0 b (tree_meant c.in-Some.text) (trees_meant c.in-Some.text) r.readings c.in-Some.ensures.alone r.read in
    omega (arith, mean_long c.read.new.table c.in-Ok.ids.items r.readings.terms r.terms, ap length one, c.in-Ok.ids.ok.0)

pub returns-in-Err-clause-ends : goal.returns-in-Err-clause-ends
returns-in-Err-clause-ends c =
    let w = setting_meant c.args.setting in
    let text = tree_meant c.in-Some.text in
    let b = bound_at c.args.table.now c.args.bound in
    let sort = sort_meant c.args.table.now.sorts c.args.sort in
    let same : tree_meant c.args.tree ≡ text = ap first_of (split_more (trees_meant c.args.tree) (trees_meant c.in-Some.field-0-1) text c.in-Some.ensures.first) in
    λ s h. subst (λ x. HasFault (reading_of_sort w s b sort x) c.in-Err.stop) (sym same)
    (sort_stops w s b text sort (trees_meant c.in-Some.text) c.in-Err.stop c.in-Some.ensures.alone (c.in-Err.ensures.ends s h))

pub returns-else-not-all_have-clause-ends : goal.returns-else-not-all_have-clause-ends
returns-else-not-all_have-clause-ends c =
    let w = setting_meant c.args.setting in
    let text = tree_meant c.in-Some.text in
    let b = bound_at c.args.table.now c.args.bound in
    let sort = sort_meant c.args.table.now.sorts c.args.sort in
    let u = c.read.new.table in
    let same : tree_meant c.args.tree ≡ text = ap first_of (split_more (trees_meant c.args.tree) (trees_meant c.in-Some.field-0-1) text c.in-Some.ensures.first) in
    λ s h.
    let r = c.in-Ok.ensures.ends s h in
    let sorts = ap (λ d. d.sorts) c.in-Ok.ensures.grows.keeps.declared in
    let right : all_same sort (map sort_of (clause_at u c.in-Ok.ids.items)) ≡ true = (λ i. all_same (sort_meant (sym sorts i) c.args.sort) (map sort_of (clause_at u (sym c.deref.ensures.value i)))) ∙ sym c.all_have.ensures ∙ c.if-not-all_have.false in
    let one = one_done w s b text (trees_meant c.in-Some.text) r.readings c.in-Some.ensures.alone r.read in
    let at = mean_at u c.in-Ok.ids.items [] (first_term r.readings.terms) 0 c.index.result.now refl (subst (AllMean u c.in-Ok.ids.items) one r.terms) in
    record {
      reading = record { made = r.readings.made; term = first_term r.readings.terms };
      read = subst (λ x. reading_of_sort w s b sort x ≡ Ok (record { made = r.readings.made; term = first_term r.readings.terms })) (sym same) (that_sort w s b text u c.in-Ok.ids.items sort (trees_meant c.in-Some.text) r.readings c.in-Some.ensures.alone r.read r.terms.1 right);
      term = subst (λ id. IsIn u id × (term_at u id ≡ first_term r.readings.terms)) (sym c.index.ensures) at.1;
      represents = r.represents;
      named = r.named;
    }
