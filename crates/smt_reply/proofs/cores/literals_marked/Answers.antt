-- One literal more is looked at.
use Rattle.std.proofs.Common.{◌≡◌, [], Some, ◌<◌, length, get_or, sym, ◌∙◌, subst, arith}
use Rattle.std.proofs.lemmas.List.{get_or_default}
use Rattle.term_core.specs.declared.ids.TermId.{TermId}
use Rattle.smt_reply.specs.Cores.{ListsMarked}
use Rattle.smt_reply.proofs.Marked.{AreListed, none_listed, next_listed, all_listed, as_many_literals, still_long}
use Rattle.smt_reply.proofs.cores.literals_marked.Goals as goal

pub literals-init : goal.literals-init
literals-init c = record {
  as_many = c.requires.as_many;
  so_far = λ terms seen ls a e m. subst (AreListed c.args.table.now terms seen ls 0 c.args.marks.now.items) (sym c.new-texts.ensures) (none_listed c.args.table.now terms seen ls c.args.marks.now.items m);
}

pub list_marked-requires : goal.list_marked-requires
list_marked-requires c =
    let k = c.literals.k in
    let d : TermId = record { 0 = 0 } in
    let lt : k < length c.args.assumed.now.ids.items = omega (arith, c.literals-test.true, c.len-k-end.ensures) in
    let is : c.index.result.now ≡ get_or c.args.assumed.now.ids.items k d = c.index.ensures ∙ get_or_default c.args.assumed.now.ids.items k c.index.result.now d lt in
    let there = c.requires.inside k d lt in
    let inside : (get_or c.args.assumed.now.ids.items k d).0 < length c.literals.marks.items = omega (arith, there, c.literals.invariant.as_many) in
    subst (λ (id : TermId). id.0 < length c.literals.marks.items) (sym is) inside

pub literals-preserved : goal.literals-preserved
literals-preserved c =
    let t = c.args.table.now in
    let a = c.args.assumed.now in
    let k = c.literals.k in
    let lt : k < length a.ids.items = omega (arith, c.literals-test.true, c.len-k-end.ensures) in
    let d : TermId = record { 0 = 0 } in
    let marks = c.literals.marks.items in
    let left = c.list_marked.new.marks.items in
    let later = c.list_marked.new.texts in
    let is : c.index.result.now ≡ get_or a.ids.items k d = c.index.ensures ∙ get_or_default a.ids.items k c.index.result.now d lt in
    let one : ListsMarked (Some (get_or a.texts k [])) (get_or a.ids.items k d).0 marks c.literals.texts left later =
    subst (λ (id : TermId). ListsMarked (Some (get_or a.texts k [])) id.0 marks c.literals.texts left later) is
    (subst (λ row. ListsMarked (Some row) c.index.result.now.0 marks c.literals.texts left later) c.row.ensures c.in_ok-list_marked.ensures) in
    record {
      as_many = still_long marks left (Some (get_or a.texts k [])) (get_or a.ids.items k d).0 c.literals.texts later one ∙ c.literals.invariant.as_many;
      so_far = λ terms seen ls h e m. next_listed t c.ids_are_unique.ensures a.ids.items ls h a.texts e terms seen k d lt marks c.literals.texts (c.literals.invariant.so_far terms seen ls h e m) [] left later one;
    }

pub returns : goal.returns
returns c = λ terms seen ls h e m.
    all_listed c.args.table.now terms seen ls c.literals.k c.literals.marks.items c.literals.texts (omega (arith, c.literals-test.false, c.len-k-end.ensures, as_many_literals c.args.table.now c.args.assumed.now.ids.items ls h)) (c.literals.invariant.so_far terms seen ls h e m)
