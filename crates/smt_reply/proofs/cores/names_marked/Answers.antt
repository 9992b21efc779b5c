-- One assertion more is looked at.
use Rattle.std.proofs.Common.{false, ◌<◌, length, get_or, sym, ap, ◌∙◌, subst, arith}
use Rattle.spec_commands.specs.Stack.{assertions_of}
use Rattle.term_core.specs.declared.ids.TermId.{TermId}
use Rattle.assertion_stack.specs.Assertions.{no_written}
use Rattle.smt_reply.specs.Cores.{ListsMarked}
use Rattle.smt_reply.proofs.Marked.{AreNamed, none_named, next_named, all_named, long, still_long}
use Rattle.smt_reply.proofs.cores.names_marked.Goals as goal

pub assertions-init : goal.assertions-init
assertions-init c = record {
  as_many = c.requires.as_many;
  so_far = λ limit s assumed h m. subst (AreNamed c.args.table.now assumed (assertions_of s) 0 c.args.marks.now.items) (sym c.new-names.ensures) (none_named c.args.table.now assumed (assertions_of s) c.args.marks.now.items m);
}

pub list_marked-requires : goal.list_marked-requires
list_marked-requires c =
    let x = c.args.stack.now in
    let k = c.assertions.k in
    let lt : k < length x.assertions.ids = omega (arith, c.assertions-test.true, ap length c.current-ids.ensures) in
    let d : TermId = record { 0 = 0 } in
    let there = c.requires.held.2.states.inside k d lt in
    let inside : (get_or x.assertions.ids k d).0 < length c.assertions.marks.items = omega (arith, there, c.assertions.invariant.as_many) in
    subst (λ ids. (get_or ids k d).0 < length c.assertions.marks.items) (sym c.current-ids.ensures) inside

pub assertions-preserved : goal.assertions-preserved
assertions-preserved c =
    let t = c.args.table.now in
    let x = c.args.stack.now in
    let k = c.assertions.k in
    let lt : k < length x.assertions.ids = omega (arith, c.assertions-test.true, ap length c.current-ids.ensures) in
    let d : TermId = record { 0 = 0 } in
    let marks = c.assertions.marks.items in
    let left = c.list_marked.new.marks.items in
    let later = c.list_marked.new.texts in
    let one : ListsMarked (get_or x.assertions.written k no_written).label (get_or x.assertions.ids k d).0 marks c.assertions.names left later =
    subst (λ ids. ListsMarked (get_or x.assertions.written k no_written).label (get_or ids k d).0 marks c.assertions.names left later) c.current-ids.ensures
    (subst (λ l. ListsMarked l (get_or c.current-ids.result.now k d).0 marks c.assertions.names left later) c.name_at.ensures c.in_ok-list_marked.ensures) in
    record {
      as_many = still_long marks left (get_or x.assertions.written k no_written).label (get_or x.assertions.ids k d).0 c.assertions.names later one ∙ c.assertions.invariant.as_many;
      so_far = λ limit s assumed h m. next_named limit t x s h c.ids_are_unique.ensures assumed k lt marks c.assertions.names (c.assertions.invariant.so_far limit s assumed h m) d (h.states.inside k d lt) left later one;
    }

pub returns : goal.returns
returns c = λ limit s assumed h m.
    all_named c.args.table.now assumed (assertions_of s) c.assertions.k c.assertions.marks.items c.assertions.names (omega (arith, c.assertions-test.false, ap length c.current-ids.ensures, long limit c.args.table.now c.args.stack.now s h)) (c.assertions.invariant.so_far limit s assumed h m)
