-- One assertion more is struck, or is not.
use Rattle.std.proofs.Common.{◌≡◌, true, false, ◌<◌, ◌+◌, ◌-◌, drop, length, get_or, refl, sym, ap, ◌∙◌, subst, arith}
use Rattle.std.specs.List.{slice_set}
use Rattle.std.proofs.lemmas.List.{length-set}
use Rattle.spec_commands.specs.Stack.{assertions_of}
use Rattle.term_core.specs.declared.ids.TermId.{TermId}
use Rattle.alethe_writer.specs.Assumes.{SaysWhether}
use Rattle.smt_reply.proofs.Marked.{left_by, one_struck, none_struck, none_left}
use Rattle.smt_reply.proofs.cores.strike.Goals as goal

pub assertions-init : goal.assertions-init
assertions-init c = record {
  within = omega (arith, ap length c.current-ids.ensures);
  as_many = refl;
  so_far = λ limit s test h m. none_left limit c.args.table.now c.args.stack.now s h test c.args.all _ c.args.marks.now.items (omega (arith, ap length c.current-ids.ensures)) m;
}

pub take-requires : goal.take-requires
take-requires c =
    let x = c.args.stack.now in
    let k = c.assertions.k - 1 in
    let lt : k < length x.assertions.ids = omega (arith, c.assertions-test.true, c.assertions.invariant.within) in
    let d : TermId = record { 0 = 0 } in
    let there = c.requires.held.2.states.inside k d lt in
    let inside : (get_or x.assertions.ids k d).0 < length c.assertions.marks.items = omega (arith, there, c.assertions.invariant.as_many, c.requires.as_many) in
    subst (λ ids. (get_or ids k d).0 < length c.assertions.marks.items) (sym c.current-ids.ensures) inside

pub assertions-preserved-then-is_struck : goal.assertions-preserved-then-is_struck
assertions-preserved-then-is_struck c =
    let t = c.args.table.now in
    let x = c.args.stack.now in
    let all = c.args.all in
    let marks = c.assertions.marks.items in
    let k = c.assertions.k - 1 in
    let lt : k < length x.assertions.ids = omega (arith, c.assertions-test.true, c.assertions.invariant.within) in
    let next : c.assertions.k ≡ k + 1 = omega (arith, c.assertions-test.true) in
    let d : TermId = record { 0 = 0 } in
    let left : c.take.new.marks.items ≡ slice_set marks (get_or x.assertions.ids k d).0 false = c.take.ensures.left ∙ ap (λ ids. slice_set marks (get_or ids k d).0 false) c.current-ids.ensures in
    record {
      within = omega (arith, lt);
      as_many = ap length left ∙ length-set marks (get_or x.assertions.ids k d).0 false ∙ c.assertions.invariant.as_many;
      so_far = λ limit s test h m.
          subst (SaysWhether t (left_by test all (drop k (assertions_of s)))) (sym left)
          (one_struck limit t x s h c.ids_are_unique.ensures all test k d lt (h.states.inside k d lt) marks (sym c.is_struck.ensures ∙ c.if-is_struck.true)
          (subst (λ j. SaysWhether t (left_by test all (drop j (assertions_of s))) marks) next (c.assertions.invariant.so_far limit s test h m)));
    }

pub assertions-preserved : goal.assertions-preserved
assertions-preserved c =
    let t = c.args.table.now in
    let x = c.args.stack.now in
    let all = c.args.all in
    let marks = c.assertions.marks.items in
    let k = c.assertions.k - 1 in
    let lt : k < length x.assertions.ids = omega (arith, c.assertions-test.true, c.assertions.invariant.within) in
    let next : c.assertions.k ≡ k + 1 = omega (arith, c.assertions-test.true) in
    let d : TermId = record { 0 = 0 } in
    record {
      within = omega (arith, lt);
      as_many = c.assertions.invariant.as_many;
      so_far = λ limit s test h m.
          none_struck limit t x s h c.ids_are_unique.ensures all test k d lt marks (sym c.is_struck.ensures ∙ c.if-is_struck.false)
          (subst (λ j. SaysWhether t (left_by test all (drop j (assertions_of s))) marks) next (c.assertions.invariant.so_far limit s test h m));
    }

pub returns-clause-left : goal.returns-clause-left
returns-clause-left c limit s test h m =
    let end : c.assertions.k ≡ 0 = omega (arith, c.assertions-test.false) in
    subst (λ j. SaysWhether c.args.table.now (left_by test c.args.all (drop j (assertions_of s))) c.assertions.marks.items) end (c.assertions.invariant.so_far limit s test h m)
