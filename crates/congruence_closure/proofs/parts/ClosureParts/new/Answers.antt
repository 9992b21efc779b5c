-- The terms of the truth values are there, and nothing else.
use Rattle.std.proofs.Common.{◌≡◌, ◌≤◌, [], length, drop, sym, ap, ◌∙◌, subst, arith}
use Rattle.class_table.specs.Classes.{with_terms}
use Rattle.class_table.proofs.Joined.{length-with_terms}
use Rattle.explain_forest.specs.Forest.{ForestState}
use Rattle.congruence_closure.specs.State.{PartsState, AreJoint, PartsFit}
use Rattle.congruence_closure.proofs.Growing.{joint_none, joint_grown, kept_start}
use Rattle.congruence_closure.proofs.parts.ClosureParts.new.Goals as goal

pub invariant_of-result : goal.invariant_of-result
invariant_of-result c =
    let first = c.in_ok-add_term.ensures in
    let second = c.in_ok-add_term-2.ensures in
    let one : AreJoint c.add_term.new.classes.numbers [] = subst (λ ns. AreJoint ns []) (sym (first.classes.numbers ∙ ap (with_terms first.classes.count) c.new-classes.ensures.numbers)) (joint_grown [] [] first.classes.count joint_none) in
    let two : AreJoint c.add_term-2.new.classes.numbers [] = subst (λ ns. AreJoint ns []) (sym second.classes.numbers) (joint_grown c.add_term.new.classes.numbers [] second.classes.count one) in
    let longer : length c.add_term.new.classes.numbers ≤ length c.add_term-2.new.classes.numbers
    = omega (arith, ap length second.classes.numbers, length-with_terms c.add_term.new.classes.numbers second.classes.count) in
    let edges : c.add_term-2.new.forest.now.edges ≡ [] = second.forest.edges ∙ first.forest.edges ∙ ap (λ (f : ForestState). f.edges) c.new-forest.ensures.now in
    let none : length c.new-classes.result.numbers ≡ 0 = ap length c.new-classes.ensures.numbers in
    let state : PartsState = record {
      facts = record { listed = c.new.result; truths = c.args.truths; held = c.add_term-2.new.holding.held };
      numbers = c.add_term-2.new.classes.numbers;
      edges = c.add_term-2.new.forest.now.edges;
      keys = c.new-2.result;
      left = record { looked = 0; given = 0; pending = drop 0 c.new-3.result.items };
    } in
    record {
      kept = subst PartsFit (λ i. record {
        facts = record { listed = sym c.new.ensures i; truths = c.args.truths; held = sym (second.holding.held ∙ first.holding.held ∙ c.new-holding.ensures.held) i };
        numbers = c.add_term-2.new.classes.numbers;
        edges = sym edges i;
        keys = sym c.new-2.ensures i;
        left = record { looked = 0; given = 0; pending = drop 0 (sym c.new-3.ensures.items i) };
      }) (kept_start c.args.truths c.add_term-2.new.classes.numbers two (omega (arith, first.ok, longer)) second.ok);
      terms = second.fits (first.fits (omega (arith, none)));
      room = second.room (first.room (omega (arith, none)));
      next = omega arith;
    }
