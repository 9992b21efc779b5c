-- The classes are joined, and more is to be looked at.
use Rattle.std.proofs.Common.{◌≡◌, ◌<◌, ◌++◌, length, drop, take, sym, ap, ◌∙◌, subst, arith}
use Rattle.std.proofs.lemmas.List.{drop-append-le, length-append}
use Rattle.class_table.specs.Classes.{AreSame}
use Rattle.class_table.proofs.Joined.{length-joined}
use Rattle.explain_forest.specs.declared.types.Label.{Label}
use Rattle.explain_forest.specs.Forest.{ForestState}
use Rattle.congruence_relation.specs.Edges.{IsEdgeReason}
use Rattle.congruence_closure.specs.State.{PartsView, PartsFit}
use Rattle.congruence_closure.specs.Changes.{ClassAtMost, IsWhy}
use Rattle.congruence_closure.specs.Kept.{state_of}
use Rattle.congruence_closure.proofs.Joining.{kept_joined, why_reason}
use Rattle.congruence_closure.proofs.Steps.{kept_more}
use Rattle.congruence_closure.proofs.parts.ClosureParts.put_under.Goals as goal

pub invariant_of-self : goal.invariant_of-self
invariant_of-self c =
    let put = c.in_err-queue_users.ensures.put in
    let pending : drop c.self.inside.next c.queue_users.new.pending.items ≡ drop c.self.inside.next c.self.inside.pending.items ++ put.0
    = ap (drop c.self.inside.next) put.1 ∙ drop-append-le c.self.inside.next c.self.inside.pending.items put.0 c.self.invariant.next in
    record {
      kept = kept_more (state_of c.self.inside) (drop c.self.inside.next c.queue_users.new.pending.items) put.0 c.self.invariant.kept pending;
      terms = c.self.invariant.terms;
      room = c.self.invariant.room;
      next = omega (arith, c.self.invariant.next, ap length put.1, length-append c.self.inside.pending.items put.0);
    }

pub invariant_of-self-2 : goal.invariant_of-self-2
invariant_of-self-2 c =
    let a = c.args.a in
    let b = c.args.b in
    let put = c.in_ok-queue_users.ensures.put in
    let pending : drop c.self.inside.next c.queue_users.new.pending.items ≡ drop c.self.inside.next c.self.inside.pending.items ++ put.0
    = ap (drop c.self.inside.next) put.1 ∙ drop-append-le c.self.inside.next c.self.inside.pending.items put.0 c.self.invariant.next in
    let a_low = subst (λ (v : PartsView). c.args.a.0 < length v.now.numbers) (sym c.self.view_is) c.requires.a in
    let b_low = subst (λ (v : PartsView). c.args.b.0 < length v.now.numbers) (sym c.self.view_is) c.requires.b in
    let apart = subst (λ (v : PartsView). AreSame v.now.numbers c.args.a c.args.b → ⊥) (sym c.self.view_is) c.requires.apart in
    let smaller = subst (λ (v : PartsView). ClassAtMost v.now.numbers c.args.a c.args.b) (sym c.self.view_is) c.requires.smaller in
    let why = subst (λ (v : PartsView). IsWhy v.now.facts v.now.edges c.args.why c.args.a c.args.b) (sym c.self.view_is) c.requires.why in
    let reason = subst (λ (l : Label). IsEdgeReason (state_of c.self.inside).facts c.self.inside.forest.now.edges (record { a = c.args.a; b = c.args.b; label = l }) l) (sym c.label_of.ensures)
    (why_reason (state_of c.self.inside).facts c.self.inside.forest.now.edges c.args.why c.args.a c.args.b why) in
    record {
      kept = subst PartsFit (λ i. record {
        facts = (state_of c.self.inside).facts;
        numbers = sym c.relabel.ensures.numbers i;
        edges = sym (ap (λ (f : ForestState). f.edges) c.link.ensures.now) i;
        keys = c.self.inside.keys;
        left = record { looked = c.self.inside.looked; given = c.self.inside.given; pending = drop c.self.inside.next c.queue_users.new.pending.items };
      }) (kept_joined (state_of c.self.inside) c.args.a c.args.b c.self.invariant.kept a_low b_low apart smaller c.label_of.result (drop c.self.inside.next c.queue_users.new.pending.items) put.0 pending put.2 reason);
      terms = omega (arith, c.self.invariant.terms, ap length c.relabel.ensures.numbers, length-joined c.self.inside.classes.numbers c.args.a c.args.b, ap (λ (f : ForestState). f.terms) c.link.ensures.now);
      room = omega (arith, c.self.invariant.room, ap length c.relabel.ensures.numbers, length-joined c.self.inside.classes.numbers c.args.a c.args.b);
      next = omega (arith, c.self.invariant.next, ap length put.1, length-append c.self.inside.pending.items put.0);
    }

pub returns-clause-goes : goal.returns-clause-goes
returns-clause-goes c =
    let view = c.self.view_is in
    record {
      facts = ap (λ (v : PartsView). v.now.facts) c.self.view_is;
      terms = ap (λ (f : ForestState). f.terms) c.link.ensures.now ∙ ap (λ (v : PartsView). v.terms) c.self.view_is;
      numbers = ap length c.relabel.ensures.numbers ∙ length-joined c.self.inside.classes.numbers c.args.a c.args.b ∙ ap (λ (v : PartsView). length v.now.numbers) c.self.view_is;
      numbers_marks = c.relabel.ensures.marks ∙ ap (λ (v : PartsView). v.numbers_marks) c.self.view_is;
      edges_marks = c.link.ensures.marks ∙ ap (λ (v : PartsView). v.edges_marks) c.self.view_is;
      shapes = λ k le. ap (λ (v : PartsView). take k v.now.keys.shapes) c.self.view_is;
      holders = λ k le. ap (λ (v : PartsView). take k v.now.keys.holders) c.self.view_is;
      count = omega (arith, ap (λ (v : PartsView). length v.now.keys.shapes) c.self.view_is);
    }
