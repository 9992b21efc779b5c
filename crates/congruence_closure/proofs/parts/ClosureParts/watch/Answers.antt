-- The terms that came are each alone, and the listed one is the last.
use Rattle.std.proofs.Common.{◌<◌, length, sym, ap, subst}
use Rattle.class_table.specs.Classes.{with_terms}
use Rattle.term_core.specs.Tables.{shape_of}
use Rattle.congruence_relation.specs.Relation.{Application}
use Rattle.congruence_closure.specs.Listed.{IsListed}
use Rattle.congruence_closure.specs.State.{PartsView, PartsFit}
use Rattle.congruence_closure.specs.Kept.{state_of}
use Rattle.congruence_closure.proofs.Growing.{with_numbers, kept_grown, kept_listed}
use Rattle.congruence_closure.proofs.parts.ClosureParts.watch.Goals as goal

pub invariant_of-self : goal.invariant_of-self
invariant_of-self c =
    let added = c.in_err-add_term.ensures in
    record {
      kept = subst PartsFit (λ i. record {
        facts = record { listed = c.self.inside.listing; truths = c.self.inside.truths; held = sym added.holding.held i };
        numbers = sym added.classes.numbers i;
        edges = sym added.forest.edges i;
        keys = c.self.inside.keys;
        left = (state_of c.self.inside).left;
      }) (kept_grown (state_of c.self.inside) added.classes.count c.self.invariant.kept);
      terms = added.fits c.self.invariant.terms;
      room = added.room c.self.invariant.room;
      next = c.self.invariant.next;
    }

pub invariant_of-self-in_err-add : goal.invariant_of-self-in_err-add
invariant_of-self-in_err-add c =
    let added = c.in_ok-add_term.ensures in
    record {
      kept = subst PartsFit (λ i. record {
        facts = record { listed = sym c.in_err-add.ensures.err i; truths = c.self.inside.truths; held = sym added.holding.held i };
        numbers = sym added.classes.numbers i;
        edges = sym added.forest.edges i;
        keys = c.self.inside.keys;
        left = (state_of c.self.inside).left;
      }) (kept_grown (state_of c.self.inside) added.classes.count c.self.invariant.kept);
      terms = added.fits c.self.invariant.terms;
      room = added.room c.self.invariant.room;
      next = c.self.invariant.next;
    }

pub invariant_of-self-2 : goal.invariant_of-self-2
invariant_of-self-2 c =
    let added = c.in_ok-add_term.ensures in
    let x : Application = record { term = c.args.id; shape = shape_of c.args.node.now; takes_part = c.args.takes_part } in
    let absent = subst (λ (v : PartsView). IsListed v.now.facts.listed c.args.id → ⊥) (sym c.self.view_is) c.requires.new in
    let low = subst (λ n. c.args.id.0 < n) (ap length added.classes.numbers) added.ok in
    let grown = with_numbers (state_of c.self.inside) (with_terms added.classes.count c.self.inside.classes.numbers) in
    record {
      kept = subst PartsFit (λ i. record {
        facts = record { listed = sym c.in_ok-add.ensures.ok i; truths = c.self.inside.truths; held = sym added.holding.held i };
        numbers = sym added.classes.numbers i;
        edges = sym added.forest.edges i;
        keys = c.self.inside.keys;
        left = (state_of c.self.inside).left;
      }) (kept_listed (with_numbers (state_of c.self.inside) (with_terms added.classes.count c.self.inside.classes.numbers)) x
          (kept_grown (state_of c.self.inside) added.classes.count c.self.invariant.kept) absent low c.requires.below);
      terms = added.fits c.self.invariant.terms;
      room = added.room c.self.invariant.room;
      next = c.self.invariant.next;
    }
