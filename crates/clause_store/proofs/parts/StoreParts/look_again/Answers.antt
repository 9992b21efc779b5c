-- By the only literals.
use Rattle.std.proofs.Common.{arith, ◌<◌, ℕ, List, All, Contains, get_or, sym, subst}
use Rattle.std.proofs.lemmas.List.Elements.{Contains-push}
use Rattle.term_core.specs.declared.ids.Lit.{Lit}
use Rattle.clause_literals.specs.Literals.{lit_complement}
use Rattle.clause_store.specs.Entries.{clauses_of, bare}
use Rattle.clause_store.proofs.Adding.{adds_one, advances_on, holds_on}
use Rattle.clause_store.proofs.Again.{again_all, again_alone, again_clause, again_entry, again_more, again_pair, again_there}
use Rattle.clause_store.proofs.Stored.{entry_step, known_of}
use Rattle.clause_store.proofs.parts.StoreParts.look_again.Goals as goal
use Rattle.clause_store.proofs.parts.StoreParts.look_again.Goals.{in-Some-true, in-None}

pub index-requires : goal.index-requires
index-requires c = omega (arith, again_pair c.args.self.now c.args.trail.now c.requires c.deref-n-items.result.now c.deref-n-items.ensures.value c.loop-n.n-index c.loop-n-test.true, c.args.self.now.watched.pairs.ok.0)

pub value-requires : goal.value-requires
value-requires c = record { known = known_of (clauses_of c.args.self.now.watched.entries.items) c.loop-n.trail.vars (get_or c.deref-n-items.result.now c.loop-n.n-index 0) c.index.result.now.first c.loop-n.invariant.known (again_clause c.args.self.now c.args.trail.now c.requires c.deref-n-items.result.now c.deref-n-items.ensures.value c.loop-n.n-index c.loop-n-test.true) (again_there c.args.self.now c.args.trail.now c.requires c.deref-n-items.result.now c.deref-n-items.ensures.value c.loop-n.n-index c.loop-n-test.true c.index.result.now c.index.ensures) }

pub returns-in-Some-false-clause-ends : goal.returns-in-Some-false-clause-ends
returns-in-Some-false-clause-ends c =
    let fails : Contains c.loop-n.trail.literals (lit_complement c.index.result.now.first) = rw c.in-Some-false.field-0-test at c.in-Some-false.ensures in
    record { there = again_clause c.args.self.now c.args.trail.now c.requires c.deref-n-items.result.now c.deref-n-items.ensures.value c.loop-n.n-index c.loop-n-test.true; fails = λ m i. subst (λ (l : Lit). Contains c.loop-n.trail.literals (lit_complement l)) (sym (again_alone c.args.self.now c.args.trail.now c.requires c.deref-n-items.result.now c.deref-n-items.ensures.value c.loop-n.n-index c.loop-n-test.true c.index.result.now c.index.ensures m i)) fails }

pub index-requires-in-None : goal.index-requires-in-None
index-requires-in-None c = omega (arith, again_entry c.args.self.now c.args.trail.now c.requires c.deref-n-items.result.now c.deref-n-items.ensures.value c.loop-n.n-index c.loop-n-test.true, c.args.self.now.watched.entries.ok.0)

pub imply-requires-clause-known : goal.imply-requires-clause-known
imply-requires-clause-known c = known_of (clauses_of c.args.self.now.watched.entries.items) c.loop-n.trail.vars (get_or c.deref-n-items.result.now c.loop-n.n-index 0) c.index.result.now.first c.loop-n.invariant.known (again_clause c.args.self.now c.args.trail.now c.requires c.deref-n-items.result.now c.deref-n-items.ensures.value c.loop-n.n-index c.loop-n-test.true) (again_there c.args.self.now c.args.trail.now c.requires c.deref-n-items.result.now c.deref-n-items.ensures.value c.loop-n.n-index c.loop-n-test.true c.index.result.now c.index.ensures)

pub loop-n-preserved : goal.loop-n-preserved
loop-n-preserved c =
    let inv = c.loop-n.invariant in
    elim c.match-value.branch [
      | in-Some-true w ↦
          let holds : Contains c.loop-n.trail.literals c.index.result.now.first = rw w.in-Some-true.field-0-test at w.in-Some-true.ensures in
          rw w.trail-is (record { advances = inv.advances; known = inv.known; hold = again_more c.args.self.now c.args.trail.now c.requires c.deref-n-items.result.now c.deref-n-items.ensures.value c.loop-n.n-index c.loop-n-test.true c.index.result.now c.index.ensures c.loop-n.trail.literals inv.hold holds })
      | in-None w ↦
          let step = entry_step c.args.self.now.watched.entries.items (get_or c.deref-n-items.result.now c.loop-n.n-index 0) w.index-in-None.result.now (again_entry c.args.self.now c.args.trail.now c.requires c.deref-n-items.result.now c.deref-n-items.ensures.value c.loop-n.n-index c.loop-n-test.true) w.index-in-None.ensures in
          let g = adds_one (bare c.args.self.now.watched.entries.items) c.loop-n.trail w.imply.new.self (get_or c.deref-n-items.result.now c.loop-n.n-index 0) c.index.result.now.first _ (again_clause c.args.self.now c.args.trail.now c.requires c.deref-n-items.result.now c.deref-n-items.ensures.value c.loop-n.n-index c.loop-n-test.true) (again_there c.args.self.now c.args.trail.now c.requires c.deref-n-items.result.now c.deref-n-items.ensures.value c.loop-n.n-index c.loop-n-test.true c.index.result.now c.index.ensures) (λ m i d. absurd (d (again_alone c.args.self.now c.args.trail.now c.requires c.deref-n-items.result.now c.deref-n-items.ensures.value c.loop-n.n-index c.loop-n-test.true c.index.result.now c.index.ensures m i))) step w.imply.ensures in
          rw w.trail-is (record {
            advances = advances_on (bare c.args.self.now.watched.entries.items) c.args.trail.now c.loop-n.trail w.imply.new.self inv.advances (g, w.imply.ensures.propagated);
            known = subst (λ (v : ℕ). All (All (λ (l : Lit). l.term.0 < v)) (clauses_of c.args.self.now.watched.entries.items)) (sym w.imply.ensures.vars) inv.known;
            hold = again_more c.args.self.now c.args.trail.now c.requires c.deref-n-items.result.now c.deref-n-items.ensures.value c.loop-n.n-index c.loop-n-test.true c.index.result.now c.index.ensures w.imply.new.self.literals (λ m i. holds_on (bare c.args.self.now.watched.entries.items) c.loop-n.trail w.imply.new.self g _ (inv.hold m i))
                (subst (λ (xs : List Lit). Contains xs c.index.result.now.first) (sym w.imply.ensures.literals) (Contains-push c.loop-n.trail.literals c.index.result.now.first));
          })
    ]

pub returns-clause-ends : goal.returns-clause-ends
returns-clause-ends c = again_all c.args.self.now c.args.trail.now c.requires c.deref-n-items.result.now c.deref-n-items.ensures.value c.loop-n.n-index c.loop-n-test.false c.loop-n.trail.literals c.loop-n.invariant.hold
