-- That what is taken off waits.
use Rattle.std.proofs.Common.{◌≡◌, ◌∙◌, ◌+◌, ◌-◌, ◌<◌, length, get_or, take, List, Bool, true, ℕ, subst, sym, ap, arith}
use Rattle.std.proofs.lemmas.List.{length-set}
use Rattle.std.proofs.lemmas.List.Elements.{Contains-get_or}
use Rattle.sat_trail.specs.Trails.{no_lit}
use Rattle.search_loop.specs.Waiting.{AreWaiting}
use Rattle.search_loop.proofs.SearchWaiting.{waiting_back}
use Rattle.search_loop.proofs.waiting.put_all_back.Goals as goal

pub literals-preserved : goal.literals-preserved
literals-preserved c =
    let held = c.args.trail.now.literals in
    let i = c.literals.invariant in
    let k = c.literals.place - 1 in
    let l = c.literal-l.result in
    let is = c.literal-l.ensures in
    let lt : k < length held = omega (arith, c.literals-test.true, i.within) in
    let next : c.literals.place ≡ k + 1 = omega (arith, c.literals-test.true) in
    let below : l.term.0 < length c.literals.order = rw is (omega (arith, c.is_sound.ensures.known k no_lit lt, i.size, c.requires.vars)) in
    record {
      phases = length-set c.literals.phases.items l.term.0 l.positive ∙ i.phases;
      size = ap length c.insert.ensures ∙ length-set c.literals.order l.term.0 true ∙ i.size;
      within = omega (arith, i.within);
      waiting = λ atoms of_atoms h. subst (λ (ws : List Bool). AreWaiting atoms (take k held) ws) (sym c.insert.ensures)
          (waiting_back atoms held k l c.literals.order lt is below (rw is (of_atoms (get_or held k no_lit) (Contains-get_or held k no_lit lt)))
          (subst (λ (n : ℕ). AreWaiting atoms (take n held) c.literals.order) next (i.waiting atoms of_atoms h)));
    }

pub returns : goal.returns
returns c =
    let held = c.args.trail.now.literals in
    let none : c.literals.place ≡ 0 = omega (arith, c.literals-test.false) in
    record {
      phases = c.literals.invariant.phases;
      size = c.literals.invariant.size;
      waiting = λ atoms of_atoms h. subst (λ (n : ℕ). AreWaiting atoms (take n held) c.literals.order) none (c.literals.invariant.waiting atoms of_atoms h);
    }
