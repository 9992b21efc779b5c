use Rattle.std.proofs.Common.{◌≡◌, ◌≤◌, ◌-◌, ◌+◌, length, take, ap, sym, ◌∙◌, arith}
use Rattle.std.proofs.lemmas.List.{take-map, length-set, length-take-le, take-take}
use Rattle.std.proofs.Math.Seq.{take-length}
use Rattle.simplex_bounds.specs.declared.held.HeldBound.{HeldBound}
use Rattle.simplex_bounds.specs.Kept.{bounds_of}
use Rattle.simplex_bounds.proofs.Changes.{kept_back}
use Rattle.simplex_bounds.proofs.held.Bounds.back.Goals as goal

pub loop-self-preserved : goal.loop-self-preserved
loop-self-preserved c =
    let s = c.loop-self.self-inside in
    let i = c.loop-self.invariant in
    let e = c.index-entry.result.now in
    let n = c.len-last.result - 1 in
    let m : n + 1 ≡ length s.entries.items = omega (arith, s.entries.ok.0) in
    let low : c.args.len ≤ n = omega (arith, m, c.loop-self-test.true) in
    let left : length (take n s.entries.items) ≡ n = length-take-le n s.entries.items (omega (arith, m)) in
    record {
      kept = kept_back s.limits.items s.entries.items c.truncate.new.self.items e c.index.result.now c.with.result n i.kept m c.index-entry.ensures c.index.ensures c.with.ensures c.truncate.ensures.items;
      enough = rw c.truncate.ensures.items (rw left low);
      same = ap (take c.args.len) c.truncate.ensures.items ∙ take-take c.args.len n s.entries.items low ∙ i.same;
      variables = length-set s.limits.items e.bound.variable c.with.result ∙ i.variables;
      capacity = c.truncate.ensures.capacity ∙ i.capacity;
    }

pub returns-clause-held : goal.returns-clause-held
returns-clause-held c =
    let es = c.loop-self.self-inside.entries in
    let i = c.loop-self.invariant in
    let all : length es.items ≡ c.args.len = omega (arith, es.ok.0, i.enough, c.loop-self-test.false, c.len.ensures) in
    let kept : es.items ≡ take c.args.len c.self.inside.entries.items = sym (take-length es.items) ∙ ap (λ n. take n es.items) all ∙ i.same in
    rw (← c.self.view_is) (ap bounds_of kept ∙ sym (take-map (λ (e : HeldBound). e.bound) c.args.len c.self.inside.entries.items))
