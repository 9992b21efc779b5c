-- The rows are what the oldest merges make of the first terms.
use Rattle.std.proofs.Common.{arith, ◌≡◌, ◌∙◌, ◌≤◌, List, length, take, refl, sym, ap, subst}
use Rattle.class_table.specs.declared.rings.Merge.{Merge}
use Rattle.class_table.specs.Rings.{RingsView, alone, after_all, AreJoins}
use Rattle.class_table.proofs.Kept.{kept_cut}
use Rattle.class_table.proofs.rings.Rings.back.Goals as goal

pub invariant_of-self : goal.invariant_of-self
invariant_of-self c =
    let r = c.self-2.inside in
    let mark = c.args.mark in
    let all : c.len.result ≡ length c.merges.self.merges = omega (arith, c.len.ensures, ap (λ (v : RingsView). length v.merges) c.self.view_is, c.self.inside.merges.ok.0) in
    let count : length c.merges.self.merges ≡ mark.merges = omega (arith, all, c.merges.invariant.enough, c.merges-test.false) in
    let merges : r.merges.items ≡ take mark.merges c.args.self.now.merges =
    ap (λ (v : RingsView). v.merges) c.self-2.view_is ∙ c.merges.invariant.merges ∙ ap (λ k. take k c.args.self.now.merges) count in
    let few : mark.terms ≤ length r.numbers.items = omega (arith, ap (λ (v : RingsView). length v.numbers) c.self-2.view_is, c.merges.invariant.terms, c.requires.terms) in
    let joins = subst (λ (ms : List Merge). AreJoins (alone mark.terms) ms) (sym merges) c.requires.joins in
    (kept_cut r c.self-2.invariant (record { numbers = c.truncate.new.self; next = c.truncate-2.new.self; sizes = c.truncate-3.new.self; merges = r.merges }) mark.terms few joins
    c.truncate.ensures.items c.truncate-2.ensures.items c.truncate-3.ensures.items refl refl).2

pub returns-clause-numbers : goal.returns-clause-numbers
returns-clause-numbers c =
    let r = c.self-2.inside in
    let mark = c.args.mark in
    let all : c.len.result ≡ length c.merges.self.merges = omega (arith, c.len.ensures, ap (λ (v : RingsView). length v.merges) c.self.view_is, c.self.inside.merges.ok.0) in
    let count : length c.merges.self.merges ≡ mark.merges = omega (arith, all, c.merges.invariant.enough, c.merges-test.false) in
    let merges : r.merges.items ≡ take mark.merges c.args.self.now.merges =
    ap (λ (v : RingsView). v.merges) c.self-2.view_is ∙ c.merges.invariant.merges ∙ ap (λ k. take k c.args.self.now.merges) count in
    let few : mark.terms ≤ length r.numbers.items = omega (arith, ap (λ (v : RingsView). length v.numbers) c.self-2.view_is, c.merges.invariant.terms, c.requires.terms) in
    let joins = subst (λ (ms : List Merge). AreJoins (alone mark.terms) ms) (sym merges) c.requires.joins in
    (kept_cut r c.self-2.invariant (record { numbers = c.truncate.new.self; next = c.truncate-2.new.self; sizes = c.truncate-3.new.self; merges = r.merges }) mark.terms few joins
    c.truncate.ensures.items c.truncate-2.ensures.items c.truncate-3.ensures.items refl refl).0
    ∙ ap (λ ms. (after_all (alone mark.terms) ms).numbers) merges
