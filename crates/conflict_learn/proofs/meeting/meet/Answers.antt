-- That the variable is marked, and the literal sorted.
use Rattle.std.proofs.Common.{◌≡◌, ◌≢◌, ◌<◌, ℕ, Bool, true, false, List, length, set, get_or, inl, inr, refl, sym, ap, ◌∙◌, subst, arith, true≢false}
use Rattle.std.proofs.lemmas.List.{get_or_default}
use Rattle.term_core.specs.declared.ids.Lit.{Lit}
use Rattle.clause_literals.specs.Literals.{lit_complement}
use Rattle.sat_trail.specs.Trails.{TrailView, no_lit}
use Rattle.conflict_learn.specs.Analyses.{IsVariableMarked, Sorting, Sorts, sorting_of}
use Rattle.conflict_learn.proofs.Marking.{marks_more, marks_again}
use Rattle.conflict_learn.proofs.Sorting.{sorts_level, sorts_fixed, sorts_lower}
use Rattle.conflict_learn.proofs.meeting.meet.Goals as goal

-- a mark that is there
is_there : (marks : List Bool) (x : ℕ) (b : Bool) → x < length marks → b ≡ get_or marks x b → b ≡ true → IsVariableMarked marks x
is_there marks x b lt is e = get_or_default marks x false b lt ∙ sym is ∙ e

-- and one that is not
is_not_there : (marks : List Bool) (x : ℕ) (b : Bool) → x < length marks → b ≡ get_or marks x b → b ≢ true → IsVariableMarked marks x → ⊥
is_not_there marks x b lt is other m = other (is ∙ sym (get_or_default marks x false b lt) ∙ m)

-- the level of the place
of_place : (v : TrailView) (m : Lit) (q n : ℕ) → q < length v.literals → get_or v.literals q no_lit ≡ lit_complement m → ((p : ℕ) → p < length v.literals → (get_or v.literals p no_lit).term ≡ m.term → n ≡ get_or v.levels p 0) → n ≡ get_or v.levels q 0
of_place v m q n lt e by = by q lt (ap (λ (l : Lit). l.term) e)

pub returns-then-index-clause-marks : goal.returns-then-index-clause-marks
returns-then-index-clause-marks c t ls first there h =
    let lt : c.args.m.term.0 < length c.args.seen.now.marks.items = omega (arith, c.requires.known, c.requires.size) in
    marks_again t ls first c.args.seen.now.marks.items c.args.m there (is_there c.args.seen.now.marks.items c.args.m.term.0 c.index.result.now lt c.index.ensures c.if-index.true) h

pub returns-then-own-level-clause-marks : goal.returns-then-own-level-clause-marks
returns-then-own-level-clause-marks c t ls first there h =
    marks_more t ls first c.args.seen.now.marks.items c.args.m there (omega (arith, c.requires.known, c.requires.size)) h

pub returns-then-own-eq0-clause-marks : goal.returns-then-own-eq0-clause-marks
returns-then-own-eq0-clause-marks c t ls first there h =
    marks_more t ls first c.args.seen.now.marks.items c.args.m there (omega (arith, c.requires.known, c.requires.size)) h

pub returns-then-own-seen-clause-marks : goal.returns-then-own-seen-clause-marks
returns-then-own-seen-clause-marks c t ls first there h =
    marks_more t ls first c.args.seen.now.marks.items c.args.m there (omega (arith, c.requires.known, c.requires.size)) h

pub returns-clause-marks : goal.returns-clause-marks
returns-clause-marks c t ls first there h =
    marks_more t ls first c.args.seen.now.marks.items c.args.m there (omega (arith, c.requires.known, c.requires.size)) h

pub returns-then-own-level-clause-sorts : goal.returns-then-own-level-clause-sorts
returns-then-own-level-clause-sorts c k before s =
    let v = c.args.trail.now in
    let m = c.args.m in
    let lt : m.term.0 < length c.args.seen.now.marks.items = omega (arith, c.requires.known, c.requires.size) in
    let new = is_not_there c.args.seen.now.marks.items m.term.0 c.index.result.now lt c.index.ensures (λ e. true≢false (sym e ∙ c.if-index.false)) in
    elim before [
      | inl was ↦ absurd (new was)
      | inr q ↦
          let own = of_place v m q.0 c.level_by-own.result (omega (arith, q.1, s.within)) q.2 c.level_by-own.ensures in
          sorts_level v c.args.level c.is_sound.ensures.once k (sorting_of c.args.seen.now) s m q.0 q.1 q.2 lt new (sym own ∙ c.if-own-level.true)
    ]

pub returns-then-own-eq0-clause-sorts : goal.returns-then-own-eq0-clause-sorts
returns-then-own-eq0-clause-sorts c k before s =
    let v = c.args.trail.now in
    let m = c.args.m in
    let lt : m.term.0 < length c.args.seen.now.marks.items = omega (arith, c.requires.known, c.requires.size) in
    let new = is_not_there c.args.seen.now.marks.items m.term.0 c.index.result.now lt c.index.ensures (λ e. true≢false (sym e ∙ c.if-index.false)) in
    elim before [
      | inl was ↦ absurd (new was)
      | inr q ↦
          let own = of_place v m q.0 c.level_by-own.result (omega (arith, q.1, s.within)) q.2 c.level_by-own.ensures in
          sorts_fixed v c.args.level c.is_sound.ensures.once k (sorting_of c.args.seen.now) s m q.0 q.1 q.2 lt new (λ e. c.if-own-level.false (own ∙ e)) (sym own ∙ c.if-own-eq0.true)
    ]

pub returns-then-own-seen-clause-sorts : goal.returns-then-own-seen-clause-sorts
returns-then-own-seen-clause-sorts c k before s =
    let v = c.args.trail.now in
    let m = c.args.m in
    let a = sorting_of c.args.seen.now in
    let lt : m.term.0 < length c.args.seen.now.marks.items = omega (arith, c.requires.known, c.requires.size) in
    let new = is_not_there c.args.seen.now.marks.items m.term.0 c.index.result.now lt c.index.ensures (λ e. true≢false (sym e ∙ c.if-index.false)) in
    elim before [
      | inl was ↦ absurd (new was)
      | inr q ↦
          let own = of_place v m q.0 c.level_by-own.result (omega (arith, q.1, s.within)) q.2 c.level_by-own.ensures in
          let up : 0 < get_or v.levels q.0 0 = omega (arith, own, c.if-own-eq0.false) in
          let h = sorts_lower v c.args.level c.is_sound.ensures.once k a s m q.0 q.1 q.2 lt new (λ e. c.if-own-level.false (own ∙ e)) up a.back (omega arith) (omega (arith, own, c.if-own-seen.true)) (inl refl) in
          subst (λ (ls : List Lit). let b : Sorting = record { marks = set a.marks m.term.0 true; many = a.many; lower = ls; back = a.back; fixed = a.fixed } in Sorts v c.args.level k b) (sym c.in_ok-push.ensures.items) h
    ]

pub returns-clause-sorts : goal.returns-clause-sorts
returns-clause-sorts c k before s =
    let v = c.args.trail.now in
    let m = c.args.m in
    let a = sorting_of c.args.seen.now in
    let lt : m.term.0 < length c.args.seen.now.marks.items = omega (arith, c.requires.known, c.requires.size) in
    let new = is_not_there c.args.seen.now.marks.items m.term.0 c.index.result.now lt c.index.ensures (λ e. true≢false (sym e ∙ c.if-index.false)) in
    elim before [
      | inl was ↦ absurd (new was)
      | inr q ↦
          let own = of_place v m q.0 c.level_by-own.result (omega (arith, q.1, s.within)) q.2 c.level_by-own.ensures in
          let up : 0 < get_or v.levels q.0 0 = omega (arith, own, c.if-own-eq0.false) in
          let h = sorts_lower v c.args.level c.is_sound.ensures.once k a s m q.0 q.1 q.2 lt new (λ e. c.if-own-level.false (own ∙ e)) up c.level_by-own.result (omega (arith, c.if-own-seen.false)) (omega (arith, own)) (inr own) in
          subst (λ (ls : List Lit). let b : Sorting = record { marks = set a.marks m.term.0 true; many = a.many; lower = ls; back = c.level_by-own.result; fixed = a.fixed } in Sorts v c.args.level k b) (sym c.in_ok-push.ensures.items) h
    ]
