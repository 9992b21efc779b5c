-- That one literal more came up.
use Rattle.std.proofs.Common.{ℕ, [], ◌∷◌, ◌++◌, Bool, List, take, Contains, inl, inr, sym, subst, arith}
use Rattle.spec_sorts.specs.Literals.{Literal, literals_of}
use Rattle.term_core.specs.declared.ids.Lit.{Lit}
use Rattle.term_core.specs.Tables.{TableView, clause_at}
use Rattle.sat_trail.specs.Trails.{TrailView}
use Rattle.conflict_learn.specs.Analyses.{MarksVariables, IsBefore}
use Rattle.conflict_learn.proofs.Meanings.{literals_more, literal_in}
use Rattle.conflict_learn.proofs.meeting.meet_all.Goals as goal

-- what came up before does so after more marks
before_still : (v : TrailView) (t : TableView) (ls : List Literal) (old new : List Bool) → MarksVariables t ls old new → (k : ℕ) (m : Lit) → IsBefore v k old m → IsBefore v k new m
before_still v t ls old new h k m (inl was) = inl (h.kept m.term.0 was)
before_still v t ls old new h k m (inr q) = inr q

pub meet-requires-clause-known : goal.meet-requires-clause-known
meet-requires-clause-known c =
    let t = c.args.table.now in
    let there = literal_in t c.args.clause.now c.loop-id.id-index _ c.loop-id-test.true in
    let meant = subst (λ (x : Literal). Contains (literals_of (clause_at t c.args.clause.now)) x) (sym c.literal.ensures.means) there in
    c.requires.known c.literal.result c.literal.ensures.there meant

pub loop-id-preserved : goal.loop-id-preserved
loop-id-preserved c =
    let t = c.args.table.now in
    let ids = c.args.clause.now in
    let old = c.args.seen.now.marks.items in
    let new = c.meet.new.seen.marks.items in
    let there = literal_in t ids c.loop-id.id-index _ c.loop-id-test.true in
    let meant = subst (λ (x : Literal). Contains (literals_of (clause_at t ids)) x) (sym c.literal.ensures.means) there in
    let h = c.in_ok-meet.ensures.marks t _ old c.literal.ensures.there c.loop-id.invariant.marks in
    record {
      size = c.meet.ensures.size;
      bound = omega (arith, c.meet.ensures.bound, c.loop-id.invariant.bound);
      marks = subst (λ (ls : List Literal). MarksVariables t ls old new) (sym (literals_more t ids c.loop-id.id-index _ c.loop-id-test.true))
          (subst (λ (x : Literal). MarksVariables t (literals_of (clause_at t (take c.loop-id.id-index ids)) ++ x ∷ []) old new) c.literal.ensures.means h);
      sorts = λ k before s. c.in_ok-meet.ensures.sorts k
          (before_still c.args.trail.now t _ old c.loop-id.seen.marks.items c.loop-id.invariant.marks k c.literal.result (before c.literal.result c.literal.ensures.there meant))
          (c.loop-id.invariant.sorts k before s);
    }
