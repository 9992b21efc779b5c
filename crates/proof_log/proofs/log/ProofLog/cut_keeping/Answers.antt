-- What stays fits together, and says what it said.
use Rattle.std.proofs.Common.{◌≡◌, ◌≤◌, List, length, map, take, sym, ap, ◌∙◌, subst, arith, length-take}
use Rattle.std.proofs.lemmas.List.{length-map}
use Rattle.proof_log.specs.declared.reach.Reach.{Reach}
use Rattle.proof_log.specs.Logs.{Logged, AreStepsOf, IsLogOf}
use Rattle.proof_log.specs.Entries.{logged_of, log_of}
use Rattle.proof_log.specs.Reaches.{reach_view, reaches}
use Rattle.proof_log.specs.Keeping.{IsKeeping}
use Rattle.proof_log.proofs.Kept.{kept_size, reached_front}
use Rattle.proof_log.proofs.KeptSound.{first_front, right}
use Rattle.proof_log.proofs.Staying.{keeping_fewer}
use Rattle.proof_log.proofs.log.ProofLog.cut_keeping.Goals as goal

pub keep_derivations-requires-clause-from : goal.keep_derivations-requires-clause-from
keep_derivations-requires-clause-from c = omega (arith, c.min-from.ensures, c.len.ensures)

pub keep_derivations-requires-clause-size : goal.keep_derivations-requires-clause-size
keep_derivations-requires-clause-size c = c.self.invariant.marked ∙ length-map c.self.inside.entries.items logged_of

pub keep_derivations-requires-clause-names : goal.keep_derivations-requires-clause-names
keep_derivations-requires-clause-names c = subst (λ (log : List Logged). AreStepsOf log c.args.steps.now) (sym c.self.view_is) c.requires.names

pub reach_again-requires-clause-size : goal.reach_again-requires-clause-size
reach_again-requires-clause-size c =
    let inside = c.self.inside in
    omega (
      arith,
      ap length c.truncate.ensures.items,
      length-take c.len-2.result inside.reaches.items,
      c.len-2.ensures,
      c.keep_derivations.ensures.fewer,
      kept_size (log_of inside.entries.items) inside.reaches.items inside.marks.items c.self.invariant,
      length-map inside.entries.items logged_of,
    )

pub reach_again-requires-clause-earlier : goal.reach_again-requires-clause-earlier
reach_again-requires-clause-earlier c = c.keep_derivations.ensures.keeps.earlier

pub reach_again-requires-clause-first : goal.reach_again-requires-clause-first
reach_again-requires-clause-first c =
    let inside = c.self.inside in
    let old = log_of inside.entries.items in
    let new = log_of c.keep_derivations.new.entries.items in
    let n = c.min-from.result in
    let low : n ≤ length old = omega (arith, c.min-from.ensures, c.len.ensures, length-map inside.entries.items logged_of) in
    let same : take n new ≡ take n old = first_front old new n c.args.steps.now c.keep_derivations.new.names c.keep_derivations.ensures.keeps n (omega arith) low in
    let up : n ≤ c.len-2.result = omega (arith, ap length same, length-take n new, length-take n old, low, c.len-2.ensures, length-map c.keep_derivations.new.entries.items logged_of) in
    subst (λ (rs : List Reach). take n (map reach_view rs) ≡ take n (reaches new)) (sym c.truncate.ensures.items)
    (reached_front old new inside.reaches.items n c.len-2.result c.self.invariant.reached up same)

pub invariant_of-self : goal.invariant_of-self
invariant_of-self c = record {
  earlier = c.keep_derivations.ensures.keeps.earlier;
  reached = c.reach_again.ensures;
  marked = c.keep_derivations.ensures.size ∙ sym (length-map c.keep_derivations.new.entries.items logged_of);
}

pub returns-clause-keeps : goal.returns-clause-keeps
returns-clause-keeps c =
    let old = log_of c.self.inside.entries.items in
    subst (λ (log : List Logged). IsKeeping log c.args.len c.args.steps.now (log_of c.keep_derivations.new.entries.items) c.keep_derivations.new.names) c.self.view_is
    (keeping_fewer old c.args.len c.min-from.result c.args.steps.now (log_of c.keep_derivations.new.entries.items) c.keep_derivations.new.names (omega (arith, c.min-from.ensures))
    (λ s lt below. omega (arith, lt, below, c.min-from.ensures, c.len.ensures, length-map c.self.inside.entries.items logged_of)) c.keep_derivations.ensures.keeps)

pub returns-clause-right : goal.returns-clause-right
returns-clause-right c t h =
    let old = log_of c.self.inside.entries.items in
    right old (log_of c.keep_derivations.new.entries.items) c.min-from.result c.args.steps.now c.keep_derivations.new.names c.keep_derivations.ensures.keeps t
    (subst (λ (log : List Logged). IsLogOf t log) (sym c.self.view_is) h)
