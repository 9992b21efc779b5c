-- The check is the same, over a table that grew, or was cut back.
use Rattle.std.proofs.Common.{sym, ap, ◌∙◌, subst}
use Rattle.term_core.specs.Tables.{clause_at}
use Rattle.proof_log.specs.Logs.{AreFormulasIn}
use Rattle.assertion_stack.specs.Stacks.{over_table}
use Rattle.assertion_stack.proofs.Back.{table_back}
use Rattle.search_loop.specs.Answered.{AreAnswered}
use Rattle.solve_core.specs.Decisions.{HasDecision}
use Rattle.check_evidence.specs.Evidence.{limits_meant, IsHeld}
use Rattle.check_evidence.proofs.Asking.{readable_here, held_kept, roots_are, roots_formulas, roots_answered}
use Rattle.check_evidence.proofs.evidence.check.Goals as goal

pub decide-requires-clause-roots : goal.decide-requires-clause-roots
decide-requires-clause-roots c =
    let t = c.args.table.now in
    subst (AreFormulasIn t) (sym (c.deref.ensures.value ∙ c.in_ok-roots.ensures))
    (roots_formulas c.args.limits.now.terms t c.args.stack.now c.args.assumed.now c.requires.held.0 c.requires.held.1)

pub decide-requires-clause-answered : goal.decide-requires-clause-answered
decide-requires-clause-answered c =
    let t = c.args.table.now in
    subst (λ ids. AreAnswered (clause_at t ids)) (sym (c.deref.ensures.value ∙ c.in_ok-roots.ensures))
    (roots_answered c.args.limits.now.terms t c.args.stack.now c.args.assumed.now c.requires.held.0 c.requires.held.1 c.read_numbers_are_decimals.ensures)

pub returns-in-Ok-clause-checks : goal.returns-in-Ok-clause-checks
returns-in-Ok-clause-checks c = λ k h.
    let t = c.args.table.now in
    let l = c.args.limits.now in
    let d = c.in_ok-outcome.ensures in
    let terms = ap (clause_at t) (c.deref.ensures.value ∙ c.in_ok-roots.ensures) ∙ (roots_are l.terms t c.args.stack.now c.args.assumed.now k h).terms in
    let decided = subst (λ us. HasDecision c.decide.new.table us l c.in_ok-outcome.outcome) terms d.decided in
    let kept = held_kept l.terms t c.args.stack.now c.args.assumed.now k h in
    let s = h.held.stack in
    record {
      outcome = c.in_ok-outcome.outcome;
      decided = decided;
      budget_is = rw c.in-Ok.learned-is c.in-Ok.ensures.budget;
      shown = rw c.in-Ok.evidence-is (c.in-Ok.ensures.shown (limits_meant l) k kept (readable_here k.stack h.held.readable) (sym s.states.symbols ∙ sym (ap (λ v. v.symbols) d.declared)) decided);
      held = record {
        stack = c.stacks_hold_in_grown_tables.ensures l.terms t c.decide.new.table c.args.stack.now k.stack s (record { extends = d.grown; declared = d.declared });
        sound = h.held.sound;
        names = h.held.names;
        readable = h.held.readable;
      };
    }

pub returns-clause-checks : goal.returns-clause-checks
returns-clause-checks c = λ k h.
    let d = c.in_ok-outcome.ensures in
    let back = table_back c.args.table.now c.decide.new.table c.cut.new.self c.len-len.result (record { extends = d.grown; declared = d.declared }) c.len-len.ensures c.cut.ensures.terms c.cut.ensures.declared in
    subst (λ t. IsHeld c.args.limits.now.terms (over_table t c.args.stack.now) k.stack) (sym back) h.held
