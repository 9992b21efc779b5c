-- What a closure implies, as a theory.
use Rattle.std.proofs.Common.{◌≡◌, true, sym, ap, subst, ◌∙◌}
use Rattle.std.specs.Prelude.{Result, Ok, Err, Vec, IfOk}
use Rattle.std.specs.declared.alloc.Global.{Global}
use Rattle.no_memory.specs.declared.NoMemory.{NoMemory}
use Rattle.spec_equality.specs.Congruence.{IsFine, IsRefuted}
use Rattle.proof_log.specs.declared.premises.StepId.{StepId}
use Rattle.proof_log.specs.Logs.{AreStepsOf}
use Rattle.proof_log.specs.Meanings.{Meaning, no_runs, AddsLemmas, Implies}
use Rattle.proof_log.specs.Theories.{Derived, terms_watched, DerivesLemmas}
use Rattle.congruence_relation.specs.Relation.{AreFactsOf}
use Rattle.congruence_relation.proofs.Kept.{of_more}
use Rattle.congruence_closure.specs.Closure.{ClosureState, ClosureView}
use Rattle.congruence.specs.Views.{theory_of}
use Rattle.congruence.proofs.Views.{same_view}

-- what a closure means
abbrev pub meaning_of : ClosureView → Meaning
meaning_of v = record {
  view = theory_of v;
  goes_with = λ t. AreFactsOf t v.now.facts;
  agrees = λ ts ls. IsFine ts ls × (v.now.saturated ≡ true);
  refuses = IsRefuted;
  running = no_runs;
}

-- Lemmas came, and what it is about is as it was.
module _ (v w : ClosureView) (now : w.now ≡ v.now) (marks : w.marks ≡ v.marks) (a b : Derived) (derives : DerivesLemmas (terms_watched a.table (theory_of v)) a b) (with : AreFactsOf a.table v.now.facts) where
  -- it holds and watches the same
  same : theory_of w ≡ theory_of v
  same = same_view v w (ap (λ (s : ClosureState). s.facts) now) marks

  -- the lemmas are its
  adds : AddsLemmas (meaning_of v) (meaning_of w) a b
  adds = record {
    with = subst (λ (s : ClosureState). AreFactsOf b.table s.facts) (sym now) (of_more a.table b.table derives.table v.now.facts with);
    same = same;
    derives = derives;
    came = λ ts n es came. came;
    agrees = λ ts ls fine. (fine.0, ap (λ (s : ClosureState). s.saturated) now ∙ fine.1);
  }

  -- where memory ran out, some of them may have come
  pub implies_lemmas : (r : Result (Vec StepId Global) NoMemory) → IfOk r (λ steps. AreStepsOf b.log steps.items) → Implies (meaning_of v) (meaning_of w) a b r
  implies_lemmas (Ok steps) there = (adds, there)
  implies_lemmas (Err e) there = (same, derives.table, derives.declared)
