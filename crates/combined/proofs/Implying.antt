-- What two theories imply, the second where the first gives no step, is what both do as one.
use Rattle.std.proofs.Common.{◌≡◌, ◌∙◌, subst}
use Rattle.std.specs.Prelude.{Result, Ok, Err, Vec}
use Rattle.std.specs.declared.alloc.Global.{Global}
use Rattle.no_memory.specs.declared.NoMemory.{NoMemory}
use Rattle.term_core.proofs.TermsExtend.{Extends-trans}
use Rattle.proof_log.specs.declared.premises.StepId.{StepId}
use Rattle.proof_log.specs.Theories.{TheoryView, Derived, IsTheoryOver, DerivesLemmas, terms_watched}
use Rattle.proof_log.specs.Meanings.{Meaning, IsLawful, AddsLemmas, Implies}
use Rattle.proof_log.proofs.Composed.{watched_lemmas_after}
use Rattle.combined.specs.Views.{both}

-- it holds and watches the same, whatever comes of it
pub same_view : (old new : Meaning) (before after : Derived) (result : Result (Vec StepId Global) NoMemory) → Implies old new before after result → new.view ≡ old.view
same_view old new before after (Ok steps) h = h.0.same
same_view old new before after (Err no_memory) h = h.0

-- the first adds lemmas
module _ (c d s : Meaning) (a b : Derived) (lawful : IsLawful s) (with : s.goes_with a.table) (first : AddsLemmas c d a b) where
  -- so do both
  pub first_adds : AddsLemmas (both c s) (both d s) a b
  first_adds = record {
    with = (first.with, lawful.grown a.table b.table first.derives.table with);
    same = first.same;
    derives = first.derives;
    came = lawful.came_grown a.table b.table first.derives.table with;
    agrees = λ ts ls h. (first.agrees ts ls h.0, h.1);
  }

  -- and where the second is asked over these
  pub second_implies : (r : Meaning) (e : Derived) → IsLawful d → IsTheoryOver a.table c.view → s.view ≡ c.view → (result : Result (Vec StepId Global) NoMemory)
      → Implies s r b e result → Implies (both c s) (both d r) a e result
  second_implies r e lawful_first over view (Ok steps) h = (
    record {
      with = (lawful_first.grown b.table e.table h.0.derives.table first.with, h.0.with);
      same = first.same;
      derives = watched_lemmas_after c.view a b e over first.derives (subst (λ (v : TheoryView). DerivesLemmas (terms_watched b.table v) b e) view h.0.derives);
      came = λ ts n es came. h.0.came ts n es (lawful.came_grown a.table b.table first.derives.table with ts n es came);
      agrees = λ ts ls g. (first.agrees ts ls g.0, h.0.agrees ts ls g.1);
    },
    h.1,
  )
  second_implies r e lawful_first over view (Err no_memory) h =
      (first.same, Extends-trans a.table b.table e.table first.derives.table h.1, h.2 ∙ first.derives.declared)
