-- That there is one verdict: one stack, or none, and one reading of the proof with one first fault.
use Rattle.std.proofs.Common.{◌≡◌, ℕ, List, length, Option, Some, inl, inr, sym, ◌∙◌, subst}
use Rattle.spec_text.specs.Trees.{Trees}
use Rattle.spec_text.specs.Readings.{is_long}
use Rattle.spec_commands.specs.Checks.{Check, term_limit, IsCurrent, HasNoCheck}
use Rattle.spec_checking.specs.Commands.{Known, known_at}
use Rattle.spec_proofs.specs.Faults.{Fault}
use Rattle.spec_proofs.specs.Texts.{Ending, IsProofText, ending_fault}
use Rattle.spec_checking.specs.Judging.{FirstFault}
use Rattle.spec_checking.specs.Accepted.{IsJudged, IsVerdict}
use Rattle.spec_checking.proofs.laws.verdict_is_one.Goals as goal

module _ (one_fault : (k : Known) (end : ℕ) (ending : Option Fault) (ts : Trees) (a b : Option Fault) → FirstFault (Some term_limit) k end ending ts a → FirstFault (Some term_limit) k end ending ts b → a ≡ b) (one_reading : (text : List ℕ) (ts us : Trees) (e f : Ending) → IsProofText text ts e → IsProofText text us f → (ts ≡ us) × (e ≡ f)) where
  judged_one : (s : Check) (proof : List ℕ) (a b : Option Fault) → IsJudged s proof a → IsJudged s proof b → a ≡ b
  judged_one s proof a b x y =
      let row = one_reading proof x.commands y.commands x.ending y.ending x.read y.read in
      let same = subst (λ e. FirstFault (Some term_limit) (known_at s) (length proof) (ending_fault (is_long proof) e) y.commands a) row.1 (subst (λ ts. FirstFault (Some term_limit) (known_at s) (length proof) (ending_fault (is_long proof) x.ending) ts a) row.0 x.fault) in
      one_fault (known_at s) (length proof) (ending_fault (is_long proof) y.ending) y.commands a b same y.fault

  verdict_one : (script proof : List ℕ) (k : ℕ) (a b : Option Fault) → ((s t : Check) → IsCurrent term_limit script k s → IsCurrent term_limit script k t → s ≡ t) → ((s : Check) → IsCurrent term_limit script k s → HasNoCheck term_limit script k → ⊥) → IsVerdict script k proof a → IsVerdict script k proof b → a ≡ b
  verdict_one script proof k a b same other (inl x) (inl y) = judged_one y.0 proof a b (subst (λ s. IsJudged s proof a) (same x.0 y.0 x.1 y.1) x.2) y.2
  verdict_one script proof k a b same other (inl x) (inr y) = absurd (other x.0 x.1 y.0)
  verdict_one script proof k a b same other (inr x) (inl y) = absurd (other y.0 y.1 x.0)
  verdict_one script proof k a b same other (inr x) (inr y) = x.1 ∙ sym y.1

pub returns : goal.returns
returns c = λ script proof k a b. verdict_one (c.first_fault_is_one.ensures (Some term_limit)) c.proofs_have_one_reading.ensures script proof k a b (c.texts_have_one_check_of_a_number.ensures.one term_limit script k) (c.texts_have_one_check_of_a_number.ensures.other term_limit script k)
