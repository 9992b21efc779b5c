-- What was found at the last check.
use Rattle.std.proofs.Common.{◌≡◌, ℕ, true, false, List, Option, Some, None, refl, ap, ◌∙◌, subst}
use Rattle.spec_text.specs.declared.Fault.TheVariants.{WrongMode}
use Rattle.spec_text.specs.Answers.{Answer, refused, ◌>>=◌}
use Rattle.spec_sorts.specs.Values.{Interpretation}
use Rattle.spec_sorts.specs.Signatures.{is_some}
use Rattle.spec_sessions.specs.Evidence.{Found, model, proof, spent, overflowed, Checked}
use Rattle.spec_sessions.specs.Replies.{model_found, proof_found, held, in_mode}
use Rattle.spec_proof_texts.specs.Lines.{proof_text}
use Rattle.spec_proof_texts.specs.Plans.{Plan, lines_of}
use Rattle.term_core.specs.Tables.{TableView}
use Rattle.proof_log.specs.Logs.{Logged, derivation_in}
use Rattle.sat_budget.specs.Budgets.{BudgetView}
use Rattle.check_evidence.specs.declared.evidence.Evidence.TheVariants as evidence
use Rattle.check_evidence.specs.Evidence.{AssumesPlanned}
use Rattle.smt_reply.specs.Replies.{IsLastAnswer, found_in}
use Rattle.smt_reply.specs.Cores.{planned, planned_terms, FindsProof}

-- what was found, by what is asked for of it
pub model_is : (f : Found) (i : Interpretation) → model_found f ≡ Some i → f ≡ model i
model_is (model j) i e = let same : j ≡ i = cc in ap model same
model_is (proof text) i e = absurd cc
model_is (spent n d learned) i e = absurd cc
model_is (overflowed o k) i e = absurd cc

pub proof_is : (f : Found) (text : List ℕ) → proof_found f ≡ Some text → f ≡ proof text
proof_is (model j) text e = absurd cc
proof_is (proof other) text e = let same : other ≡ text = cc in ap proof same
proof_is (spent n d learned) text e = absurd cc
proof_is (overflowed o k) text e = absurd cc

-- what there is in a mode, or the fault
module _ {A B : Type 0} (at : ℕ) (of : Found → Option A) (last : Option Checked) (then : A → Answer B) where
  pub held_there : in_mode at of last ≡ held at (found_in of last)
  held_there = go last
    where
      go : (l : Option Checked) → in_mode at of l ≡ held at (found_in of l)
      go None = refl
      go (Some c) = refl

  pub none_there : found_in of last ≡ None → (in_mode at of last >>= then) ≡ refused at WrongMode
  unfolding ◌>>=◌
  none_there e = ap (λ a. a >>= then) (held_there ∙ ap (held at) e)

  pub some_there : (a : A) → found_in of last ≡ Some a → (in_mode at of last >>= then) ≡ then a
  unfolding ◌>>=◌
  some_there a e = ap (λ b. b >>= then) (held_there ∙ ap (held at) e)

-- by a test
pub is_none : {A : Type 0} (o : Option A) → is_some o ≡ false → o ≡ None
is_none None e = refl
is_none (Some a) e = absurd cc

pub is_one : {A : Type 0} (o : Option A) → is_some o ≡ true → (a : A) × (o ≡ Some a)
is_one None e = absurd cc
is_one (Some a) e = (a, refl)

-- a proof that is kept is that of the last check, and assumes what is planned
pub proof_kept : (t : TableView) (budget : BudgetView) (log : List Logged) (plan : Plan) (last : Option Checked) → IsLastAnswer t budget (Some (evidence.Proof log plan)) last → FindsProof last (planned_terms t (planned log plan))
proof_kept t budget log plan last h =
    let text : List ℕ = proof_text (lines_of t.terms (derivation_in t log) plan) in
    let is : h.0.found ≡ proof text = h.2.2 in
    record {
      check = h.0.check;
      text = text;
      is = h.1 ∙ ap (λ f. Some (record { check = h.0.check; found = f })) is;
      assumes = subst (AssumesPlanned t h.0.check (evidence.Proof log plan)) is h.3;
    }
