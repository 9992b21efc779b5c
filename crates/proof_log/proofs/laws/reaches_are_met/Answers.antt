-- By induction over the log.
use Rattle.std.proofs.Common.{inl, inr, ◌⊎◌, ◌≡◌, suc, Contains, arith}
use Rattle.term_core.specs.declared.ids.TermId.{TermId}
use Rattle.proof_log.specs.declared.premises.StepId.{StepId}
use Rattle.proof_log.specs.Logs.{assumed, named, logged_at}
use Rattle.proof_log.specs.Reaches.{RestsOn, reach_at}
use Rattle.proof_log.proofs.Scopes.{terms_reached, assumes_reached}
use Rattle.proof_log.proofs.laws.reaches_are_met.Goals as goal

pub returns-clause-terms : goal.returns-clause-terms
returns-clause-terms c log s earlier lt =
    elim (terms_reached log earlier (suc s.0) s (omega arith) lt) as (λ _. ((reach_at log s).terms ≡ 0)
    ⊎ ((m : StepId) × ((id : TermId) × RestsOn log s m × Contains (named (logged_at log m)) id × (suc id.0 ≡ (reach_at log s).terms)))) [
      | inl none ↦ inl none
      | inr h ↦ inr (h.number, (h.term, h.rests, h.there, h.is))
    ]

pub returns-clause-assumes : goal.returns-clause-assumes
returns-clause-assumes c log s earlier lt =
    elim (assumes_reached log earlier (suc s.0) s (omega arith) lt) as (λ _. ((reach_at log s).assumes ≡ 0)
    ⊎ ((m : StepId) × ((id : TermId) × RestsOn log s m × (logged_at log m ≡ assumed id) × (suc m.0 ≡ (reach_at log s).assumes)))) [
      | inl none ↦ inl none
      | inr h ↦ inr (h.number, (h.term, h.rests, h.there, h.is))
    ]
