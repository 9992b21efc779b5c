-- The laws, each by its lemma.
use Rattle.std.proofs.Common.{arith, length, refl, sym, ap, ◌∙◌}
use Rattle.clause_store.proofs.Reasons.{implied_decided, implied_more, implied_cut, implied_same, implied_with}
use Rattle.clause_store.proofs.laws.reasons_stay_right.Goals as goal

pub returns-clause-begun : goal.returns-clause-begun
returns-clause-begun c s = record { paired = refl; implied = λ k r lt e. absurd (omega (arith, lt)) }

pub returns-clause-cleared : goal.returns-clause-cleared
returns-clause-cleared c s t e f = record { paired = ap length f ∙ sym (ap length e); implied = λ k r lt i. absurd (omega (arith, lt, ap length e)) }

pub returns-clause-decided : goal.returns-clause-decided
returns-clause-decided c s t u l n h p = implied_decided s t u h l n p

pub returns-clause-propagated : goal.returns-clause-propagated
returns-clause-propagated c s t u h a = implied_more s t u h a

pub returns-clause-cut : goal.returns-clause-cut
returns-clause-cut c s t u n h k = implied_cut s t u h n k

pub returns-clause-grown : goal.returns-clause-grown
returns-clause-grown c s t u h e = implied_same s t u h e

pub returns-clause-added : goal.returns-clause-added
returns-clause-added c = implied_with
