-- By the levels of the greatest.
use Rattle.proof_log.proofs.Leveled.{scope_is, scope_within, within_scope}
use Rattle.proof_log.proofs.laws.reaches_give_scopes.Goals as goal

pub returns-clause-scope : goal.returns-clause-scope
returns-clause-scope c ls log s earlier lt = scope_is ls log s earlier lt

pub returns-clause-within : goal.returns-clause-within
returns-clause-within c ls k r terms steps lt = (λ le. scope_within ls k r lt terms steps le, λ h. within_scope ls k r lt h)
