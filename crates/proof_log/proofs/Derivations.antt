-- Derivations: their prefixes.
use Rattle.std.proofs.Common.{◌∷◌, ◌++◌, ap, ◌∙◌, append_assoc}
use Rattle.spec_derivations.specs.Derivations.{Derivation, IsDerivation}

-- what comes first is right without what follows
pub front_right : (d e : Derivation) → IsDerivation (d ++ e) → IsDerivation d
front_right d e h before x after is = h before x (after ++ e) (ap (λ l. l ++ e) is ∙ append_assoc before (x ∷ after) e)
