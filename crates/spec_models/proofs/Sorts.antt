-- Sorts of a signature are written and read back.
use Rattle.std.proofs.Common.{◌≡◌, subst}
use Rattle.spec_text.specs.Bytes.{Name}
use Rattle.spec_sorts.specs.Terms.{Sort, Declared}
use Rattle.spec_sorts.specs.Signatures.{Signature}
use Rattle.spec_models.specs.Values.{IsName}
use Rattle.spec_models.specs.Meaning.{IsSortIn}

-- a declared sort has a name
pub sort_named_well : (g : Signature) (s : Sort) → IsSortIn g s → (n : Name) → s ≡ Declared n → IsName n
sort_named_well g s h n e = (subst (IsSortIn g) e h).name
