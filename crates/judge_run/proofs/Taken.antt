-- How much of a text was taken.
use Rattle.std.proofs.Common.{◌+◌, ℕ, List, Option, Some, None, arith}
use Rattle.std.proofs.lemmas.Bool.{false≢true}
use Rattle.std.specs.Prelude.{Result, Ok, Err, IfOk, IsOk}
use Rattle.world_io.specs.Ends.{HasTakenPrefix}
use Rattle.spec_text.specs.Readings.{text_limit}
use Rattle.script_run.specs.Scripts.{TakesText}

taken_of : (bytes : List ℕ) (old new : Option (List ℕ)) → HasTakenPrefix (text_limit + 1) bytes old new → TakesText old new
taken_of bytes None new taken = tt
taken_of bytes (Some o) None taken = absurd taken.1
taken_of bytes (Some o) (Some n) taken = (taken.0, taken.1, omega (arith, taken.3))

-- what was read of a text was taken, and no more than one read of what follows
pub text_taken : {E : Type 0} (r : Result (List ℕ) E) (old new : Option (List ℕ)) → IfOk r (λ bytes. HasTakenPrefix (text_limit + 1) bytes old new) → IsOk r → TakesText old new
text_taken (Ok bytes) old new taken ok = taken_of bytes old new taken
text_taken (Err e) old new taken ok = absurd (false≢true ok)
