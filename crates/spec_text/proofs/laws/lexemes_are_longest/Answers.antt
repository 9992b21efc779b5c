-- What bytes begin with is spelled as the table says, and no longer prefix is.
use Rattle.spec_text.proofs.Longest.{first_is_longest}
use Rattle.spec_text.proofs.laws.lexemes_are_longest.Goals as goal

pub returns : goal.returns
returns c b bs = first_is_longest b bs
