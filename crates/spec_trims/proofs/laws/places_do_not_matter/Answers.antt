-- By what each command is without them.
use Rattle.std.proofs.Common.{refl}
use Rattle.spec_trims.proofs.FlatCommands.{good_alike}
use Rattle.spec_trims.proofs.laws.places_do_not_matter.Goals as goal

pub returns : goal.returns
returns c = λ limit k ts us same g. good_alike limit k k ts us g.commands refl same g.read g.right g.empty
