use Rattle.spec_tableaux.proofs.OrderedSpaces.{field_is_space, field_is_ordered, one_tells_apart}
use Rattle.spec_tableaux.proofs.laws.fields_are_ordered_spaces.Goals as goal

pub returns : goal.returns
returns c d = record { space = field_is_space; ordered = field_is_ordered; one = one_tells_apart }
