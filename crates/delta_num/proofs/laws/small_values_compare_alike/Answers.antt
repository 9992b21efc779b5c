use Rattle.delta_num.proofs.Values.{values_compare, one_base}
use Rattle.delta_num.proofs.SmallValues.{all_agree}
use Rattle.delta_num.proofs.laws.small_values_compare_alike.Goals as goal

pub returns : goal.returns
returns c = record { exactly = values_compare; one_base = one_base; up_to_some = all_agree }
