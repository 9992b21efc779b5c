-- What a proof unfolds to compute model files that are written out.
use Rattle.std.specs.Prelude.{⊤}
use Rattle.spec_numbers.specs.Fractions.{plus, opposite, times, inverse, compare}
use Rattle.spec_numbers.specs.Bounds.{is_small, fits, sum_fits, added, subtracted, multiplied, divided}
use Rattle.spec_sorts.specs.BoundedValues.{folded, bounded_value}
use Rattle.spec_commands.specs.OnLiterals.{commands_on_literals}
use Rattle.spec_models.specs.Values.{numeral}
use Rattle.spec_model_files.specs.Faults.{require, found_or}
use Rattle.spec_model_files.specs.Values.{sort_read, divisor_read, number_read, element_read, written_in, value_read}
use Rattle.spec_model_files.specs.Bodies.{equality_read, equalities_read, condition_read, body_read}
use Rattle.spec_model_files.specs.Definitions.{defined_name, parameter_read, parameters_read, parameter_list_read}
use Rattle.spec_model_files.specs.Definitions.{definition_read, definitions_read}
use Rattle.spec_model_files.specs.Verdicts.{read_to_end, first_untrue}

-- what a model file is read as, and the verdict by it
unfoldable pub models_on_literals : ⊤
unfolding commands_on_literals plus opposite times inverse compare is_small fits sum_fits added subtracted multiplied
    divided folded bounded_value numeral require found_or sort_read divisor_read number_read element_read written_in
    value_read equality_read equalities_read condition_read body_read defined_name parameter_read parameters_read
    parameter_list_read definition_read definitions_read read_to_end first_untrue
models_on_literals = tt
