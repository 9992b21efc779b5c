-- What a proof unfolds to compute scripts that are written out.
use Rattle.std.specs.Prelude.{⊤}
use Rattle.spec_reading.specs.OnLiterals.{reading_on_literals}
use Rattle.spec_commands.specs.Commands.{first_name, set_logic, set_option, set_info, declare_sort, define_sort}
use Rattle.spec_commands.specs.Commands.{declare_const, declare_fun, define_fun, assertion, levels_in}
use Rattle.spec_commands.specs.Commands.{push, pop, check_assuming, echo, command_of}
use Rattle.spec_commands.specs.Stack.{literals_in, step}
use Rattle.spec_commands.specs.Checks.{current_at}

-- what commands leave, and what is current at a check
unfoldable pub commands_on_literals : ⊤
unfolding reading_on_literals first_name set_logic set_option set_info declare_sort define_sort declare_const
    declare_fun define_fun assertion levels_in push pop check_assuming echo command_of literals_in step
    current_at
commands_on_literals = tt
