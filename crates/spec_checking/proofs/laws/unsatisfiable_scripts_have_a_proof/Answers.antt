-- That what no truths make true has a good proof.
use Rattle.std.proofs.Common.{arith}
use Rattle.std.proofs.lemmas.Bool.Decides.{nat_tests}
use Rattle.spec_commands.specs.Stack.{empty_stack}
use Rattle.spec_commands.proofs.Asked.{current_assumes, asked_sound}
use Rattle.spec_checking.proofs.Few.{current_few}
use Rattle.spec_checking.proofs.Refuting.{refuted}
use Rattle.spec_checking.proofs.laws.unsatisfiable_scripts_have_a_proof.Goals as goal

pub returns : goal.returns
returns c = record {
  truths = λ limit script k here current never.
      let kept = c.assertions_have_their_texts_value.ensures.kept limit script k here current in
      refuted limit here (current_few limit empty_stack k current.commands here current.here (grind (arith, nat_tests))) (asked_sound limit here kept (current_assumes limit empty_stack k current.commands here current.here)).assertions_read never;
}
