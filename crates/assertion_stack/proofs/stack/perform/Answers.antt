-- Each command is performed by its own function, or changes nothing.
use Rattle.std.proofs.Common.{refl}
use Rattle.std.specs.Prelude.{Ok}
use Rattle.spec_text.specs.Trees.{none}
use Rattle.spec_commands.specs.Commands.{SetLogic, SetOption, DeclareSort, DefineSort, DeclareFun, DefineFun, Assert, Push, Pop, ResetAssertions, Reset}
use Rattle.spec_commands.specs.Stack.{did, say, leave}
use Rattle.smt_sexpr.specs.Items.{trees_meant, tree_meant}
use Rattle.smt_sexpr.specs.Views.{word_view}
use Rattle.smt_command.specs.Commands.{parts_view}
use Rattle.term_reader.proofs.Tables.{keeps_same}
use Rattle.assertion_stack.proofs.Checking.{not_asked, begun_keeps}
use Rattle.assertion_stack.proofs.stack.perform.Goals as goal

pub returns-in-SetOption-clause-performs : goal.returns-in-SetOption-clause-performs
returns-in-SetOption-clause-performs c limit s h = rw c.in-SetOption.is (c.set_option.ensures.performs limit c.args.table.now s h)

pub returns-in-SetInfo-clause-performs : goal.returns-in-SetInfo-clause-performs
returns-in-SetInfo-clause-performs c limit s h = rw c.in-SetInfo.is (did s, refl, refl, h)

pub returns-in-DeclareSort-clause-performs : goal.returns-in-DeclareSort-clause-performs
returns-in-DeclareSort-clause-performs c limit s h = rw c.in-DeclareSort.is (c.declare_sort.ensures.performs limit s h)

pub returns-in-DefineSort-clause-performs : goal.returns-in-DefineSort-clause-performs
returns-in-DefineSort-clause-performs c limit s h = rw c.in-DefineSort.is (c.name_sort.ensures.performs limit s h)

pub returns-in-DeclareConst-clause-performs : goal.returns-in-DeclareConst-clause-performs
returns-in-DeclareConst-clause-performs c limit s h = rw c.in-DeclareConst.is (c.declare_const.ensures.performs limit s h)

pub returns-in-DeclareFun-clause-performs : goal.returns-in-DeclareFun-clause-performs
returns-in-DeclareFun-clause-performs c limit s h = rw c.in-DeclareFun.is (c.declare.ensures.performs limit s h)

pub returns-in-DefineFun-clause-performs : goal.returns-in-DefineFun-clause-performs
returns-in-DefineFun-clause-performs c limit s h = rw c.in-DefineFun.is (c.define.ensures.performs limit s h)

pub returns-in-Assert-clause-performs : goal.returns-in-Assert-clause-performs
returns-in-Assert-clause-performs c limit s h = rw c.in-Assert.is (c.assert.ensures.performs limit s h)

pub returns-in-Push-clause-performs : goal.returns-in-Push-clause-performs
returns-in-Push-clause-performs c limit s h = rw c.in-Push.is (c.push.ensures.performs limit s h)

pub returns-in-Pop-clause-performs : goal.returns-in-Pop-clause-performs
returns-in-Pop-clause-performs c limit s h = rw c.in-Pop.is (c.pop.ensures.performs limit s h)

pub returns-in-ResetAssertions-clause-performs : goal.returns-in-ResetAssertions-clause-performs
returns-in-ResetAssertions-clause-performs c limit s h = rw c.in-ResetAssertions.is (c.reset_assertions.ensures.performs limit c.args.at s h)

pub returns-in-Reset-clause-performs : goal.returns-in-Reset-clause-performs
returns-in-Reset-clause-performs c limit s h = rw c.in-Reset.is (c.reset.ensures.performs limit c.args.at s h)

pub returns-in-CheckSat-clause-performs : goal.returns-in-CheckSat-clause-performs
returns-in-CheckSat-clause-performs c limit s h = rw c.in-CheckSat.is (c.begin_check.ensures.performs limit c.args.at c.args.table.now s h)

pub returns-in-CheckSat-clause-check : goal.returns-in-CheckSat-clause-check
returns-in-CheckSat-clause-check c = begun_keeps _ _ c.begin_check.result (keeps_same c.args.table.now) c.begin_check.ensures.begun

pub returns-in-CheckSatAssuming-clause-performs : goal.returns-in-CheckSatAssuming-clause-performs
returns-in-CheckSatAssuming-clause-performs c limit s h = rw c.in-CheckSatAssuming.is (c.check_assuming.ensures.performs limit s h)

pub returns-in-Echo-clause-performs : goal.returns-in-Echo-clause-performs
returns-in-Echo-clause-performs c limit s h = rw c.in-Echo.is (record { effect = say c.in-Echo.text.now; stack = s }, refl, refl, h)

pub returns-in-Exit-clause-performs : goal.returns-in-Exit-clause-performs
returns-in-Exit-clause-performs c limit s h = rw c.in-Exit.is (record { effect = leave; stack = s }, refl, refl, h)

pub returns-in-SetLogic-clause-check : goal.returns-in-SetLogic-clause-check
returns-in-SetLogic-clause-check c = not_asked c.requires.0 c.args.at c.requires.1 (SetLogic (word_view c.in-SetLogic.word)) (λ no. no) _ _ c.set_logic.result (c.set_logic.ensures.performs c.requires.0 c.args.table.now c.requires.1 c.requires.2)

pub returns-in-SetOption-clause-check : goal.returns-in-SetOption-clause-check
returns-in-SetOption-clause-check c = not_asked c.requires.0 c.args.at c.requires.1 (SetOption c.in-SetOption.name.now (tree_meant c.in-SetOption.value)) (λ no. no) _ _ c.set_option.result (c.set_option.ensures.performs c.requires.0 c.args.table.now c.requires.1 c.requires.2)

pub returns-in-DeclareSort-clause-check : goal.returns-in-DeclareSort-clause-check
returns-in-DeclareSort-clause-check c = not_asked c.requires.0 c.args.at c.requires.1 (DeclareSort (word_view c.in-DeclareSort.word)) (λ no. no) _ _ c.declare_sort.result (c.declare_sort.ensures.performs c.requires.0 c.requires.1 c.requires.2)

pub returns-in-DefineSort-clause-check : goal.returns-in-DefineSort-clause-check
returns-in-DefineSort-clause-check c = not_asked c.requires.0 c.args.at c.requires.1 (DefineSort (word_view c.in-DefineSort.word) (tree_meant c.in-DefineSort.sort)) (λ no. no) _ _ c.name_sort.result (c.name_sort.ensures.performs c.requires.0 c.requires.1 c.requires.2)

pub returns-in-DeclareConst-clause-check : goal.returns-in-DeclareConst-clause-check
returns-in-DeclareConst-clause-check c = not_asked c.requires.0 c.args.at c.requires.1 (DeclareFun (word_view c.in-DeclareConst.word) none (tree_meant c.in-DeclareConst.sort)) (λ no. no) _ _ c.declare_const.result (c.declare_const.ensures.performs c.requires.0 c.requires.1 c.requires.2)

pub returns-in-DeclareFun-clause-check : goal.returns-in-DeclareFun-clause-check
returns-in-DeclareFun-clause-check c = not_asked c.requires.0 c.args.at c.requires.1 (DeclareFun (word_view c.in-DeclareFun.word) (trees_meant c.in-DeclareFun.parameters) (tree_meant c.in-DeclareFun.sort)) (λ no. no) _ _ c.declare.result (c.declare.ensures.performs c.requires.0 c.requires.1 c.requires.2)

pub returns-in-DefineFun-clause-check : goal.returns-in-DefineFun-clause-check
returns-in-DefineFun-clause-check c = not_asked c.requires.0 c.args.at c.requires.1 (DefineFun (parts_view c.in-DefineFun.parts)) (λ no. no) _ _ c.define.result (c.define.ensures.performs c.requires.0 c.requires.1 c.requires.2)

pub returns-in-Assert-clause-check : goal.returns-in-Assert-clause-check
returns-in-Assert-clause-check c = not_asked c.requires.0 c.args.at c.requires.1 (Assert (tree_meant c.in-Assert.tree)) (λ no. no) _ _ c.assert.result (c.assert.ensures.performs c.requires.0 c.requires.1 c.requires.2)

pub returns-in-Push-clause-check : goal.returns-in-Push-clause-check
returns-in-Push-clause-check c = not_asked c.requires.0 c.args.at c.requires.1 (Push c.in-Push.n) (λ no. no) _ _ c.push.result (c.push.ensures.performs c.requires.0 c.requires.1 c.requires.2)

pub returns-in-Pop-clause-check : goal.returns-in-Pop-clause-check
returns-in-Pop-clause-check c = not_asked c.requires.0 c.args.at c.requires.1 (Pop c.in-Pop.n) (λ no. no) _ _ c.pop.result (c.pop.ensures.performs c.requires.0 c.requires.1 c.requires.2)

pub returns-in-ResetAssertions-clause-check : goal.returns-in-ResetAssertions-clause-check
returns-in-ResetAssertions-clause-check c = not_asked c.requires.0 c.args.at c.requires.1 ResetAssertions (λ no. no) _ _ (Ok c.reset_assertions.result) (c.reset_assertions.ensures.performs c.requires.0 c.args.at c.requires.1 c.requires.2)

pub returns-in-Reset-clause-check : goal.returns-in-Reset-clause-check
returns-in-Reset-clause-check c = not_asked c.requires.0 c.args.at c.requires.1 Reset (λ no. no) _ _ (Ok c.reset.result) (c.reset.ensures.performs c.requires.0 c.args.at c.requires.1 c.requires.2)
