-- What reading a command gives, in the words of the definitions.
use Rattle.std.specs.Prelude.{◌≡◌, ℕ, Bool, false, Result, Ok, Err, Option, Some}
use Rattle.std.specs.Option.{is_some}
use Rattle.spec_text.specs.declared.Fault.TheVariants.{BadShape}
use Rattle.spec_text.specs.Faults.{Located}
use Rattle.spec_text.specs.Places.{IsPlaceOf}
use Rattle.spec_text.specs.Trees.{Tree, Trees, atom, list, none, more, offset_of}
use Rattle.spec_text.specs.Shapes.{◌>>=◌, passes, first_word, no_tree, only_tree}
use Rattle.spec_text.specs.Answers.{Answer, refused}
use Rattle.spec_sorts.specs.Numerals.{number_after}
use Rattle.spec_reading.specs.Definitions.{Parts}
use Rattle.spec_commands.specs.Commands.{Command, SetLogic, SetOption, SetInfo, DeclareSort, DefineSort, DeclareFun}
use Rattle.spec_commands.specs.Commands.{DefineFun, Assert, Push, Pop, CheckSat, CheckSatAssuming, ResetAssertions}
use Rattle.spec_commands.specs.Commands.{Reset, Echo, Exit}
use Rattle.spec_commands.specs.Commands.{Verb, sets_logic, sets_option, sets_info, declares_sort, defines_sort}
use Rattle.spec_commands.specs.Commands.{declares_const, declares_fun, defines_fun, asserts, pushes, pops, checks}
use Rattle.spec_commands.specs.Commands.{checks_assuming, resets_assertions, resets, echoes, exits, is_numeral}
use Rattle.spec_commands.specs.Commands.{number_of_levels}
use Rattle.spec_commands.specs.Commands.{first_name, command_as, command_of, verb_of}
use Rattle.smt_lexer.specs.declared.Refused.{Refused}
use Rattle.smt_lexer.specs.declared.Refused.TheVariants as refusals
use Rattle.smt_sexpr.specs.declared.sexpr.Sexpr.{Sexpr}
use Rattle.smt_sexpr.specs.Items.{trees_meant, tree_meant, tree_of, text_of}
use Rattle.smt_sexpr.specs.Views.{word_view}
use Rattle.smt_command.specs.declared.commands.FunctionText.{FunctionText as CodeParts}
use Rattle.smt_command.specs.declared.commands.Command.{Command as CodeCommand}
use Rattle.smt_command.specs.declared.commands.Command.TheVariants as code
use Rattle.smt_command.specs.declared.commands.Verb.{Verb as CodeVerb}
use Rattle.smt_command.specs.declared.commands.Verb.TheVariants as words
use Rattle.smt_command.specs.declared.reading.CommandFault.{CommandFault}

-- the parts of a definition in the words of the definitions
abbrev pub parts_view : CodeParts → Parts
parts_view p = record {
  name = word_view p.name;
  parameters = trees_meant p.parameters;
  result = tree_meant p.result;
  body = tree_meant p.body;
}

-- a command in the words of the definitions: a constant is a function without parameters
abbrev pub command_view : CodeCommand → Command
command_view (code.SetLogic w) = SetLogic (word_view w)
command_view (code.SetOption k value) = SetOption k.now (tree_meant value)
command_view code.SetInfo = SetInfo
command_view (code.DeclareSort w) = DeclareSort (word_view w)
command_view (code.DefineSort w sort) = DefineSort (word_view w) (tree_meant sort)
command_view (code.DeclareConst w sort) = DeclareFun (word_view w) none (tree_meant sort)
command_view (code.DeclareFun w parameters sort) = DeclareFun (word_view w) (trees_meant parameters) (tree_meant sort)
command_view (code.DefineFun parts) = DefineFun (parts_view parts)
command_view (code.Assert term) = Assert (tree_meant term)
command_view (code.Push n) = Push n
command_view (code.Pop n) = Pop n
command_view (code.CheckSat at) = CheckSat at
command_view (code.CheckSatAssuming at literals) = CheckSatAssuming at (trees_meant literals)
command_view code.ResetAssertions = ResetAssertions
command_view code.Reset = Reset
command_view (code.Echo text) = Echo text.now
command_view code.Exit = Exit

-- the word of a command in the words of the definitions
abbrev pub verb_meant : CodeVerb → Verb
verb_meant words.SetLogic = sets_logic
verb_meant words.SetOption = sets_option
verb_meant words.SetInfo = sets_info
verb_meant words.DeclareSort = declares_sort
verb_meant words.DefineSort = defines_sort
verb_meant words.DeclareConst = declares_const
verb_meant words.DeclareFun = declares_fun
verb_meant words.DefineFun = defines_fun
verb_meant words.Assert = asserts
verb_meant words.Push = pushes
verb_meant words.Pop = pops
verb_meant words.CheckSat = checks
verb_meant words.CheckSatAssuming = checks_assuming
verb_meant words.ResetAssertions = resets_assertions
verb_meant words.Reset = resets
verb_meant words.Echo = echoes
verb_meant words.Exit = exits

-- what may be a new name, and one tree more
unfoldable pub named_parts : Trees → Option (Unit {0})
named_parts ts = do
  x ← first_name ts
  t ← only_tree x.1
  Some tt

-- a list of these
abbrev pub is_named : Tree → Bool
is_named (atom at k n) = false
is_named (list at ts end) = is_some (named_parts ts)

-- a numeral alone, as a number of levels
unfoldable pub levels_written : Trees → Option ℕ
levels_written ts = do
  n ← first_word ts
  is_number ← passes (is_numeral n.0.kind)
  end ← no_tree n.1
  Some (number_of_levels (number_after 0 n.0.bytes))

-- the command of a list at an offset
abbrev pub command_in_list : ℕ → Trees → Answer Command
command_in_list at none = refused at BadShape
command_in_list at (more head us) = command_as at (offset_of head) (verb_of head) us

-- a fault of a command, in the words of the definitions
abbrev pub located : CommandFault → Located
located f = record { offset = f.offset; fault = f.fault }

-- what a function returned, seen by a view, is what is read, or the fault is the same
abbrev pub Gives : {X Y : Type 0} → (X → Y) → Result X CommandFault → Answer Y → Type 0
Gives view (Ok x) read = read ≡ Ok (view x)
Gives view (Err f) read = read ≡ Err (located f)

-- The command that an s-expression is; or its fault, with the place in its text. It never lacks memory.
abbrev pub ReadsScriptCommand : Sexpr → Result CodeCommand Refused → Type 0
ReadsScriptCommand x (Ok c) = command_of (tree_of x) ≡ Ok (command_view c)
ReadsScriptCommand x (Err (refusals.Fault r)) =
    (command_of (tree_of x) ≡ Err (record { offset = r.place.offset; fault = r.fault })) × IsPlaceOf (text_of x) r.place
ReadsScriptCommand x (Err refusals.Memory) = ⊥
