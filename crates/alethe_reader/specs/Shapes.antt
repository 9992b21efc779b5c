-- The shapes of a proof's commands as the code has them.
use Rattle.std.specs.Prelude.{Option, Some, None, option_map, if◌then◌else◌}
use Rattle.spec_text.specs.Bytes.{Name}
use Rattle.spec_text.specs.Trees.{Tree, Trees, atom, list}
use Rattle.spec_text.specs.Shapes.{is_keyword}
use Rattle.spec_checking.specs.Commands.{Shape, assumes, steps, defines, StepParts, Keywords, or_none}
use Rattle.smt_sexpr.specs.declared.items.Trees.{Trees as Cursor}
use Rattle.smt_sexpr.specs.Items.{trees_meant, tree_meant}
use Rattle.smt_sexpr.specs.Views.{word_view}
use Rattle.smt_command.specs.Commands.{parts_view}
use Rattle.alethe_reader.specs.declared.shapes.Shape.{Shape as CodeShape}
use Rattle.alethe_reader.specs.declared.shapes.Shape.TheVariants as code
use Rattle.alethe_reader.specs.declared.shapes.Keywords as code_keywords
use Rattle.alethe_reader.specs.declared.shapes.StepParts as code_steps

-- the keywords up to here
abbrev pub keywords_view : code_keywords.Keywords → Keywords
keywords_view p = record {
  rule = option_map word_view p.rule;
  premises = option_map trees_meant p.premises;
  arguments = option_map trees_meant p.arguments;
  discharged = option_map trees_meant p.discharged;
}

-- trees, where they are given
abbrev pub given_view : Option Cursor → Trees
given_view given = or_none (option_map trees_meant given)

-- a step's parts
abbrev pub step_parts : code_steps.StepParts → StepParts
step_parts p = record {
  name = word_view p.name;
  literals = trees_meant p.literals;
  rule = word_view p.rule;
  premises = given_view p.premises;
  arguments = given_view p.arguments;
}

-- a command by its shape
abbrev pub shape_view : CodeShape → Shape
shape_view (code.Assume w term) = assumes (word_view w) (tree_meant term)
shape_view (code.Step p) = steps (step_parts p)
shape_view (code.Define p) = defines (parts_view p)

-- the name of a keyword, and of no other tree
abbrev pub keyword_in : Tree → Option Name
keyword_in (atom at k n) = if is_keyword k then Some n else None
keyword_in (list at ts end) = None
