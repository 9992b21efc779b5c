-- That the list writes this number, by its word and how many texts follow.
use Rattle.std.proofs.Common.{◌∙◌, sym, true, false}
use Rattle.smt_sexpr.specs.Items.{trees_meant, tree_meant}
use Rattle.alethe_reader.proofs.CoefficientTexts.{word_alone, word_one, word_two, word_more}
use Rattle.alethe_reader.proofs.coefficients.open_by.Goals as goal

pub returns-in_default-clause-number : goal.returns-in_default-clause-number
returns-in_default-clause-number c = word_alone c.args.word.at c.args.word.kind c.args.word.bytes.now (trees_meant c.args.arguments) c.in_default.ensures.first

pub returns-then-is_word-clause-number : goal.returns-then-is_word-clause-number
returns-then-is_word-clause-number c =
    word_one c.args.word.at c.args.word.kind c.args.word.bytes.now (trees_meant c.args.arguments) true (tree_meant c.in-Some.first) (trees_meant c.in-Some.rest)
    (sym c.is_word.ensures ∙ c.if-is_word.true) c.in-Some.ensures.first c.in_default-split.ensures.first

pub returns-in_default-split-clause-number : goal.returns-in_default-split-clause-number
returns-in_default-split-clause-number c =
    word_one c.args.word.at c.args.word.kind c.args.word.bytes.now (trees_meant c.args.arguments) false (tree_meant c.in-Some.first) (trees_meant c.in-Some.rest)
    (sym c.is_word.ensures ∙ c.if-is_word.false) c.in-Some.ensures.first c.in_default-split.ensures.first

pub returns-in-Some-split-2-clause-number : goal.returns-in-Some-split-2-clause-number
returns-in-Some-split-2-clause-number c =
    word_more c.args.word.at c.args.word.kind c.args.word.bytes.now (trees_meant c.args.arguments) (tree_meant c.in-Some.first) (tree_meant c.in-Some-split.second) _
    (trees_meant c.in-Some.rest) (trees_meant c.in-Some-split.others) _ c.in-Some.ensures.first c.in-Some-split.ensures.first c.in-Some-split-2.ensures.first

pub returns-then-is_word-2-clause-number : goal.returns-then-is_word-2-clause-number
returns-then-is_word-2-clause-number c =
    word_two c.args.word.at c.args.word.kind c.args.word.bytes.now (trees_meant c.args.arguments) true (tree_meant c.in-Some.first) (tree_meant c.in-Some-split.second)
    (trees_meant c.in-Some.rest) (trees_meant c.in-Some-split.others)
    (sym c.is_word-in-None.ensures ∙ c.if-is_word-2.true) c.in-Some.ensures.first c.in-Some-split.ensures.first c.in-None.ensures.first

pub returns-else-is_word-2-clause-number : goal.returns-else-is_word-2-clause-number
returns-else-is_word-2-clause-number c =
    word_two c.args.word.at c.args.word.kind c.args.word.bytes.now (trees_meant c.args.arguments) false (tree_meant c.in-Some.first) (tree_meant c.in-Some-split.second)
    (trees_meant c.in-Some.rest) (trees_meant c.in-Some-split.others)
    (sym c.is_word-in-None.ensures ∙ c.if-is_word-2.false) c.in-Some.ensures.first c.in-Some-split.ensures.first c.in-None.ensures.first
