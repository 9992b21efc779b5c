-- The symbol of a literal, by its tests.
use Rattle.std.proofs.Common.{sym, ap, ◌∙◌}
use Rattle.spec_text.specs.declared.Fault.TheVariants.{NotLiteral}
use Rattle.spec_text.specs.Answers.{refused}
use Rattle.spec_text.specs.Trees.{offset_of}
use Rattle.spec_sorts.specs.Signatures.{known_as}
use Rattle.spec_commands.specs.Literals.{proposition_of}
use Rattle.smt_sexpr.specs.Items.{tree_meant}
use Rattle.smt_sexpr.specs.Views.{word_view}
use Rattle.term_reader.specs.Scopes.{function_under}
use Rattle.assertion_stack.proofs.ReadLiterals.{no_proposition, proposition, one_known}
use Rattle.assertion_stack.proofs.literals.want_proposition.Goals as goal

pub is_proposition-requires : goal.is_proposition-requires
is_proposition-requires c =
    let n = c.in-Some.word.bytes.now in
    let s = c.requires.0 in
    let k = one_known c.args.table.now (function_under c.args.scope.now n) (known_as s n) c.in-Some-function.function.now (c.requires.1.functions n) (sym c.in-Some-function.ensures) in
    (k.0, k.2)

pub returns-then-not-is_proposition : goal.returns-then-not-is_proposition
returns-then-not-is_proposition c s h =
    let x = word_view c.in-Some.word in
    let item = offset_of (tree_meant c.args.tree) in
    let k = one_known c.args.table.now (function_under c.args.scope.now x.bytes) (known_as s x.bytes) c.in-Some-function.function.now (h.functions x.bytes) (sym c.in-Some-function.ensures) in
    let means = ap (proposition_of s item) (sym c.in-Some.ensures) ∙ no_proposition s item x (sym c.in_default-named.ensures) k.0 k.1 (sym (c.is_proposition.ensures k.0 k.2) ∙ c.if-not-is_proposition.true) in
    rw c.refused-then-not-is_proposition.ensures (means ∙ (λ i. refused (sym c.offset-then-not-is_proposition.ensures i) NotLiteral))

pub returns : goal.returns
returns c s h =
    let x = word_view c.in-Some.word in
    let item = offset_of (tree_meant c.args.tree) in
    let k = one_known c.args.table.now (function_under c.args.scope.now x.bytes) (known_as s x.bytes) c.in-Some-function.function.now (h.functions x.bytes) (sym c.in-Some-function.ensures) in
    (k.0, ap (proposition_of s item) (sym c.in-Some.ensures) ∙ proposition s item x (sym c.in_default-named.ensures) k.0 k.1 (sym (c.is_proposition.ensures k.0 k.2) ∙ c.if-not-is_proposition.false))
