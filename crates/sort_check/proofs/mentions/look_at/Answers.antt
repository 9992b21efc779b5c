-- An atom or a list.
use Rattle.std.proofs.Common.{◌||◌, ◌&&◌, ◌+◌, sym, ap, ◌∙◌, arith}
use Rattle.spec_text.specs.Bytes.{among}
use Rattle.spec_text.specs.Trees.{list}
use Rattle.spec_reading.specs.Names.{without, mentions}
use Rattle.spec_sorts.specs.Forms.{form}
use Rattle.smt_sexpr.specs.Items.{trees_meant, tree_meant}
use Rattle.smt_sexpr.proofs.Splitting.{split_end, split_more}
use Rattle.sort_check.specs.Walks.{size, sizes}
use Rattle.sort_check.specs.Mentions.{names_of, form_mentions, rest_of, rest_mentions, left_size}
use Rattle.sort_check.proofs.FreeNames.{atom_mentions, empty_mentions, list_mentions, size_some}
use Rattle.sort_check.proofs.Looking.{looks_by, looks_along}
use Rattle.sort_check.proofs.mentions.look_at.Goals as goal

pub returns-then-not-is_symbol : goal.returns-then-not-is_symbol
returns-then-not-is_symbol c =
    let ns = names_of c.args.bound.now in
    let r = rest_of c.args.search.now in
    let w = without ns r.inner in
    let n = c.in-Atom.name.now in (
      ap (λ t. mentions w t || rest_mentions ns r) (sym c.in-Atom.ensures.seen)
          ∙ ap (λ b. b || rest_mentions ns r) (atom_mentions w c.in-Atom.field-0 c.in-Atom.kind n ∙ ap (λ b. b && among w n) (sym c.is_symbol.ensures ∙ c.if-not-is_symbol.true)),
      omega (arith, size_some (tree_meant c.args.text)),
    )

pub returns-else-not-is_symbol : goal.returns-else-not-is_symbol
returns-else-not-is_symbol c =
    let ns = names_of c.args.bound.now in
    let r = rest_of c.args.search.now in
    let w = without ns r.inner in
    let n = c.in-Atom.name.now in
    looks_by ns (mentions w (tree_meant c.args.text) || rest_mentions ns r) c.is_free.result (size (tree_meant c.args.text) + left_size r.left) r
    (ap (λ t. mentions w t || rest_mentions ns r) (sym c.in-Atom.ensures.seen)
    ∙ ap (λ b. b || rest_mentions ns r) (atom_mentions w c.in-Atom.field-0 c.in-Atom.kind n ∙ ap (λ b. b && among w n) (sym c.is_symbol.ensures ∙ c.if-not-is_symbol.false) ∙ sym c.is_free.ensures))
    (omega (arith, size_some (tree_meant c.args.text)))

pub returns-in-None : goal.returns-in-None
returns-in-None c =
    let ns = names_of c.args.bound.now in
    let r = rest_of c.args.search.now in
    let w = without ns r.inner in (
      ap (λ t. mentions w t || rest_mentions ns r) (sym c.in-List.ensures.seen)
          ∙ ap (λ ts. mentions w (list c.in-List.field-0 ts c.in-List.field-2) || rest_mentions ns r) (split_end (trees_meant c.in-List.inside) c.in-None.ensures.first)
          ∙ ap (λ b. b || rest_mentions ns r) (empty_mentions w c.in-List.field-0 c.in-List.field-2),
      omega (arith, size_some (tree_meant c.args.text)),
    )

pub returns-in-Some : goal.returns-in-Some
returns-in-Some c =
    let ns = names_of c.args.bound.now in
    let r = rest_of c.args.search.now in
    let w = without ns r.inner in
    let head = tree_meant c.in-Some.head in
    let us = trees_meant c.in-Some.arguments in
    let at = c.in-List.field-0 in
    let end = c.in-List.field-2 in
    let first = split_more (trees_meant c.in-List.inside) us head c.in-Some.ensures.first in
    looks_along ns (form_mentions w us (form head us) || rest_mentions ns r) (mentions w (tree_meant c.args.text) || rest_mentions ns r) (3 + (sizes us + left_size r.left)) (size (tree_meant c.args.text) + left_size r.left) (rest_of c.look_in_list.new.search) c.look_in_list.result
    (ap (λ t. mentions w t || rest_mentions ns r) (sym c.in-List.ensures.seen) ∙ ap (λ ts. mentions w (list at ts end) || rest_mentions ns r) first ∙ ap (λ b. b || rest_mentions ns r) (list_mentions w at end head us))
    (omega (arith, size_some head, ap size (sym c.in-List.ensures.seen), ap sizes first))
    c.look_in_list.ensures
