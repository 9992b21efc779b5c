-- The names of a term, from left to right.
use Rattle.std.proofs.Common.{sym, ap, ◌∙◌, subst}
use Rattle.spec_sorts.specs.Signatures.{with_definitions}
use Rattle.spec_reading.specs.Reading.{made_by}
use Rattle.spec_sorts.specs.Forms.{a_keyword, named_words}
use Rattle.smt_sexpr.specs.Items.{trees_meant, tree_meant}
use Rattle.smt_sexpr.proofs.Splitting.{split_end, split_more}
use Rattle.term_reader.specs.Forms.{next_meant}
use Rattle.term_reader.specs.Names.{setting_meant}
use Rattle.sort_check.specs.Naming.{annotated_meant, listed_word, wanted_word, next_word, HasNamed}
use Rattle.sort_check.specs.Reads.{HasFault}
use Rattle.sort_check.proofs.Widening.{widens_same, widens_along}
use Rattle.sort_check.proofs.NamesGiven.{IsNaming, words_next, no_words, naming_begins, naming_goes, naming_stops, naming_ends}
use Rattle.sort_check.proofs.naming.name_term.Goals as goal

pub attributes-init : goal.attributes-init
attributes-init c =
    let w = setting_meant c.args.setting in (
      widens_same c.args.scope.now,
      λ s text h. naming_begins w s (annotated_meant c.args.table.now text c.args.term) (named_words a_keyword (trees_meant c.args.attributes)) c.args.table.now c.args.scope.now c.args.named.now.items h,
    )

pub returns-in-Err-clause-ends : goal.returns-in-Err-clause-ends
returns-in-Err-clause-ends c =
    let w = setting_meant c.args.setting in
    let t = c.args.table.now in
    let item = tree_meant c.in-Some.item in
    let next = next_meant c.attributes.next in
    λ s text h.
    let a = annotated_meant t text c.args.term in
    let k = subst (λ xs. IsNaming w s a (named_words a_keyword (trees_meant c.args.attributes)) xs t c.attributes.scope c.args.named.now.items c.attributes.named.items)
    (ap (named_words next) (split_more (trees_meant c.attributes.rest) (trees_meant c.in-Some.after) item c.in-Some.ensures.first) ∙ words_next next item (trees_meant c.in-Some.after)) (c.attributes.invariant.1 s text h) in
    naming_stops w s a (named_words a_keyword (trees_meant c.args.attributes)) (wanted_word next item) (named_words (next_word next item) (trees_meant c.in-Some.after)) t c.attributes.scope c.args.named.now.items c.attributes.named.items k c.in-Err.stop
    (subst (λ o. HasFault (made_by w (with_definitions s k.made) a (listed_word o)) c.in-Err.stop) c.word_wanted-word.ensures (c.in-Err.ensures.ends (with_definitions s k.made) text k.represents))

pub attributes-preserved : goal.attributes-preserved
attributes-preserved c =
    let w = setting_meant c.args.setting in
    let t = c.args.table.now in
    let item = tree_meant c.in-Some.item in
    let next = next_meant c.attributes.next in (
      widens_along c.args.scope.now c.attributes.scope c.give_wanted.new.scope c.attributes.invariant.0 c.in_default-give_wanted.ensures.widens,
      λ s text h.
          let a = annotated_meant t text c.args.term in
          let all = named_words a_keyword (trees_meant c.args.attributes) in
          let k = subst (λ xs. IsNaming w s a all xs t c.attributes.scope c.args.named.now.items c.attributes.named.items)
          (ap (named_words next) (split_more (trees_meant c.attributes.rest) (trees_meant c.in-Some.after) item c.in-Some.ensures.first) ∙ words_next next item (trees_meant c.in-Some.after)) (c.attributes.invariant.1 s text h) in
          subst (λ n. IsNaming w s a all (named_words n (trees_meant c.in-Some.after)) t c.give_wanted.new.scope c.args.named.now.items c.give_wanted.new.named.items) (sym c.next_wanted-next.ensures)
          (naming_goes w s a all (wanted_word next item) (named_words (next_word next item) (trees_meant c.in-Some.after)) t c.attributes.scope c.args.named.now.items c.attributes.named.items k c.give_wanted.new.scope c.give_wanted.new.named.items
          (subst (λ o. HasNamed t (with_definitions s k.made) c.give_wanted.new.scope (c.attributes.named.items, c.give_wanted.new.named.items) (made_by w (with_definitions s k.made) a (listed_word o))) c.word_wanted-word.ensures (c.in_default-give_wanted.ensures.ends (with_definitions s k.made) text k.represents))),
    )

pub returns-clause-ends : goal.returns-clause-ends
returns-clause-ends c =
    let w = setting_meant c.args.setting in
    let t = c.args.table.now in
    λ s text h.
    let a = annotated_meant t text c.args.term in
    let all = named_words a_keyword (trees_meant c.args.attributes) in
    naming_ends w s a all t c.attributes.scope c.args.named.now.items c.attributes.named.items
    (subst (λ xs. IsNaming w s a all xs t c.attributes.scope c.args.named.now.items c.attributes.named.items) (ap (named_words (next_meant c.attributes.next)) (split_end (trees_meant c.attributes.rest) c.in_default.ensures.first) ∙ no_words (next_meant c.attributes.next)) (c.attributes.invariant.1 s text h))
