-- Whether a name is bound outside of the text, and not in it.
use Rattle.std.proofs.Common.{not, ◌&&◌, sym, ap, ◌∙◌}
use Rattle.spec_text.specs.Bytes.{among}
use Rattle.term_reader.specs.NameStacks.{newest}
use Rattle.sort_check.specs.Mentions.{names_of}
use Rattle.sort_check.proofs.Binding.{is_among}
use Rattle.sort_check.proofs.FreeNames.{among_without, looked_none, looked_some}
use Rattle.sort_check.proofs.mentions.is_free.Goals as goal

pub returns-in-None : goal.returns-in-None
returns-in-None c =
    let v = c.args.bound.now in
    let n = c.args.name.now in
    sym (among_without (names_of v) c.args.inner.now n ∙ ap (λ b. b && not (among c.args.inner.now n)) (looked_none (newest v.names v.terms) n (sym c.in-None.ensures)))

pub returns-in-None-find : goal.returns-in-None-find
returns-in-None-find c =
    let v = c.args.bound.now in
    let n = c.args.name.now in
    sym (among_without (names_of v) c.args.inner.now n ∙ (λ i. looked_some (newest v.names v.terms) n c.in-Some.field-0 (sym c.in-Some.ensures) i && not (c.in-None-find.ensures i)))

pub returns-in-Some-find : goal.returns-in-Some-find
returns-in-Some-find c =
    let v = c.args.bound.now in
    let k = c.in-Some-find.ensures in
    let n = c.args.name.now in
    sym (among_without (names_of v) c.args.inner.now n ∙ (λ i. looked_some (newest v.names v.terms) n c.in-Some.field-0 (sym c.in-Some.ensures) i && not (is_among c.args.inner.now n c.in-Some-find.field-0 k.inside k.same i)))
