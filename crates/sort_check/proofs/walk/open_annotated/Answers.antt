-- A term with attributes opens.
use Rattle.std.proofs.Common.{◌∷◌, [], ◌++◌, refl, sym, ap, ◌∙◌, arith}
use Rattle.std.specs.Prelude.{Err}
use Rattle.spec_reading.specs.Reading.{annotated_reading}
use Rattle.smt_sexpr.specs.Items.{trees_meant, tree_meant}
use Rattle.smt_sexpr.proofs.Splitting.{split_end, split_more}
use Rattle.term_reader.specs.Names.{located_of}
use Rattle.sort_check.specs.declared.frames.Opened.TheVariants.{Annotates}
use Rattle.sort_check.specs.declared.frames.Frame.{Frame}
use Rattle.sort_check.specs.Walks.{here, known_after, sizes}
use Rattle.sort_check.proofs.Opening.{annotated_opens, nothing_annotated}
use Rattle.sort_check.proofs.Walking.{row_of, next_fault, open_goes, ends_by, less_by, frames_push}
use Rattle.sort_check.proofs.walk.open_annotated.Goals as goal

pub returns-in_default-clause-goes : goal.returns-in_default-clause-goes
returns-in_default-clause-goes c =
    λ w t v tree next is root k.
    let h = here t v c.args.walk.now in
    let s = known_after (row_of w root h k) in
    let b = k.inner.base.bound in
    next_fault w root h k tree (trees_meant c.args.after) (located_of c.fault_at.result) next
    (is s b ∙ ap (annotated_reading w s b c.args.at) (split_end (trees_meant c.args.arguments) c.in_default.ensures.first) ∙ nothing_annotated w s b c.args.at ∙ ap (λ f. Err (located_of f)) (sym c.fault_at.ensures))

pub returns-clause-goes : goal.returns-clause-goes
returns-clause-goes c =
    let text = tree_meant c.in-Some.text in
    let attributes = trees_meant c.in-Some.attributes in
    let f : Frame = record { opened = Annotates c.args.at c.in-Some.text c.in-Some.attributes; from = c.len-from.result; after = c.args.after } in
    λ w t v tree next is root k.
    let h = here t v c.args.walk.now in
    let s = known_after (row_of w root h k) in
    let b = k.inner.base.bound in
    let texts = trees_meant c.in-Some.text in
    ends_by w root (here t v c.open.new.walk) (record h { frames = h.frames ++ f ∷ []; rest = texts }) c.open.result (c.open.ensures.opened t v) c.open.ensures.memory
    (open_goes w root h k tree f texts next (omega (arith, c.len-from.ensures, c.args.walk.now.values.ok.0)) refl refl c.in-Some.ensures.alone
    (is s b ∙ ap (annotated_reading w s b c.args.at) (split_more (trees_meant c.args.arguments) attributes text c.in-Some.ensures.first) ∙ annotated_opens w s b c.args.at c.in-Some.text c.in-Some.attributes c.in-Some.ensures.alone (k.inner.below ++ k.done) k.inner.waiting))

pub returns-clause-less : goal.returns-clause-less
returns-clause-less c =
    let text = tree_meant c.in-Some.text in
    let attributes = trees_meant c.in-Some.attributes in
    let f : Frame = record { opened = Annotates c.args.at c.in-Some.text c.in-Some.attributes; from = c.len-from.result; after = c.args.after } in
    λ t v.
    let h = here t v c.args.walk.now in
    less_by (here t v c.open.new.walk) (record h { frames = h.frames ++ f ∷ []; rest = trees_meant c.in-Some.text }) c.open.result _ (c.open.ensures.opened t v)
    (omega (arith, frames_push h.frames f, ap sizes c.in-Some.ensures.alone, ap sizes (split_more (trees_meant c.args.arguments) attributes text c.in-Some.ensures.first)))
