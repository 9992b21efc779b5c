-- The height is one more than that of the deepest argument, or the term is not in place.
use Rattle.std.proofs.Common.{◌≡◌, suc, ◌+◌, ◌∙◌, arith}
use Rattle.spec_sorts.specs.Subsets.{arguments_of}
use Rattle.spec_proof_texts.specs.Plans.{height_of, greatest_height}
use Rattle.term_core.specs.Tables.{term_at, shape_of}
use Rattle.alethe_writer.proofs.Heights.{deepest_there, unwanted, too_many, too_deep, in_place_over}
use Rattle.alethe_writer.proofs.uses.height_at.Goals as goal

pub returns-then-not-wanted : goal.returns-then-not-wanted
returns-then-not-wanted c = unwanted _ _ c.args.places c.if-not-wanted.true

pub returns-then-places-ge-MOST_PLACES : goal.returns-then-places-ge-MOST_PLACES
returns-then-places-ge-MOST_PLACES c = too_many _ _ c.args.places c.if-places-ge-MOST_PLACES.true

pub returns-then-deepest-ge-MOST_LEVELS : goal.returns-then-deepest-ge-MOST_LEVELS
returns-then-deepest-ge-MOST_LEVELS c =
    let t = c.args.table.now in
    let d = c.greatest_height-deepest.result in
    let greatest = greatest_height (height_of t.terms c.args.heights.now) (arguments_of (term_at t c.args.id)) in
    let e : d ≡ greatest = deepest_there t c.args.heights.now c.args.id (shape_of c.node.result.now) c.as_slice.result.now d c.ids_are_unique.ensures c.requires.there c.requires.before c.node.ensures.means c.node.ensures.before c.as_slice.ensures c.greatest_height-deepest.ensures in
    too_deep c.args.wanted greatest c.args.places (omega (arith, e, c.if-deepest-ge-MOST_LEVELS.true))

pub returns : goal.returns
returns c =
    let t = c.args.table.now in
    let d = c.greatest_height-deepest.result in
    let greatest = greatest_height (height_of t.terms c.args.heights.now) (arguments_of (term_at t c.args.id)) in
    let e : d ≡ greatest = deepest_there t c.args.heights.now c.args.id (shape_of c.node.result.now) c.as_slice.result.now d c.ids_are_unique.ensures c.requires.there c.requires.before c.node.ensures.means c.node.ensures.before c.as_slice.ensures c.greatest_height-deepest.ensures in
    let one_more : d + 1 ≡ suc greatest = omega (arith, e) in
    one_more ∙ in_place_over c.args.wanted greatest c.args.places c.if-not-wanted.false c.if-places-ge-MOST_PLACES.false (omega (arith, e, c.if-deepest-ge-MOST_LEVELS.false))
