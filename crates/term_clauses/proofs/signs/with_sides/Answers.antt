-- One argument after the other comes to the clause.
use Rattle.std.proofs.Common.{◌≡◌, false, [], ◌∷◌, ◌++◌, List, map, take, get_or, ap, ◌∙◌, refl, arith}
use Rattle.spec_sorts.specs.Terms.{Term}
use Rattle.spec_sorts.specs.Subsets.{arguments_of}
use Rattle.spec_proofs.specs.declared.ArgumentLiteral.{ArgumentLiteral}
use Rattle.spec_rules.specs.Schemes.{side_of}
use Rattle.term_core.specs.declared.ids.TermId.{TermId}
use Rattle.term_core.specs.Tables.{term_at, AreIn}
use Rattle.term_core.proofs.TermsExtend.{term_at-kept}
use Rattle.term_clauses.proofs.Parts.{ComesBefore-kept}
use Rattle.term_clauses.proofs.Arguments.{Widens-self, Widens-trans, literal_there, literal_more, literals_more}
use Rattle.term_clauses.proofs.signs.with_sides.Goals as goal

-- what no number of sides means
abbrev no_side : ArgumentLiteral
no_side = record { place = 0; positive = false }

pub returns-in_err-push-clause-wider : goal.returns-in_err-push-clause-wider
returns-in_err-push-clause-wider c = Widens-self c.args.table.now

pub sides-init : goal.sides-init
sides-init c =
    let t = c.args.table.now in
    let none : AreIn t [] = λ k d lt. absurd (omega (arith, lt)) in
    let items : c.push.new.self.items ≡ [] ++ c.args.front ∷ [] = c.in_ok-push.ensures.items ∙ ap (λ (ids : List TermId). ids ++ c.args.front ∷ []) c.new-clause.ensures.items in
    record {
      wider = Widens-self t;
      there = literal_there t t (Widens-self t) [] c.push.new.self.items c.args.front items none c.requires.there.first.0;
      same = literal_more t t (Widens-self t) [] c.push.new.self.items c.args.front items none c.requires.there.first.0 [] (term_at t c.args.front) refl refl;
    }

pub sides-preserved : goal.sides-preserved
sides-preserved c =
    let t = c.args.table.now in
    let now = c.sides.table in
    let new = c.side.new.table in
    let k = c.sides.x-index in
    let sides = c.args.sides.now in
    let front = term_at t c.args.front in
    let args = arguments_of (term_at t c.args.id) in
    let h = c.sides.invariant in
    let n = c.in_ok-side.field-0 in
    let x = get_or sides k no_side in
    let made = c.in_ok-side.ensures in
    let items = c.in_ok-push-2.ensures.items in
    let here : term_at now c.args.id ≡ term_at t c.args.id = term_at-kept t now h.wider.terms c.args.id c.requires.there.there in
    let means : term_at new n ≡ side_of args x = made.means.1 ∙ ap (λ (u : Term). side_of (arguments_of u) x) here in
    record {
      wider = Widens-trans t now new h.wider made.wider;
      there = literal_there now new made.wider c.sides.clause.items c.push-in-sides.new.self.items n items h.there made.means.0;
      same = literal_more now new made.wider c.sides.clause.items c.push-in-sides.new.self.items n items h.there made.means.0 (front ∷ map (side_of args) (take k sides)) (side_of args x) h.same means ∙ literals_more (side_of args) front sides k no_side c.sides-test.true;
    }

pub side-requires-clause-arguments : goal.side-requires-clause-arguments
side-requires-clause-arguments c = (ComesBefore-kept c.args.table.now c.sides.table c.sides.invariant.wider c.args.id c.args.front c.requires.there).arguments
