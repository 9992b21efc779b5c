-- One argument after the other comes to the clause.
use Rattle.std.proofs.Common.{◌≡◌, ◌<◌, [], ◌∷◌, ◌++◌, List, length, map, take, get_or, ap, ◌∙◌, refl, sym, subst, arith}
use Rattle.spec_sorts.specs.Terms.{Term, no_term}
use Rattle.spec_sorts.specs.WellSorted.{IsFormulaOver}
use Rattle.spec_sorts.specs.Subsets.{arguments_of}
use Rattle.spec_rules.specs.Schemes.{signed_term}
use Rattle.term_core.specs.declared.ids.TermId.{TermId}
use Rattle.term_core.specs.Tables.{term_at, AreIn}
use Rattle.term_core.proofs.TermsExtend.{term_at-kept}
use Rattle.term_clauses.proofs.Parts.{ComesBefore-kept}
use Rattle.term_clauses.proofs.Arguments.{Widens-self, Widens-trans, literal_there, literal_more, literals_more}
use Rattle.term_clauses.proofs.signs.with_each.Goals as goal

pub returns-in_err-push-clause-wider : goal.returns-in_err-push-clause-wider
returns-in_err-push-clause-wider c = Widens-self c.args.table.now

pub places-init : goal.places-init
places-init c =
    let t = c.args.table.now in
    let none : AreIn t [] = λ k d lt. absurd (omega (arith, lt)) in
    let items : c.push.new.self.items ≡ [] ++ c.args.front ∷ [] = c.in_ok-push.ensures.items ∙ ap (λ (ids : List TermId). ids ++ c.args.front ∷ []) c.new-clause.ensures.items in
    record {
      wider = Widens-self t;
      there = literal_there t t (Widens-self t) [] c.push.new.self.items c.args.front items none c.requires.first.0;
      same = literal_more t t (Widens-self t) [] c.push.new.self.items c.args.front items none c.requires.first.0 [] (term_at t c.args.front) refl refl;
    }

pub places-preserved : goal.places-preserved
places-preserved c =
    let t = c.args.table.now in
    let now = c.places.table in
    let new = c.signed.new.table in
    let k = c.places.place in
    let p = c.args.positive in
    let front = term_at t c.args.front in
    let args = arguments_of (term_at t c.args.id) in
    let h = c.places.invariant in
    let n = c.in_ok-signed.field-0 in
    let made = c.in_ok-signed.ensures in
    let items = c.in_ok-push-2.ensures.items in
    let lt : k < length args = omega (arith, c.places-test.true, c.argument_count-count.ensures) in
    let here : term_at now c.args.id ≡ term_at t c.args.id = term_at-kept t now h.wider.terms c.args.id c.requires.there in
    let means : term_at new n ≡ signed_term p (get_or args k no_term) = made.means.1 ∙ ap (signed_term p) (c.argument-term.ensures.means ∙ ap (λ (u : Term). get_or (arguments_of u) k no_term) here) in
    record {
      wider = Widens-trans t now new h.wider made.wider;
      there = literal_there now new made.wider c.places.clause.items c.push-in-places.new.self.items n items h.there made.means.0;
      same = literal_more now new made.wider c.places.clause.items c.push-in-places.new.self.items n items h.there made.means.0 (front ∷ map (signed_term p) (take k args)) (signed_term p (get_or args k no_term)) h.same means ∙ literals_more (signed_term p) front args k no_term lt;
    }

pub signed-requires : goal.signed-requires
signed-requires c =
    let t = c.args.table.now in
    let now = c.places.table in
    let kept = ComesBefore-kept t now c.places.invariant.wider c.args.id c.args.front c.requires in
    let args = arguments_of (term_at t c.args.id) in
    let below : c.places.place < length args = omega (arith, c.places-test.true, c.argument_count-count.ensures) in
    let lt : c.places.place < length (arguments_of (term_at now c.args.id)) =
    subst (λ (u : Term). c.places.place < length (arguments_of u)) (sym (term_at-kept t now c.places.invariant.wider.terms c.args.id c.requires.there)) below in
    (c.argument-term.ensures.there, subst (IsFormulaOver now.symbols) (sym c.argument-term.ensures.means) (kept.arguments c.places.place no_term lt))
