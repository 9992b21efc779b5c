-- Pair by pair.
use Rattle.std.proofs.Common.{◌≡◌, ◌+◌, ◌≤◌, ℕ, List, length, [], ◌∷◌, ◌++◌, take, get_or, map, sym, ap, ◌∙◌, subst, arith}
use Rattle.std.proofs.lemmas.List.Elements.{All-nil}
use Rattle.std.proofs.lemmas.List.{take_all, take_more, map-append}
use Rattle.spec_sorts.specs.Terms.{Symbol, Equal, pair, sort_of}
use Rattle.spec_sorts.specs.WellSorted.{IsFormulaOver}
use Rattle.term_core.specs.declared.ids.TermId.{TermId}
use Rattle.term_core.specs.Tables.{TableView, term_at}
use Rattle.term_core.proofs.TermsExtend.{term_at-kept}
use Rattle.proof_log.specs.Logs.{IsFormulaIn}
use Rattle.term_clauses.specs.SpokenTerms.{HasMore, no_id}
use Rattle.term_clauses.specs.Stating.{Widens}
use Rattle.term_clauses.proofs.Arguments.{Widens-self, Widens-trans}
use Rattle.term_clauses.proofs.Choosing.{term_kept, equality_formula}
use Rattle.term_clauses.proofs.Parts.{symbols_same}
use Rattle.term_clauses.proofs.Speaking.{more_none, more_pushed, more_trans, more_same}
use Rattle.solve_core.specs.Unspoken.{IsComparable, equality_in}
use Rattle.solve_core.proofs.equalities.equalities_of.Goals as goal

pub pairs-init : goal.pairs-init
pairs-init c =
    let t = c.args.table.now in
    record {
      wider = Widens-self t;
      more = subst (λ (ids : List TermId). HasMore t t [] ids []) (sym c.new-ids.ensures.items) (more_none t [] (All-nil (IsFormulaIn t)));
    }

-- two terms of one sort, over a table that has more
comparable_kept : (t u : TableView) → Widens t u → (x : TermId × TermId) → IsComparable t x → IsComparable u x
comparable_kept t u wider x h = record {
  one = term_kept t u wider x.0 h.one;
  other = term_kept t u wider x.1 h.other;
  sort = ap sort_of (term_at-kept t u wider.terms x.0 h.one.0) ∙ h.sort ∙ sym (ap sort_of (term_at-kept t u wider.terms x.1 h.other.0));
}

pub equality-requires : goal.equality-requires
equality-requires c =
    let k = c.pairs.pair-index in
    comparable_kept c.args.table.now c.pairs.table c.pairs.invariant.wider (get_or c.args.pairs.now k (no_id, no_id)) (c.requires.pairs k (no_id, no_id) c.pairs-test.true)

pub returns-in_err-id-clause-wider : goal.returns-in_err-id-clause-wider
returns-in_err-id-clause-wider c = Widens-trans c.args.table.now c.pairs.table c.equality.new.table c.pairs.invariant.wider c.equality.ensures.wider

pub returns-in_err-push-clause-wider : goal.returns-in_err-push-clause-wider
returns-in_err-push-clause-wider c = Widens-trans c.args.table.now c.pairs.table c.equality.new.table c.pairs.invariant.wider c.equality.ensures.wider

pub pairs-preserved : goal.pairs-preserved
pairs-preserved c =
    let t = c.args.table.now in
    let now = c.pairs.table in
    let u = c.equality.new.table in
    let k = c.pairs.pair-index in
    let xs = c.args.pairs.now in
    let x = get_or xs k (no_id, no_id) in
    let h = c.pairs.invariant in
    let old = c.requires.pairs k (no_id, no_id) c.pairs-test.true in
    let here = comparable_kept t now h.wider x old in
    let wider = c.equality.ensures.wider in
    let id = c.in_ok-id.id in
    let means = c.in_ok-id.ensures.means in
    let one : term_at now x.0 ≡ term_at t x.0 = term_at-kept t now h.wider.terms x.0 old.one.0 in
    let other : term_at now x.1 ≡ term_at t x.1 = term_at-kept t now h.wider.terms x.1 old.other.0 in
    let formula = equality_formula now.symbols (term_at now x.0) (term_at now x.1) here.one.1 here.other.1 here.sort in
    let formula_in : IsFormulaIn u id = (means.0, subst (λ (fs : List Symbol). IsFormulaOver fs (term_at u id)) (sym (symbols_same now u wider)) (subst (IsFormulaOver now.symbols) (sym means.1) formula)) in
    let is : term_at u id ≡ equality_in t x = means.1 ∙ (λ i. pair Equal (one i) (other i)) in
    let front = map (equality_in t) (take k xs) in
    let more : front ++ equality_in t x ∷ [] ≡ map (equality_in t) (take (k + 1) xs) = sym (ap (map (equality_in t)) (take_more xs k (no_id, no_id) c.pairs-test.true) ∙ map-append (equality_in t) (take k xs) (x ∷ [])) in
    record {
      wider = Widens-trans t now u h.wider wider;
      more = more_same t u [] c.push.new.self.items (front ++ equality_in t x ∷ []) (map (equality_in t) (take (k + 1) xs)) more
          (more_trans t now u [] c.pairs.ids.items c.push.new.self.items front (equality_in t x ∷ []) h.more
          (more_pushed now u wider c.pairs.ids.items c.push.new.self.items id (equality_in t x) h.more.formulas c.in_ok-push.ensures.items formula_in is));
    }

-- all of them came
all_came : (t u : TableView) (ids : List TermId) (xs : List (TermId × TermId)) (k : ℕ) → length xs ≤ k → HasMore t u [] ids (map (equality_in t) (take k xs)) → HasMore t u [] ids (map (equality_in t) xs)
all_came t u ids xs k ended h =
    let whole : take k xs ≡ xs = take_all k xs (omega (arith, ended)) in
    more_same t u [] ids (map (equality_in t) (take k xs)) (map (equality_in t) xs) (ap (map (equality_in t)) whole) h

pub returns-clause-formulas : goal.returns-clause-formulas
returns-clause-formulas c = c.pairs.invariant.more.formulas

pub returns-clause-are : goal.returns-clause-are
returns-clause-are c = (all_came c.args.table.now c.pairs.table c.pairs.ids.items c.args.pairs.now c.pairs.pair-index c.pairs-test.false c.pairs.invariant.more).same
