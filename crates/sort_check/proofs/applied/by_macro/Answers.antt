-- A definition before terms, by its parameters.
use Rattle.std.proofs.Common.{◌≡◌, Bool, true, false, arith, length, map, List, [], sym, ap, ◌∙◌, subst}
use Rattle.std.specs.Prelude.{Ok}
use Rattle.std.proofs.lemmas.Bool.Decides.{nat_tests}
use Rattle.std.proofs.lemmas.List.{length-map, nil_from_length}
use Rattle.spec_sorts.specs.Terms.{sort_of, same_sorts, is_sorted, filled}
use Rattle.spec_sorts.specs.Signatures.{Definition}
use Rattle.spec_reading.specs.Reading.{sorts_taken}
use Rattle.term_core.specs.declared.ids.TermId.{TermId}
use Rattle.term_core.specs.Symbols.{sort_meant, sorts_meant}
use Rattle.term_core.specs.declared.sorts.Sort.{Sort as TableSort}
use Rattle.term_core.specs.Tables.{TableView, term_at, clause_at}
use Rattle.term_walks.specs.Filling.{FillsAll}
use Rattle.term_reader.specs.declared.scope.Macro.{Macro}
use Rattle.term_reader.specs.Scopes.{IsMacro}
use Rattle.term_reader.proofs.Tables.{keeps_same}
use Rattle.term_reader.proofs.Applied.{other_count, other_sorts, those_sorts, other_length, same_length}
use Rattle.sort_check.proofs.Filling.{fills_all, filled_without}
use Rattle.sort_check.proofs.applied.by_macro.Goals as goal

-- as many sorts as parameters
long : (t : TableView) (m : Macro) (d : Definition) → IsMacro t m d → length (sorts_taken d) ≡ length m.parameters.items
long t m d is = ap length (sym is.parameters) ∙ length-map m.parameters.items (sort_meant t.sorts)

pub returns-then-ids-len : goal.returns-then-ids-len
returns-then-ids-len c =
    let t = c.args.table.now in
    let m = c.args.definition.now in
    let ids = c.args.ids.now in
    λ d is. record {
      keeps = keeps_same t;
      ends = rw c.fault_at.ensures (other_count (sorts_taken d) c.args.at (clause_at t ids) (filled (clause_at t ids) d.term)
          (other_length (clause_at t ids) (sorts_taken d) (length ids) (length m.parameters.items) (length-map ids (term_at t)) (long t m d is) (λ e. c.if-ids-len.true (omega (arith, e, c.len.ensures, m.parameters.ok.0)))));
    }

-- the sorts of arguments, by the code's look at them
taken : (t : TableView) (m : Macro) (d : Definition) (ids : List TermId) (sorts : List TableSort) (b c : Bool) → IsMacro t m d → sorts ≡ m.parameters.items → b ≡ same_sorts (sorts_meant t.sorts sorts) (map sort_of (clause_at t ids)) → b ≡ c
    → same_sorts (sorts_taken d) (map sort_of (clause_at t ids)) ≡ c
taken t m d ids sorts b c is same e f =
    ap (λ ss. same_sorts ss (map sort_of (clause_at t ids))) (sym (ap (sorts_meant t.sorts) same ∙ is.parameters)) ∙ sym e ∙ f

pub returns-then-not-have_sorts : goal.returns-then-not-have_sorts
returns-then-not-have_sorts c =
    let t = c.args.table.now in
    let m = c.args.definition.now in
    let ids = c.args.ids.now in
    λ d is. record {
      keeps = keeps_same t;
      ends = rw c.fault_at-then-not-have_sorts.ensures (other_sorts (sorts_taken d) c.args.at (clause_at t ids) (filled (clause_at t ids) d.term)
          (same_length (clause_at t ids) (sorts_taken d) (length ids) (length m.parameters.items) (length-map ids (term_at t)) (long t m d is) (omega (arith, c.if-ids-len.false, c.len.ensures, m.parameters.ok.0)))
          (taken t m d ids c.deref.result.now c.have_sorts.result false is c.deref.ensures.value c.have_sorts.ensures c.if-not-have_sorts.true));
    }

pub returns-then-is_empty : goal.returns-then-is_empty
returns-then-is_empty c =
    let t = c.args.table.now in
    let m = c.args.definition.now in
    let ids = c.args.ids.now in
    let u = c.requires.usable in
    λ d is.
    let count : length ids ≡ length m.parameters.items = omega (arith, c.if-ids-len.false, c.len.ensures, m.parameters.ok.0) in
    let sorts : sorts_taken u.0 ≡ [] = nil_from_length (sorts_taken u.0) (long t m u.0 u.1 ∙ sym count ∙ grind (arith, nat_tests, c.is_empty.ensures, c.if-is_empty.true)) in
    record {
      keeps = keeps_same t;
      ends = (
        is.body_there,
        those_sorts (sorts_taken d) c.args.at (clause_at t ids) (filled (clause_at t ids) d.term)
            (same_length (clause_at t ids) (sorts_taken d) (length ids) (length m.parameters.items) (length-map ids (term_at t)) (long t m d is) count)
            (taken t m d ids c.deref.result.now c.have_sorts.result true is c.deref.ensures.value c.have_sorts.ensures c.if-not-have_sorts.false)
            ∙ ap (λ v. Ok v) (ap (filled (clause_at t ids)) (sym is.body) ∙ ap (filled (clause_at t ids)) u.1.body
            ∙ filled_without (clause_at t ids) u.0.term (subst (λ ps. is_sorted ps u.0.term ≡ true) sorts u.2) ∙ sym u.1.body),
      );
    }

pub fill-requires-clause-fills : goal.fill-requires-clause-fills
fill-requires-clause-fills c =
    let t = c.args.table.now in
    let m = c.args.definition.now in
    let ids = c.args.ids.now in
    let u = c.requires.usable in
    subst (FillsAll (clause_at t ids)) (sym u.1.body)
    (fills_all (sorts_taken u.0) (clause_at t ids) (taken t m u.0 ids c.deref.result.now c.have_sorts.result true u.1 c.deref.ensures.value c.have_sorts.ensures c.if-not-have_sorts.false) u.0.term u.2)

pub returns-in-Ok : goal.returns-in-Ok
returns-in-Ok c =
    let t = c.args.table.now in
    let m = c.args.definition.now in
    let ids = c.args.ids.now in
    λ d is. record {
      keeps = record { extends = c.in-Ok.ensures.kept.0; declared = c.in-Ok.ensures.kept.1 };
      ends = (
        c.in-Ok.ensures.filled.0,
        those_sorts (sorts_taken d) c.args.at (clause_at t ids) (filled (clause_at t ids) d.term)
            (same_length (clause_at t ids) (sorts_taken d) (length ids) (length m.parameters.items) (length-map ids (term_at t)) (long t m d is) (omega (arith, c.if-ids-len.false, c.len.ensures, m.parameters.ok.0)))
            (taken t m d ids c.deref.result.now c.have_sorts.result true is c.deref.ensures.value c.have_sorts.ensures c.if-not-have_sorts.false)
            ∙ ap (λ u. Ok u) (ap (filled (clause_at t ids)) (sym is.body) ∙ sym c.in-Ok.ensures.filled.1),
      );
    }
