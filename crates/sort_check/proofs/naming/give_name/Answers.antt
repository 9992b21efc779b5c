-- One name for a term.
use Rattle.std.proofs.Common.{◌≡◌, Bool, true, false, not, [], ◌∷◌, ◌++◌, All, refl, sym, ap, ◌∙◌, subst}
use Rattle.std.specs.Prelude.{Err}
use Rattle.std.proofs.lemmas.List.Elements.{All-nil}
use Rattle.std.proofs.lemmas.Bool.{false≢true, not-true}
use Rattle.spec_reading.specs.Reading.{naming}
use Rattle.smt_sexpr.specs.Views.{word_view}
use Rattle.spec_sorts.specs.Signatures.{with_definitions}
use Rattle.sort_check.specs.Walks.{AllMean}
use Rattle.term_core.specs.Tables.{term_at}
use Rattle.term_core.specs.Symbols.{HasSortIn, sorts_meant}
use Rattle.term_reader.specs.declared.scope.Macro.{Macro}
use Rattle.term_reader.specs.Names.{setting_meant, located_of}
use Rattle.term_reader.specs.Scopes.{IsMacro}
use Rattle.sort_check.specs.Naming.{NamesMean, annotated_meant}
use Rattle.sort_check.proofs.Widening.{widens_same, widens_is}
use Rattle.sort_check.proofs.Kept.{mean_push}
use Rattle.sort_check.proofs.NamesGiven.{is_taken, fresh_is, not_given, may_not, is_given, given_means}
use Rattle.sort_check.proofs.naming.give_name.Goals as goal

not_false : (b : Bool) → not b ≡ false → b ≡ true
not_false true h = refl
not_false false h = absurd (false≢true (sym h))

pub returns-then-not-term-clause-ends : goal.returns-then-not-term-clause-ends
returns-then-not-term-clause-ends c =
    let w = setting_meant c.args.setting in
    let x = word_view c.args.word in
    let t = c.args.table.now in
    λ s text h.
    may_not w s t (annotated_meant t text c.args.term) x c.in-Ok.name.now (sym (fresh_is w (is_taken w s t (annotated_meant t text c.args.term) x) c.is_known-taken.result x (c.is_known-taken.ensures t s h)) ∙ sym c.in-Ok.ensures) (not-true c.args.term.may_name c.if-not-term.true)
    ∙ ap (λ f. Err (located_of f)) (sym c.fault_at.ensures)

pub returns-then-not-term-clause-widens : goal.returns-then-not-term-clause-widens
returns-then-not-term-clause-widens c = widens_same c.args.scope.now

pub returns-in-Err-name_function-clause-widens : goal.returns-in-Err-name_function-clause-widens
returns-in-Err-name_function-clause-widens c = widens_is c.args.scope.now c.name_function.new.self c.in-Err-name_function.ensures.same

pub returns-in-Err-clause-ends : goal.returns-in-Err-clause-ends
returns-in-Err-clause-ends c =
    let w = setting_meant c.args.setting in
    let x = word_view c.args.word in
    let t = c.args.table.now in
    λ s text h.
    not_given w s t (annotated_meant t text c.args.term) x (located_of c.in-Err.fault) (sym (fresh_is w (is_taken w s t (annotated_meant t text c.args.term) x) c.is_known-taken.result x (c.is_known-taken.ensures t s h)) ∙ sym c.in-Err.ensures)

pub returns-in-Err-clause-widens : goal.returns-in-Err-clause-widens
returns-in-Err-clause-widens c = widens_same c.args.scope.now

pub returns-in_default-push-clause-ends : goal.returns-in_default-push-clause-ends
returns-in_default-push-clause-ends c =
    let w = setting_meant c.args.setting in
    let x = word_view c.args.word in
    let t = c.args.table.now in
    let v = c.args.scope.now in
    let id = c.args.term.id in
    let m : Macro = record { parameters = c.new.result; result = c.sort.result; body = id } in
    λ s text h.
    let a = annotated_meant t text c.args.term in
    let n = c.in-Ok.name.now in
    let fresh = sym (fresh_is w (is_taken w s t a x) c.is_known-taken.result x (c.is_known-taken.ensures t s h)) ∙ sym c.in-Ok.ensures in
    let macro : IsMacro t m (naming n a) = record {
      parameters_there = subst (λ ss. All (HasSortIn t.sorts) ss) (sym c.new.ensures.items) (All-nil (HasSortIn t.sorts));
      parameters = ap (sorts_meant t.sorts) c.new.ensures.items;
      result_there = c.sort.ensures.there;
      result = c.sort.ensures.means;
      body_there = c.requires;
      body = refl;
    } in
    record {
      made = naming n a ∷ [];
      read = is_given w s t a x n fresh (not_false c.args.term.may_name c.if-not-term.false);
      represents = subst (λ u. NamesMean t u (with_definitions s (naming n a ∷ []))) (sym c.in_default.ensures.added) (given_means w s t a x v h n fresh m macro c.each_name_means_something.ensures.functions);
      named = λ us k. subst (λ ids. AllMean t ids (us ++ term_at t id ∷ [])) (sym c.in_default-push.ensures.items) (mean_push t c.args.named.now.items id us (term_at t id) k c.requires refl);
    }
