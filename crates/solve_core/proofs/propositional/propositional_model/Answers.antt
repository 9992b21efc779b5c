-- That the tables of the truths are those of a model, whatever classes and numbers are given.
use Rattle.std.proofs.Common.{◌≡◌, ◌≢◌, ◌<◌, List, length, get_or, map, All, refl, sym, ap, ◌∙◌, subst, arith}
use Rattle.std.specs.Prelude.{replicate}
use Rattle.std.specs.List.{AllPairs}
use Rattle.std.proofs.lemmas.List.{length-map, length-replicate}
use Rattle.std.proofs.lemmas.Result.{IfOk-weaker}
use Rattle.std.proofs.lemmas.List.Elements.{Contains-get_or}
use Rattle.spec_numbers.specs.Fractions.{Fraction, zero_fraction}
use Rattle.spec_tableaux.specs.Numbers.{numbers}
use Rattle.spec_sorts.specs.Terms.{Term}
use Rattle.spec_sorts.specs.Subsets.{IsClosed}
use Rattle.spec_arithmetic.specs.Numbers.{number_at}
use Rattle.spec_valuations.specs.Classes.{class_in}
use Rattle.spec_valuations.specs.Saturation.{TheoryValues, values_of}
use Rattle.ratio128.specs.Meant.{fraction}
use Rattle.term_core.specs.declared.ids.TermId.{TermId}
use Rattle.term_core.specs.Symbols.{SymbolsView, AreDeclared}
use Rattle.term_core.specs.Tables.{clause_at}
use Rattle.search_model.specs.Models.{truths_of, IsModelOf}
use Rattle.search_loop.specs.declared.cdcl.Answer.TheVariants.{Sat}
use Rattle.search_loop.specs.Rounds.{ShowsAnswer}
use Rattle.search_loop.proofs.SearchReady.{held_in}
use Rattle.search_loop.proofs.SearchShows.{learning_shows}
use Rattle.solve_core.proofs.SearchMet.{nothing_assumed, has_model}
use Rattle.solve_core.proofs.SearchTruthsAlone.{zero_at, zeros_are, takes_none, saturated_here}
use Rattle.solve_core.proofs.propositional.propositional_model.Goals as goal

pub model_of-requires-clause-once : goal.model_of-requires-clause-once
model_of-requires-clause-once c = subst (λ (ids : List TermId). AllPairs (λ (i j : TermId). i ≢ j) ids) (sym c.deref.ensures.value) c.requires.search_saturated.1.ready.atoms_are.once

pub model_of-requires-clause-closed : goal.model_of-requires-clause-closed
model_of-requires-clause-closed c = subst (λ (ids : List TermId). IsClosed (clause_at c.args.table.now ids)) (sym c.deref.ensures.value) c.requires.search_saturated.1.ready.atoms_are.closed

pub model_of-requires-clause-known : goal.model_of-requires-clause-known
model_of-requires-clause-known c = subst (λ (ids : List TermId). All (λ (id : TermId). id.0 < c.args.search.now.trail.vars) ids) (sym c.deref.ensures.value) c.requires.search_saturated.1.ready.variables

pub model_of-requires-clause-literals : goal.model_of-requires-clause-literals
model_of-requires-clause-literals c = λ k d lt.
    let ls = c.args.search.now.trail.literals in
    held_in c.args.table.now c.args.search.now c.requires.search_saturated.1.ready (get_or ls k d) (Contains-get_or ls k d lt)

zero_is : numbers.zero.fraction ≡ zero_fraction
unfolding numbers
zero_is = refl

-- there is a class for each term
pub model_of-requires-clause-classes : goal.model_of-requires-clause-classes
model_of-requires-clause-classes c =
    let ids = c.args.search.now.terms.items in
    let all : c.len-count.result ≡ length ids = omega (arith, c.len-count.ensures, c.args.search.now.terms.ok.0) in
    ap length c.deref-2.ensures.value ∙ ap length (c.in_ok-classes.ensures.items_if_clones_equal (λ y same. same)) ∙ length-replicate c.len-count.result 0 ∙ all ∙ sym (ap length c.deref.ensures.value)

-- and a number
pub model_of-requires-clause-numbers : goal.model_of-requires-clause-numbers
model_of-requires-clause-numbers c =
    let ids = c.args.search.now.terms.items in
    let ns = c.in_ok-numbers.numbers.items in
    let all : c.len-count.result ≡ length ids = omega (arith, c.len-count.ensures, c.args.search.now.terms.ok.0) in
    let count : length ns ≡ length ids = sym (length-map ns fraction) ∙ ap length c.in_ok-numbers.ensures ∙ length-replicate c.len-count.result numbers.zero.fraction ∙ all in
    ap length c.deref-3.ensures.value ∙ count ∙ sym (ap length c.deref.ensures.value)

pub returns : goal.returns
returns c =
    let t = c.args.table.now in
    let x = c.args.search.now in
    let v = c.requires.search_saturated.0 in
    let h = c.requires.search_saturated.1 in
    let ids = x.terms.items in
    let terms = clause_at t ids in
    let ls = x.trail.literals in
    let plain = c.requires.propositional in
    let declared = subst (λ (d : SymbolsView). AreDeclared d.sorts d.symbols) c.symbols.ensures c.are_declared.ensures in
    let differ = c.ids_are_unique.ensures in
    let consistent = c.is_sound.ensures.consistent in
    let ns = c.deref-2.result.now in
    let of_numbers = map fraction c.deref-3.result.now in
    let all : c.len-count.result ≡ length ids = omega (arith, c.len-count.ensures, c.args.search.now.terms.ok.0) in
    let zeros : of_numbers ≡ map zero_at terms = ap (map fraction) c.deref-3.ensures.value ∙ c.in_ok-numbers.ensures ∙ ap (replicate c.len-count.result) zero_is ∙ zeros_are t ids c.len-count.result all in
    IfOk-weaker c.model_of.result (IsModelOf t ls c.deref.result.now ns of_numbers) (λ interp. ShowsAnswer t t x x (Sat interp)) (λ interp m problem earlier s apart.
    let one : IsModelOf t ls ids ns of_numbers interp = subst (λ (is : List TermId). IsModelOf t ls is ns of_numbers interp) c.deref.ensures.value m in
    let good : IsModelOf t ls ids ns (map zero_at terms) interp = subst (λ (qs : List Fraction). IsModelOf t ls ids ns qs interp) zeros one in
    let given : TheoryValues = record { truths = truths_of t ls; class = class_in terms ns; number = zero_at } in
    let point : Term → Fraction = number_at zero_at in
    let saturation = saturated_here t differ x v _ h consistent problem earlier s plain in
    let laws = c.saturated_propositional_searches_have_models.ensures in (
      has_model t ls ids ns (map zero_at terms) (values_of given) problem interp good
          (c.made_models_have_interpretations.ensures.represents t ls ids ns (map zero_at terms) interp declared.names_apart good)
          (c.made_models_are_those_of_numbers.ensures t ls ids ns zero_at interp (takes_none terms plain) good)
          (λ i by. laws.interprets t.symbols problem terms (truths_of t ls) point (class_in terms ns) i saturation by)
          (λ i by. laws.all t.symbols problem terms (truths_of t ls) point (class_in terms ns) i saturation by (nothing_assumed t x problem earlier s (truths_of t ls))),
      learning_shows t problem earlier x (Sat interp) (λ steps. steps) h.ready.right s apart,
    )) c.model_of.ensures
