-- That the tables are those of a model.
use Rattle.std.proofs.Common.{◌≡◌, ◌≢◌, ◌<◌, ℕ, List, length, get_or, map, All, sym, ap, ◌∙◌, subst}
use Rattle.std.specs.List.{AllPairs}
use Rattle.std.proofs.lemmas.List.{length-map}
use Rattle.std.proofs.lemmas.Result.{IfOk-weaker}
use Rattle.std.proofs.lemmas.List.Elements.{Contains-get_or}
use Rattle.spec_numbers.specs.Fractions.{Fraction}
use Rattle.spec_simplex.specs.Numbers.{HoldsAt}
use Rattle.ratio128.specs.Meant.{fraction}
use Rattle.spec_sorts.specs.Literals.{Literal}
use Rattle.spec_sorts.specs.Subsets.{IsClosed}
use Rattle.spec_valuations.specs.Saturation.{values_of}
use Rattle.term_core.specs.declared.ids.TermId.{TermId}
use Rattle.term_core.specs.Symbols.{SymbolsView, AreDeclared}
use Rattle.term_core.specs.Tables.{term_at, clause_at, literal_at}
use Rattle.search_model.specs.Models.{truths_of, IsModelOf}
use Rattle.search_loop.specs.declared.cdcl.Answer.TheVariants.{Sat}
use Rattle.search_loop.specs.Rounds.{ShowsAnswer}
use Rattle.search_loop.proofs.SearchReady.{held_in}
use Rattle.search_loop.proofs.SearchShows.{learning_shows}
use Rattle.solve_core.proofs.SearchMet.{nothing_assumed, has_model}
use Rattle.solve_core.proofs.SearchModelled.{given, taken, saturated_here}
use Rattle.solve_core.proofs.modelling.model.Goals as goal

pub model_of-requires-clause-once : goal.model_of-requires-clause-once
model_of-requires-clause-once c = subst (λ (ids : List TermId). AllPairs (λ (i j : TermId). i ≢ j) ids) (sym c.deref.ensures.value) c.requires.search_saturated.1.ready.atoms_are.once

pub model_of-requires-clause-closed : goal.model_of-requires-clause-closed
model_of-requires-clause-closed c = subst (λ (ids : List TermId). IsClosed (clause_at c.args.table.now ids)) (sym c.deref.ensures.value) c.requires.search_saturated.1.ready.atoms_are.closed

pub model_of-requires-clause-known : goal.model_of-requires-clause-known
model_of-requires-clause-known c = subst (λ (ids : List TermId). All (λ (id : TermId). id.0 < c.args.search.now.trail.vars) ids) (sym c.deref.ensures.value) c.requires.search_saturated.1.ready.variables

pub model_of-requires-clause-literals : goal.model_of-requires-clause-literals
model_of-requires-clause-literals c = λ k d lt.
    let ls = c.args.search.now.trail.literals in
    held_in c.args.table.now c.args.search.now c.requires.search_saturated.1.ready (get_or ls k d) (Contains-get_or ls k d lt)

-- there is a class for each term
pub model_of-requires-clause-classes : goal.model_of-requires-clause-classes
model_of-requires-clause-classes c = ap length c.deref-2.ensures.value ∙ c.requires.search_saturated.2.values.count ∙ sym (ap length c.deref.ensures.value)

-- and a number
pub model_of-requires-clause-numbers : goal.model_of-requires-clause-numbers
model_of-requires-clause-numbers c =
    let t = c.args.table.now in
    let k = c.requires.search_saturated.2.values in
    let ids = c.args.search.now.terms.items in
    let ns = c.args.assigned_values.now.numbers.items in
    let are : length ns ≡ length ids = sym (length-map ns fraction) ∙ ap length k.are ∙ length-map (clause_at t ids) k.number ∙ length-map ids (term_at t) in
    ap length c.deref-3.ensures.value ∙ are ∙ sym (ap length c.deref.ensures.value)

pub returns : goal.returns
returns c =
    let t = c.args.table.now in
    let x = c.args.search.now in
    let v = c.requires.search_saturated.0 in
    let h = c.requires.search_saturated.1 in
    let k = c.requires.search_saturated.2 in
    let number = k.values.number in
    let ids = x.terms.items in
    let ns = c.args.assigned_values.now.classes.items in
    let terms = clause_at t ids in
    let ls = x.trail.literals in
    let held : List Literal = map (literal_at t) ls in
    let kept : All (HoldsAt number) held = subst (All (HoldsAt number)) (ap (map (literal_at t)) h.held) k.values.hold in
    let declared = subst (λ (d : SymbolsView). AreDeclared d.sorts d.symbols) c.symbols.ensures c.are_declared.ensures in
    let differ = c.ids_are_unique.ensures in
    let consistent = c.is_sound.ensures.consistent in
    let tell = k.values.tell in
    let of_numbers = map fraction c.deref-3.result.now in
    IfOk-weaker c.model_of.result (IsModelOf t ls c.deref.result.now c.deref-2.result.now of_numbers) (λ interp. ShowsAnswer t t x x (Sat interp)) (λ interp m problem earlier s apart.
    let one : IsModelOf t ls ids c.deref-2.result.now of_numbers interp = subst (λ (is : List TermId). IsModelOf t ls is c.deref-2.result.now of_numbers interp) c.deref.ensures.value m in
    let two : IsModelOf t ls ids ns of_numbers interp = subst (λ (is : List ℕ). IsModelOf t ls ids is of_numbers interp) c.deref-2.ensures.value one in
    let good : IsModelOf t ls ids ns (map number terms) interp = subst (λ (qs : List Fraction). IsModelOf t ls ids ns qs interp) (ap (map fraction) c.deref-3.ensures.value ∙ k.values.are) two in
    let place = c.listed_terms_have_their_places_class.ensures in
    let linear = c.terms_of_linear_checks_are_linear.ensures in
    let g = given t differ x v _ h consistent h.agrees ns tell problem earlier s place linear number k.values.reduced kept in
    let saturation = saturated_here t differ x v _ h consistent h.agrees ns tell problem earlier s place linear number k.values.reduced kept k.shared k.shares k.heads k.agree in
    let arguments = taken t differ x v _ h consistent h.agrees ns tell problem earlier s place linear number k.values.reduced kept k.shared k.shares k.heads k.agree in
    let assumed = nothing_assumed t x problem earlier s (truths_of t ls) in (
      has_model t ls ids ns (map number terms) (values_of g) problem interp good
          (c.made_models_have_interpretations.ensures.represents t ls ids ns (map number terms) interp declared.names_apart good)
          (c.made_models_are_those_of_numbers.ensures t ls ids ns number interp arguments good)
          (λ i by. c.searches_saturated_on_numbers_have_models.ensures.interprets t.symbols problem terms held g i saturation by)
          (λ i by. c.searches_saturated_on_numbers_have_models.ensures.all t.symbols problem terms held g i saturation by assumed),
      learning_shows t problem earlier x (Sat interp) (λ steps. steps) h.ready.right s apart,
    )) c.model_of.ensures
