-- Expressions that are listed one after the other, and what a check asks about.
use Rattle.std.proofs.Common.{◌≡◌, ◌<◌, ◌+◌, ℕ, List, [], ◌∷◌, ◌++◌, length, map, take, get_or, sym, ap, ◌∙◌, subst, append_assoc}
use Rattle.std.proofs.lemmas.List.{take_more, map_push, map-append, length-map}
use Rattle.std.proofs.lemmas.List.Elements.{All-append}
use Rattle.std.proofs.lemmas.Simd.{map-map}
use Rattle.spec_text.specs.Trees.{offset_of}
use Rattle.spec_commands.specs.Stack.{Assertion, signature_of, assertions_of}
use Rattle.term_core.specs.declared.ids.TermId.{TermId}
use Rattle.term_core.specs.Tables.{term_at, IsIn, AreIn, clause_at}
use Rattle.term_reader.specs.Scopes.{ScopeView, ScopeMeans}
use Rattle.assertion_stack.specs.declared.assuming.Assumed.{Assumed}
use Rattle.assertion_stack.specs.declared.stack.Stack.{Stack as CodeStack}
use Rattle.assertion_stack.specs.Assertions.{Written, as_written, offsets_of}
use Rattle.assertion_stack.specs.Stacks.{OverTable, over_table}
use Rattle.script_standing.specs.declared.standing.Expression.{Expression}
use Rattle.script_standing.specs.declared.standing.Standing.{Standing}
use Rattle.script_standing.specs.Loads.{IsLoaded}
use Rattle.script_standing.specs.Standings.{AddsExpressions, AreAsked, Stands}

-- one more at the end, by what is at its place
more_of : {A : Type 0} (f : Expression → A) (old made new : List Expression) (xs : List A) (k : ℕ) (d : A) (e : Expression) → k < length xs → new ≡ made ++ e ∷ [] → f e ≡ get_or xs k d → map f made ≡ map f old ++ take k xs
    → map f new ≡ map f old ++ take (k + 1) xs
more_of f old made new xs k d e lt is same h =
    ap (map f) is ∙ map_push f made e ∙ ap (λ ys. ys ++ f e ∷ []) h ∙ append_assoc (map f old) (take k xs) (f e ∷ [])
    ∙ ap (λ y. map f old ++ (take k xs ++ y ∷ [])) same ∙ ap (λ ys. map f old ++ ys) (sym (take_more xs k d lt))

pub adds_more : (old made new : List Expression) (ids : List TermId) (starts : List ℕ) (k : ℕ) (d : TermId) (n : ℕ) (e : Expression) → k < length ids → k < length starts → new ≡ made ++ e ∷ [] → e.term ≡ get_or ids k d → e.at ≡ get_or starts k n
    → AddsExpressions old (take k ids) (take k starts) made → AddsExpressions old (take (k + 1) ids) (take (k + 1) starts) new
adds_more old made new ids starts k d n e li ls is term at h = record {
  terms = more_of (λ (x : Expression). x.term) old made new ids k d e li is term h.terms;
  starts = more_of (λ (x : Expression). x.at) old made new starts k n e ls is at h.starts;
}

-- as many assumptions have their offsets
pub as_many : (text : List ℕ) (k : ℕ) (x : OverTable) (a : Assumed) → IsLoaded text k x a → length a.offsets.items ≡ length a.ids.items
as_many text k x a l =
    let n = length-map l.check.assumptions (λ (b : Assertion). offset_of b.text) in
    let m = length-map l.check.assumptions (λ (b : Assertion). b.term) in
    ap length l.starts ∙ n ∙ sym (sym (length-map a.ids.items (term_at x.table)) ∙ ap length l.assumed.terms ∙ m)

-- what was loaded and listed is what the check asks about
pub stands : (text : List ℕ) (k : ℕ) (s : Standing) (stack : CodeStack) (a : Assumed) → IsLoaded text k (over_table s.table stack) a → s.scope ≡ stack.scope → AreAsked stack a s.expressions.items → Stands text k s
stands text k s stack a l scope asked =
    let g = l.check in
    let states = l.represents.states in
    let written : map (λ (w : Written). w.at) stack.assertions.written ≡ offsets_of (assertions_of g.stack) = ap (map (λ (w : Written). w.at)) states.written ∙ map-map (λ (w : Written). w.at) (λ (b : Assertion). as_written b.text) (assertions_of g.stack) in
    record {
      check = g;
      current = l.current;
      scope = subst (λ (v : ScopeView). ScopeMeans s.table v (signature_of g.stack)) (sym scope) states.scope;
      symbols = states.symbols;
      inside = subst (AreIn s.table) (sym asked.terms) (All-append (IsIn s.table) stack.assertions.ids a.ids.items states.inside l.assumed.inside);
      terms =
          ap (clause_at s.table) asked.terms ∙ map-append (term_at s.table) stack.assertions.ids a.ids.items ∙ (λ i. states.terms i ++ l.assumed.terms i)
          ∙ sym (map-append (λ (b : Assertion). b.term) (assertions_of g.stack) g.assumptions);
      starts = asked.starts ∙ (λ i. written i ++ l.starts i) ∙ sym (map-append (λ (b : Assertion). offset_of b.text) (assertions_of g.stack) g.assumptions);
    }
