-- How a theory keeps up with a search that begins, or that grew at level 0.
use Rattle.std.proofs.Common.{◌≡◌, ◌≢◌, ◌++◌, ℕ, List, [], length, take, get_or, Option, sym, ap, ◌∙◌, subst, arith}
use Rattle.std.specs.Prelude.{None}
use Rattle.std.specs.List.{AllPairs}
use Rattle.spec_derivations.specs.Problems.{Problem}
use Rattle.term_core.specs.declared.ids.TermId.{TermId}
use Rattle.term_core.specs.declared.ids.Lit.{Lit}
use Rattle.term_core.specs.Tables.{TableView}
use Rattle.proof_log.specs.Theories.{Mark, TheoryView}
use Rattle.sat_trail.specs.Trails.{TrailView, HasSame}
use Rattle.search_loop.specs.declared.search.Search.{Search}
use Rattle.search_loop.specs.Asking.{KeepsUp, IsAsked}
use Rattle.search_loop.specs.Growing.{IsBegun}
use Rattle.search_loop.proofs.SearchTheories.{keeps_begun}

-- a theory that holds nothing keeps up with a search that begins
pub asked_begun : (t : TableView) (p : Problem) (x : Search) (v : TheoryView) → IsBegun t p [] x → v.held ≡ [] → v.watched ≡ x.terms.items → v.marks ≡ [] → IsAsked v x
asked_begun t p x v b held watched marks = record {
  keeps = keeps_begun v x.trail held marks b.empty b.level;
  terms = watched;
  fed = b.fed ∙ sym (ap length held);
}

-- with a trail of the same literals
pub keeps_same : (v : TheoryView) (a b : TrailView) → HasSame a b → KeepsUp v a → KeepsUp v b
keeps_same v a b same h =
    let count = ap length same.literals in
    let reason : (p : ℕ) → get_or b.reasons p None ≡ None → get_or a.reasons p None ≡ None = λ p none. subst (λ (rs : List (Option ℕ)). get_or rs p None ≡ None) same.reasons none in
    record {
      within = omega (arith, h.within, count);
      front = h.front ∙ ap (take (length v.held)) (sym same.literals);
      marked = h.marked ∙ sym same.level;
      starts = λ k p lt none at. h.starts k p (omega (arith, lt, count)) (reason p none) (ap (λ (ns : List ℕ). get_or ns p 0) (sym same.levels) ∙ at);
      reached = λ p lt none. h.reached p (omega (arith, lt, count)) (reason p none);
      watched = h.watched;
    }

-- where more is watched at level 0
pub keeps_watched : (v w : TheoryView) (a : TrailView) → w.held ≡ v.held → w.marks ≡ v.marks → a.level ≡ 0 → KeepsUp v a → KeepsUp w a
keeps_watched v w a held marks level h =
    let none : length w.marks ≡ 0 = ap length marks ∙ h.marked ∙ level in
    let keeps : (ls : List Lit) → ls ≡ v.held → KeepsUp (record { held = ls; watched = w.watched; marks = v.marks }) a = λ ls is. subst (λ (ms : List Lit). KeepsUp (record { held = ms; watched = w.watched; marks = v.marks }) a) (sym is) (record {
      within = h.within;
      front = h.front;
      marked = h.marked;
      starts = h.starts;
      reached = h.reached;
      watched = λ k d lt. absurd (omega (arith, lt, none, ap length marks));
    }) in
    subst (λ (ms : List Mark). KeepsUp (record { held = w.held; watched = w.watched; marks = ms }) a) (sym marks) (keeps w.held held)

-- a search grew that a theory kept up with, and it watches what came
pub asked_more : (v w : TheoryView) (x y : Search) → IsAsked v x → HasSame x.trail y.trail → y.trail.level ≡ 0 → y.fed ≡ x.fed → w.held ≡ v.held → w.marks ≡ v.marks → w.watched ≡ y.terms.items → IsAsked w y
asked_more v w x y asked same level fed held marks watched = record {
  keeps = keeps_watched v w y.trail held marks level (keeps_same v x.trail y.trail same asked.keeps);
  terms = watched;
  fed = fed ∙ asked.fed ∙ sym (ap length held);
}

-- what it watches and what came are numbers that stand once
pub once_watched : (watched ids more : List TermId) → watched ≡ ids → AllPairs (λ (i j : TermId). i ≢ j) (ids ++ more) → AllPairs (λ (i j : TermId). i ≢ j) (watched ++ more)
once_watched watched ids more is once = subst (λ (is : List TermId). AllPairs (λ (i j : TermId). i ≢ j) (is ++ more)) (sym is) once
