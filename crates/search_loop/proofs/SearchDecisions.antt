-- That each decision was made at quiet: after propagation, with a decision more, and where a clause was learned.
use Rattle.std.proofs.Common.{◌≡◌, ℕ, ◌+◌, ◌-◌, ◌<◌, ◌≤◌, List, [], ◌∷◌, ◌++◌, length, get_or, take, Contains, inl, inr, sym, ap, ◌∙◌, subst, arith}
use Rattle.std.specs.Prelude.{Option, None}
use Rattle.std.proofs.lemmas.Bool.{cases_lt}
use Rattle.std.proofs.lemmas.List.{length-append, get_or_append_left, get_or-append-add, take-append-le, take-take, get_or-take, length-take-le}
use Rattle.std.proofs.lemmas.List.Elements.{Contains-push_cases}
use Rattle.std.proofs.Math.Seq.{get_or-append_seam, take-append_seam}
use Rattle.term_core.specs.declared.ids.TermId.{TermId}
use Rattle.term_core.specs.declared.ids.Lit.{Lit}
use Rattle.clause_literals.specs.Statuses.{PropagatesNothing}
use Rattle.sat_trail.specs.Trails.{TrailView, no_lit, HasSame, empty as no_trail, IsPushed, IsCutTo}
use Rattle.clause_store.specs.Stores.{StoreView}
use Rattle.clause_store.specs.Propagating.{AddsImplied, IsPropagated}
use Rattle.conflict_learn.proofs.Following.{no_reason}
use Rattle.search_loop.specs.Search.{AreDecided}

-- a trail of no literals has no decision
pub decided_first : (atoms : List TermId) (clauses : List (List Lit)) (v : TrailView) → HasSame no_trail v → AreDecided atoms clauses v
decided_first atoms clauses v h = record { quiet = λ p lt none. absurd (omega (arith, lt, ap length h.literals)); of_atoms = λ p lt none. absurd (omega (arith, lt, ap length h.literals)) }

module _ (atoms : List TermId) (clauses : List (List Lit)) (a b : TrailView) (paired : length a.reasons ≡ length a.literals) (h : AreDecided atoms clauses a) (more : List Lit) (why : List (Option ℕ)) (literals : b.literals ≡ a.literals ++ more) (reasons : b.reasons ≡ a.reasons ++ why) where
  -- what was there, is
  module _ (p : ℕ) (early : p < length a.literals) where
    front : take p a.literals ≡ take p b.literals
    front = sym (take-append-le p a.literals more (omega (arith, early))) ∙ ap (take p) (sym literals)

    literal : get_or a.literals p no_lit ≡ get_or b.literals p no_lit
    literal = sym (get_or_append_left a.literals more no_lit p early) ∙ ap (λ (xs : List Lit). get_or xs p no_lit) (sym literals)

    reason : get_or a.reasons p None ≡ get_or b.reasons p None
    reason = sym (get_or_append_left a.reasons why None p (omega (arith, early, paired))) ∙ ap (λ (xs : List (Option ℕ)). get_or xs p None) (sym reasons)

  -- of a later one the reason
  late : (p : ℕ) → length a.literals ≤ p → get_or b.reasons p None ≡ get_or why (p - length a.literals) None
  late p le =
      let is : length a.reasons + (p - length a.literals) ≡ p = omega (arith, le, paired) in
      ap (λ (xs : List (Option ℕ)). get_or xs p None) reasons ∙ ap (λ (n : ℕ). get_or (a.reasons ++ why) n None) (sym is) ∙ get_or-append-add a.reasons why (p - length a.literals) None

  -- the decisions are those that were there, and those of later places
  decided_with : ((p : ℕ) → length a.literals ≤ p → p < length b.literals → get_or why (p - length a.literals) None ≡ None → IsPropagated clauses (take p b.literals) × Contains atoms (get_or b.literals p no_lit).term) → AreDecided atoms clauses b
  decided_with each = record {
    quiet = λ p lt none. elim (cases_lt p (length a.literals)) [
      | inl early ↦ subst (IsPropagated clauses) (front p early) (h.quiet p early (reason p early ∙ none))
      | inr from ↦ (each p from lt (sym (late p from) ∙ none)).0
    ];
    of_atoms = λ p lt none. elim (cases_lt p (length a.literals)) [
      | inl early ↦ subst (λ (l : Lit). Contains atoms l.term) (literal p early) (h.of_atoms p early (reason p early ∙ none))
      | inr from ↦ (each p from lt (sym (late p from) ∙ none)).1
    ];
  }

-- propagation decides nothing
pub decided_propagated : (atoms : List TermId) (s : StoreView) (a b : TrailView) → length a.reasons ≡ length a.literals → AddsImplied s a b → AreDecided atoms s.clauses a → AreDecided atoms s.clauses b
decided_propagated atoms s a b paired x h = decided_with atoms s.clauses a b paired h x.more x.why x.literals x.reasons (λ p from lt none.
    let k = p - length a.literals in
    let small : k < length x.more = omega (arith, from, lt, ap length x.literals, length-append a.literals x.more) in
    absurd (no_reason (get_or x.why k None) _ none (x.implied k small).reason_is))

-- a literal is decided where nothing follows
pub decided_more : (atoms : List TermId) (clauses : List (List Lit)) (a b : TrailView) (l : Lit) (n : ℕ) → length a.reasons ≡ length a.literals → IsPushed a l None n b → IsPropagated clauses a.literals → Contains atoms l.term → AreDecided atoms clauses a → AreDecided atoms clauses b
decided_more atoms clauses a b l n paired x quiet mentioned h = decided_with atoms clauses a b paired h (l ∷ []) (None ∷ []) x.literals x.reasons (λ p from lt none.
    let is : p ≡ length a.literals = omega (arith, from, lt, ap length x.literals, length-append a.literals (l ∷ [])) in
    let front : a.literals ≡ take p b.literals = sym (take-append_seam a.literals (l ∷ [])) ∙ (λ i. take (sym is i) (sym x.literals i)) in
    let last : l ≡ get_or b.literals p no_lit = sym (get_or-append_seam a.literals l [] no_lit) ∙ (λ i. get_or (sym x.literals i) (sym is i) no_lit) in
    (subst (IsPropagated clauses) front quiet, subst (λ (m : Lit). Contains atoms m.term) last mentioned))

-- what is quiet is so with a clause more from which nothing follows
quiet_more : (clauses : List (List Lit)) (c held : List Lit) → IsPropagated clauses held → PropagatesNothing held c → IsPropagated (clauses ++ c ∷ []) held
quiet_more clauses c held quiet s d i = elim (Contains-push_cases clauses c d i) [ inl was ↦ quiet d was | inr is ↦ subst (λ (x : List Lit). PropagatesNothing held x) is s ]

-- a clause comes from which nothing follows before each decision
pub decided_wider : (atoms : List TermId) (clauses : List (List Lit)) (c : List Lit) (v : TrailView) → ((p : ℕ) → p < length v.literals → get_or v.reasons p None ≡ None → PropagatesNothing (take p v.literals) c)
    → AreDecided atoms clauses v → AreDecided atoms (clauses ++ c ∷ []) v
decided_wider atoms clauses c v stays_quiet h = record { quiet = λ p lt none. quiet_more clauses c (take p v.literals) (h.quiet p lt none) (stays_quiet p lt none); of_atoms = h.of_atoms }

-- a clause is learned, and the literals of higher levels go
pub decided_learned : (atoms : List TermId) (clauses : List (List Lit)) (c : List Lit) (a b : TrailView) (n : ℕ) → length a.levels ≡ length a.literals
    → ((p : ℕ) → p < length a.literals → get_or a.reasons p None ≡ None → get_or a.levels p 0 ≤ n → PropagatesNothing (take p a.literals) c)
    → IsCutTo a n b → AreDecided atoms clauses a → AreDecided atoms (clauses ++ c ∷ []) b
decided_learned atoms clauses c a b n paired stays_quiet x h = record {
  quiet = λ p lt none.
      let small = early p lt in
      let was = reason p small ∙ none in
      subst (IsPropagated (clauses ++ c ∷ [])) (front p small)
      (quiet_more clauses c (take p a.literals) (h.quiet p (inside p small) was) (stays_quiet p (inside p small) was (x.below p small)));
  of_atoms = λ p lt none.
      let small = early p lt in
      subst (λ (l : Lit). Contains atoms l.term) (literal p small) (h.of_atoms p (inside p small) (reason p small ∙ none));
}
  where
    early : (p : ℕ) → p < length b.literals → p < x.kept
    early p lt = omega (arith, lt, ap length x.literals, length-take-le x.kept a.literals x.within)

    inside : (p : ℕ) → p < x.kept → p < length a.literals
    inside p small = omega (arith, small, x.within)

    front : (p : ℕ) → p < x.kept → take p a.literals ≡ take p b.literals
    front p small = sym (take-take p x.kept a.literals (omega (arith, small))) ∙ ap (take p) (sym x.literals)

    literal : (p : ℕ) → p < x.kept → get_or a.literals p no_lit ≡ get_or b.literals p no_lit
    literal p small = sym (get_or-take x.kept a.literals p no_lit small) ∙ ap (λ (xs : List Lit). get_or xs p no_lit) (sym x.literals)

    reason : (p : ℕ) → p < x.kept → get_or a.reasons p None ≡ get_or b.reasons p None
    reason p small = sym (get_or-take x.kept a.reasons p None small) ∙ ap (λ (xs : List (Option ℕ)). get_or xs p None) (sym x.reasons)
