-- Reasons along a trail: with more literals, with fewer, and with a clause more.
use Rattle.std.proofs.Common.{◌≡◌, ◌≢◌, ℕ, ◌+◌, ◌-◌, ◌<◌, ◌≤◌, List, [], ◌∷◌, ◌++◌, length, get_or, take, All, Contains, Option, Some, None, inl, inr, refl, sym, ap, ◌∙◌, subst, arith, zero, suc}
use Rattle.std.proofs.lemmas.Bool.{cases_lt}
use Rattle.std.proofs.lemmas.List.{length-append, get_or_append_left, get_or-append-add, take-append-le, take-take, length-take-le, get_or-take}
use Rattle.std.proofs.lemmas.List.Elements.{All-push}
use Rattle.std.proofs.Math.Seq.{take-append-add}
use Rattle.term_core.specs.declared.ids.Lit.{Lit}
use Rattle.term_core.specs.Tables.{TableView}
use Rattle.clause_literals.specs.Literals.{lit_complement, IsConsistent}
use Rattle.clause_literals.specs.Statuses.{IsFalsified, IsUnit, PropagatesNothing}
use Rattle.clause_literals.proofs.LiteralLists.{decide}
use Rattle.proof_log.specs.declared.premises.StepId.{StepId}
use Rattle.proof_log.specs.Logs.{Logged}
use Rattle.sat_trail.specs.Trails.{TrailView, no_lit, HasSame, IsPushed, IsCutTo}
use Rattle.sat_trail.proofs.ValueLaws.{not_some}
use Rattle.clause_store.specs.Stores.{StoreView, no_step, LiteralsAreBelow, IsAdded}
use Rattle.clause_store.specs.Propagating.{IsImplied, AddsImplied, AreImplied}

module _ (s : StoreView) (t u : TrailView) (h : AreImplied s t) where
  -- literals come after those that are there
  implied_after : (more : List Lit) (why : List (Option ℕ)) → u.literals ≡ t.literals ++ more → u.reasons ≡ t.reasons ++ why → length why ≡ length more
      → ((j r : ℕ) → j < length more → get_or why j None ≡ Some r → IsImplied s (t.literals ++ take j more) (get_or more j no_lit) (Some r)) → AreImplied s u
  implied_after more why le re paired each = record {
    paired = omega (arith, h.paired, paired, ap length le, length-append t.literals more, ap length re, length-append t.reasons why);
    implied = λ k r lt e. elim (cases_lt k (length t.literals)) [
      | inl early ↦
          let held : take k t.literals ≡ take k u.literals = sym (take-append-le k t.literals more (omega (arith, early))) ∙ ap (take k) (sym le) in
          let l : get_or t.literals k no_lit ≡ get_or u.literals k no_lit = sym (get_or_append_left t.literals more no_lit k early) ∙ ap (λ (xs : List Lit). get_or xs k no_lit) (sym le) in
          let was : get_or t.reasons k None ≡ Some r = sym (get_or_append_left t.reasons why None k (omega (arith, early, h.paired))) ∙ ap (λ (xs : List (Option ℕ)). get_or xs k None) (sym re) ∙ e in
          subst (λ (xs : List Lit). IsImplied s xs (get_or u.literals k no_lit) (Some r)) held (subst (λ (x : Lit). IsImplied s (take k t.literals) x (Some r)) l (h.implied k r early was))
      | inr from ↦
          let j = k - length t.literals in
          let is : length t.literals + j ≡ k = omega (arith, from) in
          late j r k is (omega (arith, lt, from, ap length le, length-append t.literals more)) e
    ];
  }
    where
      late : (j r k : ℕ) → length t.literals + j ≡ k → j < length more → get_or u.reasons k None ≡ Some r → IsImplied s (take k u.literals) (get_or u.literals k no_lit) (Some r)
      late j r k is lt e =
          let held : t.literals ++ take j more ≡ take k u.literals = sym (take-append-add t.literals more j) ∙ (λ i. take (is i) (sym le i)) in
          let l : get_or more j no_lit ≡ get_or u.literals k no_lit = sym (get_or-append-add t.literals more j no_lit) ∙ (λ i. get_or (sym le i) (is i) no_lit) in
          let reason : get_or why j None ≡ Some r = sym (get_or-append-add t.reasons why j None) ∙ ap (λ (n : ℕ). get_or (t.reasons ++ why) (n + j) None) h.paired ∙ (λ i. get_or (sym re i) (is i) None) ∙ e in
          subst (λ (xs : List Lit). IsImplied s xs (get_or u.literals k no_lit) (Some r)) held (subst (λ (x : Lit). IsImplied s (t.literals ++ take j more) x (Some r)) l (each j r lt reason))

  pub implied_decided : (l : Lit) (n : ℕ) → IsPushed t l None n u → AreImplied s u
  implied_decided l n p = implied_after (l ∷ []) (None ∷ []) p.literals p.reasons refl each
    where
      each : (j r : ℕ) → j < 1 → get_or {A = Option ℕ} (None ∷ []) j None ≡ Some r → IsImplied s (t.literals ++ take j (l ∷ [])) (get_or (l ∷ []) j no_lit) (Some r)
      each zero r lt e = absurd (not_some r e)
      each (suc j) r lt e = absurd (omega (arith, lt))

  pub implied_more : AddsImplied s t u → AreImplied s u
  implied_more a = implied_after a.more a.why a.literals a.reasons a.paired (λ j r lt e. subst (IsImplied s (t.literals ++ take j a.more) (get_or a.more j no_lit)) e (a.implied j lt))

  pub implied_cut : (n : ℕ) → IsCutTo t n u → AreImplied s u
  implied_cut n c = record {
    paired = omega (arith, size, ap length c.reasons, length-take-le c.kept t.reasons (omega (arith, c.within, h.paired)));
    implied = λ k r lt e.
        let small : k < c.kept = omega (arith, lt, size) in
        let held : take k t.literals ≡ take k u.literals = sym (take-take k c.kept t.literals (omega (arith, small))) ∙ ap (take k) (sym c.literals) in
        let l : get_or t.literals k no_lit ≡ get_or u.literals k no_lit = sym (get_or-take c.kept t.literals k no_lit small) ∙ ap (λ (xs : List Lit). get_or xs k no_lit) (sym c.literals) in
        let was : get_or t.reasons k None ≡ Some r = sym (get_or-take c.kept t.reasons k None small) ∙ ap (λ (xs : List (Option ℕ)). get_or xs k None) (sym c.reasons) ∙ e in
        subst (λ (xs : List Lit). IsImplied s xs (get_or u.literals k no_lit) (Some r)) held (subst (λ (x : Lit). IsImplied s (take k t.literals) x (Some r)) l (h.implied k r (omega (arith, small, c.within)) was));
  }
    where
      size : length u.literals ≡ c.kept
      size = ap length c.literals ∙ length-take-le c.kept t.literals c.within

  pub implied_same : HasSame t u → AreImplied s u
  implied_same e = record {
    paired = ap length e.reasons ∙ h.paired ∙ sym (ap length e.literals);
    implied = λ k r lt q.
        subst (λ (xs : List Lit). IsImplied s (take k xs) (get_or xs k no_lit) (Some r)) (sym e.literals)
        (h.implied k r (omega (arith, lt, ap length e.literals)) (ap (λ (xs : List (Option ℕ)). get_or xs k None) (sym e.reasons) ∙ q));
  }

-- a clause more
pub implied_with : (x : TableView) (log : List Logged) (id : StepId) (s n : StoreView) (t : TrailView) → length s.steps ≡ length s.clauses → AreImplied s t → IsAdded x log id s n → AreImplied n t
implied_with x log id s n t paired h a = record { paired = h.paired; implied = λ k r lt e. also (h.implied k r lt e) }
  where
    also : {held : List Lit} {l : Lit} {r : Option ℕ} → IsImplied s held l r → IsImplied n held l r
    also {held} {l} {r} i =
        let clause : get_or n.clauses i.number [] ≡ get_or s.clauses i.number [] = ap (λ (cs : List (List Lit)). get_or cs i.number []) a.clauses ∙ get_or_append_left s.clauses (a.clause ∷ []) [] i.number i.there in
        let step : get_or n.steps i.number no_step ≡ get_or s.steps i.number no_step = ap (λ (cs : List StepId). get_or cs i.number no_step) a.steps ∙ get_or_append_left s.steps (id ∷ []) no_step i.number (omega (arith, i.there, paired)) in
        record {
          number = i.number;
          there = omega (arith, i.there, ap length a.clauses, length-append s.clauses (a.clause ∷ []));
          reason_is = i.reason_is ∙ ap (λ (y : StepId). Some y.0) (sym step);
          has_it = subst (λ (c : List Lit). Contains c l) (sym clause) i.has_it;
          others_false = subst (λ (c : List Lit). (m : Lit) → Contains c m → m ≢ l → Contains held (lit_complement m)) (sym clause) i.others_false;
        }

-- the terms of a clause more are the table's
pub known_with : (x : TableView) (log : List Logged) (id : StepId) (s n : StoreView) (vars : ℕ) → LiteralsAreBelow s vars → IsAdded x log id s n → length x.terms ≤ vars → LiteralsAreBelow n vars
known_with x log id s n vars h a le = subst (All (All (λ (l : Lit). l.term.0 < vars))) (sym a.clauses)
    (All-push (All (λ (l : Lit). l.term.0 < vars)) s.clauses a.clause h (λ i l il. omega (arith, a.means.there i l il, le)))

-- what is quiet is neither false nor unit
module _ (held : List Lit) (consistent : IsConsistent held) (c : List Lit) where
  pub not_false : PropagatesNothing held c → IsFalsified held c → ⊥
  not_false (inl h) f = consistent h.literal h.holds (f h.literal h.there)
  not_false (inr h) f = h.one_open (f h.one h.has_one)

  pub not_unit : (l : Lit) → PropagatesNothing held c → IsUnit held c l → ⊥
  not_unit l (inl h) u = elim (decide h.literal l) [
    | inl e ↦ u.not_held (subst (Contains held) e h.holds)
    | inr o ↦ consistent h.literal h.holds (u.others_false h.literal h.there o)
  ]
  not_unit l (inr h) u = elim (decide h.one l) [
    | inl e ↦ elim (decide h.other l) [
      | inl f ↦ h.differ (e ∙ sym f)
      | inr o ↦ h.other_open (u.others_false h.other h.has_other o)
    ]
    | inr o ↦ h.one_open (u.others_false h.one h.has_one o)
  ]
