-- What propagation adds to a trail, literal by literal.
use Rattle.std.proofs.Common.{◌≡◌, ◌≢◌, ℕ, ◌+◌, ◌-◌, ◌<◌, ◌≤◌, List, [], ◌∷◌, ◌++◌, length, get_or, take, map, Contains, Option, Some, None, inl, inr, refl, sym, ap, ◌∙◌, subst, arith, zero, suc}
use Rattle.std.proofs.lemmas.Bool.{cases_lt}
use Rattle.std.proofs.lemmas.List.{length-append, append-nil, append_assoc, map-append, get_or_append_left, get_or-append-add, take-append-le}
use Rattle.std.proofs.lemmas.List.Elements.{Contains-append_left}
use Rattle.std.proofs.Math.Seq.{take-append-add}
use Rattle.term_core.specs.declared.ids.Lit.{Lit}
use Rattle.clause_literals.specs.Literals.{lit_complement}
use Rattle.proof_log.specs.declared.premises.StepId.{StepId}
use Rattle.sat_trail.specs.Trails.{TrailView, no_lit, IsPushed}
use Rattle.clause_store.specs.Stores.{StoreView, no_step}
use Rattle.clause_store.specs.Propagating.{IsImplied, AddsImplied, Advances}

-- nothing is added
pub adds_none : (s : StoreView) (t : TrailView) → AddsImplied s t t
adds_none s t = record {
  more = [];
  why = [];
  literals = sym (append-nil t.literals);
  reasons = sym (append-nil t.reasons);
  paired = refl;
  levels = sym (append-nil t.levels);
  level = refl;
  implied = λ k lt. absurd (omega (arith, lt));
  vars = refl;
}

module _ (s : StoreView) (a b c : TrailView) (one : AddsImplied s a b) (two : AddsImplied s b c) where
  -- a later one's place among both
  implied_late : (j : ℕ) → j < length two.more → IsImplied s (a.literals ++ take (length one.more + j) (one.more ++ two.more)) (get_or (one.more ++ two.more) (length one.more + j) no_lit) (get_or (one.why ++ two.why) (length one.more + j) None)
  implied_late j lt =
      let held : b.literals ++ take j two.more ≡ a.literals ++ take (length one.more + j) (one.more ++ two.more)
      = ap (λ (xs : List Lit). xs ++ take j two.more) one.literals ∙ append_assoc a.literals one.more (take j two.more) ∙ ap (λ (xs : List Lit). a.literals ++ xs) (sym (take-append-add one.more two.more j)) in
      let reason : get_or two.why j None ≡ get_or (one.why ++ two.why) (length one.more + j) None
      = sym (get_or-append-add one.why two.why j None) ∙ ap (λ (n : ℕ). get_or (one.why ++ two.why) (n + j) None) one.paired in
      subst (λ (xs : List Lit). IsImplied s xs (get_or (one.more ++ two.more) (length one.more + j) no_lit) (get_or (one.why ++ two.why) (length one.more + j) None)) held
      (subst (λ (l : Lit). IsImplied s (b.literals ++ take j two.more) l (get_or (one.why ++ two.why) (length one.more + j) None)) (sym (get_or-append-add one.more two.more j no_lit))
      (subst (IsImplied s (b.literals ++ take j two.more) (get_or two.more j no_lit)) reason (two.implied j lt)))

  -- an earlier one's
  implied_early : (k : ℕ) → k < length one.more → IsImplied s (a.literals ++ take k (one.more ++ two.more)) (get_or (one.more ++ two.more) k no_lit) (get_or (one.why ++ two.why) k None)
  implied_early k lt =
      subst (λ (xs : List Lit). IsImplied s (a.literals ++ xs) (get_or (one.more ++ two.more) k no_lit) (get_or (one.why ++ two.why) k None)) (sym (take-append-le k one.more two.more (omega (arith, lt))))
      (subst (λ (l : Lit). IsImplied s (a.literals ++ take k one.more) l (get_or (one.why ++ two.why) k None)) (sym (get_or_append_left one.more two.more no_lit k lt))
      (subst (IsImplied s (a.literals ++ take k one.more) (get_or one.more k no_lit)) (sym (get_or_append_left one.why two.why None k (omega (arith, lt, one.paired)))) (one.implied k lt)))

  -- one after the other
  pub adds_on : AddsImplied s a c
  adds_on = record {
    more = one.more ++ two.more;
    why = one.why ++ two.why;
    literals = two.literals ∙ ap (λ (xs : List Lit). xs ++ two.more) one.literals ∙ append_assoc a.literals one.more two.more;
    reasons = two.reasons ∙ ap (λ (xs : List (Option ℕ)). xs ++ two.why) one.reasons ∙ append_assoc a.reasons one.why two.why;
    paired = omega (arith, one.paired, two.paired, length-append one.why two.why, length-append one.more two.more);
    levels = two.levels ∙ ap (λ (xs : List ℕ). xs ++ map (λ (_ : Lit). b.level) two.more) one.levels ∙ append_assoc a.levels (map (λ (_ : Lit). a.level) one.more) (map (λ (_ : Lit). b.level) two.more)
        ∙ ap (λ (n : ℕ). a.levels ++ (map (λ (_ : Lit). a.level) one.more ++ map (λ (_ : Lit). n) two.more)) one.level
        ∙ ap (λ (xs : List ℕ). a.levels ++ xs) (sym (map-append (λ (_ : Lit). a.level) one.more two.more));
    level = two.level ∙ one.level;
    implied = λ k lt. elim (cases_lt k (length one.more)) [
      | inl early ↦ implied_early k early
      | inr le ↦
          let is : length one.more + (k - length one.more) ≡ k = omega (arith, le) in
          subst (λ (n : ℕ). IsImplied s (a.literals ++ take n (one.more ++ two.more)) (get_or (one.more ++ two.more) n no_lit) (get_or (one.why ++ two.why) n None)) is
          (implied_late (k - length one.more) (omega (arith, lt, le, length-append one.more two.more)))
    ];
    vars = two.vars ∙ one.vars;
  }

-- a clause all but one of whose literals are false implies this one
pub adds_one : (s : StoreView) (a b : TrailView) (n : ℕ) (l : Lit) (step : StepId) → n < length s.clauses → Contains (get_or s.clauses n []) l → ((m : Lit) → Contains (get_or s.clauses n []) m → m ≢ l → Contains a.literals (lit_complement m))
    → step ≡ get_or s.steps n no_step → IsPushed a l (Some step.0) a.level b → AddsImplied s a b
adds_one s a b n l step lt there others e p = record {
  more = l ∷ [];
  why = Some step.0 ∷ [];
  literals = p.literals;
  reasons = p.reasons;
  paired = refl;
  levels = p.levels;
  level = p.level;
  implied = one;
  vars = p.vars;
}
  where
    first : IsImplied s (a.literals ++ []) l (Some step.0)
    first = record {
      number = n;
      there = lt;
      reason_is = ap (λ (x : StepId). Some x.0) e;
      has_it = there;
      others_false = λ m c d. subst (λ (xs : List Lit). Contains xs (lit_complement m)) (sym (append-nil a.literals)) (others m c d);
    }

    one : (k : ℕ) → k < 1 → IsImplied s (a.literals ++ take k (l ∷ [])) (get_or (l ∷ []) k no_lit) (get_or (Some step.0 ∷ []) k None)
    one zero lt = first
    one (suc k) lt = absurd (omega (arith, lt))

-- ---- and marks none

pub advances_none : (s : StoreView) (t : TrailView) → Advances s t t
advances_none s t = (adds_none s t, refl)

pub advances_on : (s : StoreView) (a b c : TrailView) → Advances s a b → Advances s b c → Advances s a c
advances_on s a b c one two = (adds_on s a b c one.0 two.0, two.1 ∙ one.1)

-- what held holds
pub holds_on : (s : StoreView) (a b : TrailView) → AddsImplied s a b → (l : Lit) → Contains a.literals l → Contains b.literals l
holds_on s a b g l x = subst (λ (xs : List Lit). Contains xs l) (sym g.literals) (Contains-append_left a.literals g.more l x)

-- a prefix that was there is the same
pub same_front : (s : StoreView) (a b : TrailView) (n : ℕ) → AddsImplied s a b → n ≤ length a.literals → take n b.literals ≡ take n a.literals
same_front s a b n g le = ap (take n) g.literals ∙ take-append-le n a.literals g.more le

-- clauses and steps alone tell what is implied
pub adds_same : (s t : StoreView) (a b : TrailView) → t.clauses ≡ s.clauses → t.steps ≡ s.steps → AddsImplied t a b → AddsImplied s a b
adds_same s t a b ec es g = record {
  more = g.more;
  why = g.why;
  literals = g.literals;
  reasons = g.reasons;
  paired = g.paired;
  levels = g.levels;
  level = g.level;
  implied = λ k lt. go (g.implied k lt);
  vars = g.vars;
}
  where
    go : {held : List Lit} {l : Lit} {r : Option ℕ} → IsImplied t held l r → IsImplied s held l r
    go {held} {l} {r} i = record {
      number = i.number;
      there = omega (arith, i.there, ap length ec);
      reason_is = i.reason_is ∙ ap (λ (xs : List StepId). Some (get_or xs i.number no_step).0) es;
      has_it = subst (λ (cs : List (List Lit)). Contains (get_or cs i.number []) l) ec i.has_it;
      others_false = subst (λ (cs : List (List Lit)). (m : Lit) → Contains (get_or cs i.number []) m → m ≢ l → Contains held (lit_complement m)) ec i.others_false;
    }
