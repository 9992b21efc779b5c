-- What is held grows by what follows.
use Rattle.std.proofs.Common.{◌≡◌, ℕ, ◌<◌, ◌≤◌, Bool, true, false, List, [], ◌∷◌, ◌++◌, length, get_or, Contains, inl, inr, sym, ap, ◌∙◌, subst, refl, cond, arith, zero, suc}
use Rattle.std.proofs.lemmas.Bool.{false≢true, false_from_ne_true}
use Rattle.std.specs.List.{list_any}
use Rattle.std.proofs.lemmas.List.{append_assoc, append-nil, length-append}
use Rattle.std.proofs.lemmas.List.Elements.{Contains-push, Contains-push_cases, Contains-append_left}
use Rattle.std.proofs.lemmas.List.Folds.{Any-from_list_any, list_any_at}
use Rattle.spec_proofs.specs.Resolution.{Derives, unit, false_clause}
use Rattle.term_core.specs.declared.ids.Lit.{Lit}
use Rattle.clause_literals.specs.Literals.{lit_complement, has, IsConsistent}
use Rattle.clause_literals.specs.Statuses.{IsFalsified, IsUnit, IsSatisfied}
use Rattle.clause_literals.specs.Propagation.{LeadsToConflict, failing, untouched, GivesUnit, Advances}
use Rattle.clause_literals.proofs.LiteralLists.{decide, Contains-from_has, has-from_Contains}
use Rattle.clause_literals.proofs.Start.{consistent_more}

-- fewer fail a test that more pass
pub fail_less : {X : Type 0} (p q : X → Bool) → ((x : X) → p x ≡ true → q x ≡ true) → (xs : List X) → failing q xs ≤ failing p xs
fail_less p q more [] = omega arith
fail_less p q more (x ∷ xs) = go (fail_less p q more xs) (p x) (q x) (more x)
  where
    go : failing q xs ≤ failing p xs → (s t : Bool) → (s ≡ true → t ≡ true) → cond t (failing q xs) (suc (failing q xs)) ≤ cond s (failing p xs) (suc (failing p xs))
    go l true true h = l
    go l true false h = absurd (false≢true (h refl))
    go l false true h = omega arith
    go l false false h = omega arith

-- and fewer still where one passes that didn't
pub fail_fewer : {X : Type 0} (p q : X → Bool) → ((x : X) → p x ≡ true → q x ≡ true) → (xs : List X) (x : X) (k : ℕ) → k < length xs → get_or xs k x ≡ x → p x ≡ false → q x ≡ true → failing q xs < failing p xs
fail_fewer p q more [] c k l e was is = absurd (omega arith)
fail_fewer p q more (d ∷ ds) c zero l e was is =
    let h = fail_less p q more ds in
    rw (e, was, is) (omega (arith, h))
fail_fewer p q more (d ∷ ds) c (suc k) l e was is = go (fail_fewer p q more ds c k (omega arith) e was is) (p d) (q d) (more d)
  where
    go : failing q ds < failing p ds → (s t : Bool) → (s ≡ true → t ≡ true) → cond t (failing q ds) (suc (failing q ds)) < cond s (failing p ds) (suc (failing p ds))
    go r true true h = r
    go r true false h = absurd (false≢true (h refl))
    go r false true h = omega arith
    go r false false h = omega arith

-- whether a literal of the clause holds
abbrev pub touched : List Lit → List Lit → Bool
touched held c = list_any (has held) c

touched_by : (held c : List Lit) → IsSatisfied held c → touched held c ≡ true
touched_by held c t = list_any_at (has held) c t.there.0 t.literal t.there.1 (ap (has held) t.there.2 ∙ has-from_Contains held t.literal t.holds)

touching : (held c : List Lit) → touched held c ≡ true → IsSatisfied held c
touching held c e = let a = Any-from_list_any (has held) c e in record { literal = a.1; there = (a.0, a.2, a.3); holds = Contains-from_has held a.1 a.4 }

-- a unit clause wasn't touched
was_untouched : (held : List Lit) → IsConsistent held → (c : List Lit) (l : Lit) → IsUnit held c l → touched held c ≡ false
was_untouched held ok c l u = false_from_ne_true (touched held c) λ e.
    let t = touching held c e in
    elim (decide t.literal l) [ inl s ↦ u.not_held (subst (λ (x : Lit). Contains held x) s t.holds) | inr d ↦ ok t.literal t.holds (u.others_false t.literal t.there d) ]

-- nothing is added
pub advances_none : (premises : List (List Lit)) (held : List Lit) → Advances premises held held
advances_none premises held = record {
  added = [];
  is = sym (append-nil held);
  derived = λ start d. d;
  consistent = λ ok. ok;
  fewer = λ ok. omega arith;
}

module _ (premises : List (List Lit)) (old : List Lit) (c : List Lit) (l : Lit) (c_in : Contains premises c) (u : IsUnit old c l) where
  -- a list with more literals touches what it touched
  touched_more : (d : List Lit) → touched old d ≡ true → touched (old ++ l ∷ []) d ≡ true
  touched_more d e = let t = touching old d e in touched_by (old ++ l ∷ []) d (record { literal = t.literal; there = t.there; holds = Contains-append_left old (l ∷ []) t.literal t.holds })

  -- the literal of a unit clause leaves fewer clauses untouched
  fewer_one : IsConsistent old → untouched (old ++ l ∷ []) premises < untouched old premises
  fewer_one ok = fail_fewer (touched old) (touched (old ++ l ∷ [])) touched_more premises c c_in.0 c_in.1 c_in.2 (was_untouched old ok c l u) (touched_by (old ++ l ∷ []) c (record { literal = l; there = u.there; holds = Contains-push old l }))

  -- and may be added
  pub advances_one : Advances premises old (old ++ l ∷ [])
  advances_one = record {
    added = l ∷ [];
    is = refl;
    derived = λ start d m i. elim (Contains-push_cases old l m i) [
      | inl was ↦ d m was
      | inr e ↦ subst (λ (x : Lit). Derives lit_complement premises start x) e (unit c l c_in u.there (λ n j ne. d (lit_complement n) (u.others_false n j ne)))
    ];
    consistent = λ ok. consistent_more old l ok u.not_false;
    fewer = λ ok. let f = fewer_one ok in omega (arith, f, length-append old (l ∷ []));
  }

-- what one clause gives may be added
pub advances_by : (premises : List (List Lit)) (old new c : List Lit) → Contains premises c → GivesUnit c old new → Advances premises old new
advances_by premises old new c c_in (inl e) = subst (λ (h : List Lit). Advances premises old h) (sym e) (advances_none premises old)
advances_by premises old new c c_in (inr f) = subst (λ (h : List Lit). Advances premises old h) (sym f.2) (advances_one premises old c f.0 c_in f.1)

-- one after the other
pub advances_on : (premises : List (List Lit)) (old mid new : List Lit) → Advances premises old mid → Advances premises mid new → Advances premises old new
advances_on premises old mid new one two = record {
  added = one.added ++ two.added;
  is = two.is ∙ ap (λ (h : List Lit). h ++ two.added) one.is ∙ append_assoc old one.added two.added;
  derived = λ start d. two.derived start (one.derived start d);
  consistent = λ ok. two.consistent (one.consistent ok);
  fewer = λ ok. let f = one.fewer ok in let g = two.fewer (one.consistent ok) in omega (arith, f, g);
}

-- what was held is still held
pub held_on : (premises : List (List Lit)) (old new : List Lit) → Advances premises old new → (m : Lit) → Contains old m → Contains new m
held_on premises old new a m i = subst (λ (h : List Lit). Contains h m) (sym a.is) (Contains-append_left old a.added m i)

-- a false clause refutes what is held
pub refuted_by : (premises : List (List Lit)) (held c : List Lit) → Contains premises c → IsFalsified held c → LeadsToConflict premises held
refuted_by premises held c c_in f start d = false_clause c c_in (λ m i. d (lit_complement m) (f m i))

-- and what led to it
pub refuted_on : (premises : List (List Lit)) (old new : List Lit) → Advances premises old new → LeadsToConflict premises new → LeadsToConflict premises old
refuted_on premises old new a r start d = r start (a.derived start d)
