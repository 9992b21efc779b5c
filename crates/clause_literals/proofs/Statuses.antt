-- What one more literal does to the status of a clause.
use Rattle.std.proofs.Common.{◌≡◌, ◌≢◌, List, [], ◌∷◌, ◌++◌, Contains, sym, subst, refl}
use Rattle.std.proofs.lemmas.List.Elements.{Contains-push, Contains-append_left}
use Rattle.spec_text.proofs.Members.{each_pushed}
use Rattle.term_core.specs.declared.ids.Lit.{Lit}
use Rattle.clause_literals.specs.declared.status.ClauseStatus.{ClauseStatus}
use Rattle.clause_literals.specs.declared.status.ClauseStatus.TheVariants.{Falsified, Unit as Single, Unresolved, Satisfied}
use Rattle.clause_literals.specs.Literals.{lit_complement}
use Rattle.clause_literals.specs.Statuses.{IsUnit, IsUnresolved, IsSatisfied, HasStatus}

module _ (held : List Lit) (front : List Lit) (m : Lit) where
  in_more : (k : Lit) → Contains front k → Contains (front ++ m ∷ []) k
  in_more k i = Contains-append_left front (m ∷ []) k i

  open_more : IsUnresolved held front → IsUnresolved held (front ++ m ∷ [])
  open_more h = record { one = h.one; other = h.other; has_one = in_more h.one h.has_one; has_other = in_more h.other h.has_other; differ = h.differ; one_open = h.one_open; other_open = h.other_open }

  touched_more : IsSatisfied held front → IsSatisfied held (front ++ m ∷ [])
  touched_more h = record { literal = h.literal; there = in_more h.literal h.there; holds = h.holds }

  unit_more : (l : Lit) → (m ≢ l → Contains held (lit_complement m)) → IsUnit held front l → IsUnit held (front ++ m ∷ []) l
  unit_more l here h = record { there = in_more l h.there; not_held = h.not_held; not_false = h.not_false; others_false = each_pushed (λ k. k ≢ l → Contains held (lit_complement k)) front m h.others_false here }

  -- a literal that is false changes nothing
  pub false_more : (f : ClauseStatus) → Contains held (lit_complement m) → HasStatus held front f → HasStatus held (front ++ m ∷ []) f
  false_more Falsified here h = each_pushed (λ k. Contains held (lit_complement k)) front m h here
  false_more (Single l) here h = unit_more l (λ _. here) h
  false_more Unresolved here h = open_more h
  false_more Satisfied here h = touched_more h

  -- one that holds satisfies it
  pub true_more : Contains held m → IsSatisfied held (front ++ m ∷ [])
  true_more h = record { literal = m; there = Contains-push front m; holds = h }

  -- an open one after false ones
  pub first_open : (f : ClauseStatus) → f ≡ Falsified → (Contains held m → ⊥) → (Contains held (lit_complement m) → ⊥) → HasStatus held front f → IsUnit held (front ++ m ∷ []) m
  first_open f e no_m no_n h =
      let each = let P : ClauseStatus → Type 0 = HasStatus held front in subst P e h in
      record {
        there = Contains-push front m;
        not_held = no_m;
        not_false = no_n;
        others_false = each_pushed (λ k. k ≢ m → Contains held (lit_complement k)) front m (λ k i _. each k i) (λ ne. absurd (ne refl));
      }

  -- the open one again
  pub same_open : (f : ClauseStatus) (l : Lit) → f ≡ Single l → l ≡ m → HasStatus held front f → IsUnit held (front ++ m ∷ []) l
  same_open f l e s h = unit_more l (λ ne. absurd (ne (sym s))) (let Q : ClauseStatus → Type 0 = HasStatus held front in subst Q e h)

  -- a second open one
  pub two_open : (f : ClauseStatus) (l : Lit) → f ≡ Single l → l ≢ m → (Contains held (lit_complement m) → ⊥) → HasStatus held front f → IsUnresolved held (front ++ m ∷ [])
  two_open f l e differ no_n h =
      let u : IsUnit held front l = let P : ClauseStatus → Type 0 = HasStatus held front in subst P e h in
      record { one = l; other = m; has_one = in_more l u.there; has_other = Contains-push front m; differ = differ; one_open = u.not_false; other_open = no_n }

  pub still_open : (f : ClauseStatus) → f ≡ Unresolved → HasStatus held front f → IsUnresolved held (front ++ m ∷ [])
  still_open f e h = open_more (let P : ClauseStatus → Type 0 = HasStatus held front in subst P e h)

  pub still_true : (f : ClauseStatus) → f ≡ Satisfied → HasStatus held front f → IsSatisfied held (front ++ m ∷ [])
  still_true f e h = touched_more (let P : ClauseStatus → Type 0 = HasStatus held front in subst P e h)
