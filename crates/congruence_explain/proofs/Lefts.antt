-- How many literals of a clause are not false, with one literal more.
use Rattle.std.proofs.Common.{◌≡◌, ◌≢◌, ℕ, ◌-◌, ◌<◌, ◌≤◌, ◌⊎◌, ◌↔◌, inl, inr, List, [], ◌∷◌, ◌++◌, length, drop, get_or, Contains, sym, subst, refl}
use Rattle.std.specs.Prelude.{Vec}
use Rattle.std.specs.declared.alloc.Global.{Global}
use Rattle.std.proofs.lemmas.List.Elements.{Contains-push, Contains-push_cases, Contains-append_left}
use Rattle.spec_text.proofs.Members.{each_pushed, cases}
use Rattle.term_core.specs.declared.ids.Lit.{Lit}
use Rattle.clause_literals.specs.Literals.{lit_complement, lists, AddsLast}
use Rattle.clause_literals.specs.Statuses.{IsUnresolved}
use Rattle.clause_literals.proofs.Passes.{behind}
use Rattle.congruence_explain.specs.declared.chain.Left.{Left}
use Rattle.congruence_explain.specs.declared.chain.Left.TheVariants.{Nothing, One, More}
use Rattle.congruence_explain.specs.Needing.{HasOneLeft, HasLeft}

module _ (held : List Lit) (front : List Lit) (m : Lit) where
  in_more : (k : Lit) → Contains front k → Contains (front ++ m ∷ []) k
  in_more k i = Contains-append_left front (m ∷ []) k i

  open_more : IsUnresolved held front → IsUnresolved held (front ++ m ∷ [])
  open_more h = record { one = h.one; other = h.other; has_one = in_more h.one h.has_one; has_other = in_more h.other h.has_other; differ = h.differ; one_open = h.one_open; other_open = h.other_open }

  one_more : (l : Lit) → (m ≢ l → Contains held (lit_complement m)) → HasOneLeft held front l → HasOneLeft held (front ++ m ∷ []) l
  one_more l here h = record { there = in_more l h.there; not_false = h.not_false; others_false = each_pushed (λ k. k ≢ l → Contains held (lit_complement k)) front m h.others_false here }

  -- a literal that is false changes nothing
  pub false_more : (f : Left) → Contains held (lit_complement m) → HasLeft held front f → HasLeft held (front ++ m ∷ []) f
  false_more Nothing here h = each_pushed (λ k. Contains held (lit_complement k)) front m h here
  false_more (One l) here h = one_more l (λ _. here) h
  false_more More here h = open_more h

  -- one that is not, after false ones
  pub first_left : (f : Left) → f ≡ Nothing → (Contains held (lit_complement m) → ⊥) → HasLeft held front f → HasOneLeft held (front ++ m ∷ []) m
  first_left f e free h =
      let each = let P : Left → Type 0 = HasLeft held front in subst P e h in
      record {
        there = Contains-push front m;
        not_false = free;
        others_false = each_pushed (λ k. k ≢ m → Contains held (lit_complement k)) front m (λ k i _. each k i) (λ ne. absurd (ne refl));
      }

  -- the same again
  pub same_left : (f : Left) (l : Lit) → f ≡ One l → l ≡ m → HasLeft held front f → HasOneLeft held (front ++ m ∷ []) l
  same_left f l e s h = one_more l (λ ne. absurd (ne (sym s))) (let Q : Left → Type 0 = HasLeft held front in subst Q e h)

  -- a second one
  pub two_left : (f : Left) (l : Lit) → f ≡ One l → l ≢ m → (Contains held (lit_complement m) → ⊥) → HasLeft held front f → IsUnresolved held (front ++ m ∷ [])
  two_left f l e differ free h =
      let u : HasOneLeft held front l = let P : Left → Type 0 = HasLeft held front in subst P e h in
      record { one = l; other = m; has_one = in_more l u.there; has_other = Contains-push front m; differ = differ; one_open = u.not_false; other_open = free }

  pub still_left : (f : Left) → f ≡ More → HasLeft held front f → IsUnresolved held (front ++ m ∷ [])
  still_left f e h = open_more (let P : Left → Type 0 = HasLeft held front in subst P e h)

abbrev pub to_items : Vec Lit Global → List Lit
to_items w = w.items

-- what is so of the clause at a place and of those after it
module _ (vs : List (Vec Lit Global)) (n : ℕ) (v : Vec Lit Global) (some : 0 < n) (within : n ≤ length vs) (e : v ≡ get_or vs (n - 1) v) where
  pub all_behind : (P : List Lit → Type 0) → P v.items → ((c : List Lit) → Contains (drop n (lists vs)) c → P c) → (c : List Lit) → Contains (drop (n - 1) (lists vs)) c → P c
  all_behind P here rest c i = elim (cases v.items (drop n (lists vs)) c (subst (λ (cs : List (List Lit)). Contains cs c) (behind vs n v some within e) i)) [ inl is ↦ subst P is here | inr was ↦ rest c was ]

-- one literal more is added
pub adds_more : (held new made : List Lit) (l : Lit) (base : List Lit) → AddsLast held l new → ((m : Lit) → Contains held m ↔ (Contains base m ⊎ Contains made m)) → (m : Lit) → Contains new m ↔ (Contains base m ⊎ Contains (made ++ l ∷ []) m)
adds_more held new made l base (inl a) same m = (
  λ i. elim ((same m).0 (subst (λ (h : List Lit). Contains h m) a.1 i)) [ inl b ↦ inl b | inr was ↦ inr (Contains-append_left made (l ∷ []) m was) ],
  λ i. subst (λ (h : List Lit). Contains h m) (sym a.1) (elim i [
    | inl b ↦ (same m).1 (inl b)
    | inr j ↦ elim (Contains-push_cases made l m j) [ inl was ↦ (same m).1 (inr was) | inr e ↦ subst (λ (x : Lit). Contains held x) e a.0 ]
  ]),
)
adds_more held new made l base (inr a) same m = (
  λ i. elim (Contains-push_cases held l m (subst (λ (h : List Lit). Contains h m) a.1 i)) [
    | inl was ↦ elim ((same m).0 was) [ inl b ↦ inl b | inr j ↦ inr (Contains-append_left made (l ∷ []) m j) ]
    | inr e ↦ inr (subst (λ (x : Lit). Contains (made ++ l ∷ []) x) e (Contains-push made l))
  ],
  λ i. subst (λ (h : List Lit). Contains h m) (sym a.1) (elim i [
    | inl b ↦ Contains-append_left held (l ∷ []) m ((same m).1 (inl b))
    | inr j ↦ elim (Contains-push_cases made l m j) [ inl was ↦ Contains-append_left held (l ∷ []) m ((same m).1 (inr was)) | inr e ↦ subst (λ (x : Lit). Contains (held ++ l ∷ []) x) e (Contains-push held l) ]
  ]),
)
