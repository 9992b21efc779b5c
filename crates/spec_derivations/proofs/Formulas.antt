-- Heads of theory Core before arguments of sort Bool.
use Rattle.std.proofs.Common.{◌≡◌, Bool, true, false, List, [], ◌∷◌, map, Contains, inl, inr, refl, sym, subst}
use Rattle.std.proofs.lemmas.Bool.{false≢true, and_parts}
use Rattle.std.proofs.lemmas.List.Elements.{All-contains}
use Rattle.std.proofs.lemmas.List.Sums.{AllPass-from_list_all}
use Rattle.spec_text.proofs.Members.{first, later, cases, none}
use Rattle.spec_sorts.specs.Terms.{Truth, Head, True, False, Not, And, Or, Xor, Implies, Equal, Ite, Term, Terms, app, nil, cons, list_of, same_sort, all_same, sort_of, second_sort}
use Rattle.spec_sorts.proofs.WellSorted.{same_sort_is}
use Rattle.spec_rules.specs.Schemes.{Scheme, schemes}

-- of terms that are all of sort Bool each one is
pub each_truth : (ts : List Term) → all_same Truth (map sort_of ts) ≡ true → (u : Term) → Contains ts u → sort_of u ≡ Truth
each_truth [] e u u_in = absurd (none u u_in)
each_truth (t ∷ ts) e u u_in =
    let parts = and_parts (same_sort Truth (sort_of t)) (all_same Truth (map sort_of ts)) e in
    elim (cases t ts u u_in) [ inl same ↦ subst (λ x. sort_of x ≡ Truth) same (sym (same_sort_is Truth (sort_of t) parts.0)) | inr rest ↦ each_truth ts parts.1 u rest ]

-- a head of theory Core
abbrev pub is_core : Head → Bool
is_core True = true
is_core False = true
is_core Not = true
is_core And = true
is_core Or = true
is_core Xor = true
is_core Implies = true
is_core Equal = true
is_core Ite = true
is_core h = false

second_truth : (ts : Terms) → all_same Truth (map sort_of (list_of ts)) ≡ true → second_sort ts ≡ Truth
unfolding second_sort
second_truth nil e = refl
second_truth (cons t nil) e = refl
second_truth (cons t (cons u us)) e = each_truth (t ∷ u ∷ list_of us) e u (later t (u ∷ list_of us) u (first u (list_of us)))

-- such a head before arguments of sort Bool gives a term of sort Bool
pub core_truth : (h : Head) (ts : Terms) → is_core h ≡ true → all_same Truth (map sort_of (list_of ts)) ≡ true → sort_of (app h ts) ≡ Truth
unfolding sort_of
core_truth True ts core e = refl
core_truth False ts core e = refl
core_truth Not ts core e = refl
core_truth And ts core e = refl
core_truth Or ts core e = refl
core_truth Xor ts core e = refl
core_truth Implies ts core e = refl
core_truth Equal ts core e = refl
core_truth Ite ts core e = second_truth ts e
core_truth h ts core e = absurd (false≢true core)

-- each scheme has such a head
pub core_schemes : (s : Scheme) → Contains schemes s → is_core s.head ≡ true
core_schemes s s_in = All-contains (λ (x : Scheme). is_core x.head ≡ true) schemes s (AllPass-from_list_all (λ (x : Scheme). is_core x.head) schemes refl) s_in
