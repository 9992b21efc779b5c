-- Where nothing more follows, there is no conflict; and clauses count as sets.
use Rattle.std.proofs.Common.{ℕ, ◌<◌, List, [], ◌∷◌, length, get_or, Contains, inl, inr, sym, ◌∙◌, subst, refl, arith, zero, suc}
use Rattle.std.specs.List.{AllZip}
use Rattle.spec_text.proofs.Members.{cases, later}
use Rattle.spec_proofs.specs.Resolution.{Derives, given, unit, Conflicts, false_clause, both_ways, IsWithin}
use Rattle.term_core.specs.declared.ids.Lit.{Lit}
use Rattle.clause_literals.specs.Literals.{lit_complement, SameLits, HasNoTwice, IsSetOf, IsConsistent}
use Rattle.clause_literals.specs.Statuses.{PropagatesNothing}
use Rattle.clause_literals.proofs.LiteralLists.{decide}
use Rattle.clause_literals.proofs.Counting.{Contains-first}

-- where nothing follows any more, all that is derived holds
module _ (premises : List (List Lit)) (start held : List Lit) (started : IsWithin start held) (ok : IsConsistent held) (f : (c : List Lit) → Contains premises c → PropagatesNothing held c) where
  derived_held : (l : Lit) → Derives lit_complement premises start l → Contains held l
  derived_held _ (given l i) = started l i
  derived_held _ (unit c l c_in l_in others) = elim (f c c_in) [
    | inl s ↦ elim (decide s.literal l) [
      | inl e ↦ subst (λ (x : Lit). Contains held x) e s.holds
      | inr d ↦ absurd (ok s.literal s.holds (derived_held (lit_complement s.literal) (others s.literal s.there d)))
    ]
    | inr s ↦ elim (decide s.one l) [
      | inl e ↦ absurd (s.other_open (derived_held (lit_complement s.other) (others s.other s.has_other (λ d. s.differ (e ∙ sym d)))))
      | inr d ↦ absurd (s.one_open (derived_held (lit_complement s.one) (others s.one s.has_one d)))
    ]
  ]

  pub no_conflict : Conflicts lit_complement premises start → ⊥
  no_conflict (both_ways l d e) = ok l (derived_held l d) (derived_held (lit_complement l) e)
  no_conflict (false_clause c c_in all) = elim (f c c_in) [
    | inl s ↦ ok s.literal s.holds (derived_held (lit_complement s.literal) (all s.literal s.there))
    | inr s ↦ s.one_open (derived_held (lit_complement s.one) (all s.one s.has_one))
  ]

-- each clause of the one list has one of the other with the same literals
abbrev pub HaveSame : List (List Lit) → List (List Lit) → Type 0
HaveSame ps qs = (c : List Lit) → Contains ps c → (d : List Lit) × Contains qs d × SameLits c d

module _ (ps qs : List (List Lit)) (same : HaveSame ps qs) (start : List Lit) where
  pub derived_too : (l : Lit) → Derives lit_complement ps start l → Derives lit_complement qs start l
  derived_too _ (given l i) = given l i
  derived_too _ (unit c l c_in l_in others) =
      let s = same c c_in in
      unit s.0 l s.1 ((s.2 l).0 l_in) (λ m i ne. derived_too (lit_complement m) (others m ((s.2 m).1 i) ne))

  -- so the other has its conflicts
  pub conflicts_too : Conflicts lit_complement ps start → Conflicts lit_complement qs start
  conflicts_too (both_ways l d e) = both_ways l (derived_too l d) (derived_too (lit_complement l) e)
  conflicts_too (false_clause c c_in all) = let s = same c c_in in false_clause s.0 s.1 (λ m i. derived_too (lit_complement m) (all m ((s.2 m).1 i)))

same_back : (xs ys : List Lit) → SameLits xs ys → SameLits ys xs
same_back xs ys s l = ((s l).1, (s l).0)

-- sets of clauses
pub sets_back : (cs ds : List (List Lit)) → AllZip IsSetOf cs ds → HaveSame ds cs
sets_back [] [] h c i = absurd (omega (arith, i.1))
sets_back [] (d ∷ ds) h c i = elim h [ ]
sets_back (c ∷ cs) [] h x i = elim h [ ]
sets_back (c ∷ cs) (d ∷ ds) h x i = elim (cases d ds x i) [
  | inl e ↦ (c, Contains-first cs c c refl, subst (λ (y : List Lit). SameLits y c) e h.0.same)
  | inr j ↦ let r = sets_back cs ds h.1 x j in (r.0, later c cs r.0 r.1, r.2)
]

pub sets_there : (cs ds : List (List Lit)) → AllZip IsSetOf cs ds → HaveSame cs ds
sets_there [] [] h c i = absurd (omega (arith, i.1))
sets_there [] (d ∷ ds) h c i = elim h [ ]
sets_there (c ∷ cs) [] h x i = elim h [ ]
sets_there (c ∷ cs) (d ∷ ds) h x i = elim (cases c cs x i) [
  | inl e ↦ (d, Contains-first ds d d refl, subst (λ (y : List Lit). SameLits y d) e (same_back d c h.0.same))
  | inr j ↦ let r = sets_there cs ds h.1 x j in (r.0, later d ds r.0 r.1, r.2)
]

-- each once
pub sets_once : (cs ds : List (List Lit)) → AllZip IsSetOf cs ds → (k : ℕ) (d : List Lit) → k < length ds → HasNoTwice (get_or ds k d)
sets_once [] [] h k x lt = absurd (omega (arith, lt))
sets_once [] (d ∷ ds) h k x lt = elim h [ ]
sets_once (c ∷ cs) [] h k x lt = elim h [ ]
sets_once (c ∷ cs) (d ∷ ds) h zero x lt = h.0.once
sets_once (c ∷ cs) (d ∷ ds) h (suc k) x lt = sets_once cs ds h.1 k x (omega (arith, lt))
