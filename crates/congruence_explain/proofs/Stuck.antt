-- Where nothing follows from any premise, none comes to be false.
use Rattle.std.proofs.Common.{◌≡◌, ◌⊎◌, inl, inr, List, map, Contains, sym, ◌∙◌, subst}
use Rattle.std.specs.Prelude.{All}
use Rattle.std.proofs.lemmas.List.Elements.{All-contains}
use Rattle.spec_text.proofs.Members.{to_image, from_image}
use Rattle.spec_sorts.specs.Literals.{Literal, complement}
use Rattle.spec_proofs.specs.Resolution.{Derives, given, unit}
use Rattle.spec_derivations.proofs.Learned.{decide_literals}
use Rattle.term_core.specs.declared.ids.Lit.{Lit}
use Rattle.term_core.specs.Tables.{TableView, IsIn, AreDifferent, literal_at}
use Rattle.clause_literals.specs.Literals.{lit_complement, AreLiteralsIn}
use Rattle.clause_literals.specs.Statuses.{IsUnresolved}
use Rattle.clause_literals.proofs.TableLiterals.{literals_apart}
use Rattle.congruence_explain.specs.Needing.{IsSpent, HasFalsePremise}

module _ (t : TableView) (differ : AreDifferent t.terms) (premises : List (List Lit)) (start held : List Lit) (premises_in : All (AreLiteralsIn t) premises) (held_in : AreLiteralsIn t held)
    (started : (l : Lit) → Contains start l → Contains held l) (quiet : (c : List Lit) → Contains premises c → IsSpent held c ⊎ IsUnresolved held c) where
  abbrev meant : List (List Literal)
  meant = map (map (literal_at t)) premises

  abbrev assumed : List Literal
  assumed = map (literal_at t) start

  -- a literal that is not false has no complement that holds
  fails : (c : List Lit) → Contains premises c → (l : Lit) → Contains c l → (Contains held (lit_complement l) → ⊥) → (k : Lit) × Contains held k × (literal_at t k ≡ complement (literal_at t l)) → ⊥
  fails c c_in l l_in free k =
      let k_there : IsIn t k.0.term = All-contains (λ (m : Lit). IsIn t m.term) held k.0 held_in k.1 in
      let l_there : IsIn t l.term = All-contains (λ (m : Lit). IsIn t m.term) c l (All-contains (AreLiteralsIn t) premises c premises_in c_in) l_in in
      free (subst (λ (x : Lit). Contains held x) (literals_apart t differ k.0 (lit_complement l) k_there l_there k.2) k.1)

  -- what is derived holds
  derived_held : (m : Literal) → Derives complement meant assumed m → (l : Lit) × Contains held l × (literal_at t l ≡ m)
  derived_held _ (given m i) = let h = from_image (literal_at t) start m i in (h.0, started h.0 h.1, h.2)
  derived_held _ (unit c m c_in m_in others) =
      let d = from_image (map (literal_at t)) premises c c_in in
      let here : (l : Lit) → Contains d.0 l → Contains c (literal_at t l) = λ l i. subst (λ (ms : List Literal). Contains ms (literal_at t l)) d.2 (to_image (literal_at t) d.0 l i) in
      elim (quiet d.0 d.1) [
        | inl s ↦ elim (decide_literals (literal_at t s.literal) m) [
          | inl e ↦ (s.literal, s.holds, e)
          | inr ne ↦ absurd (fails d.0 d.1 s.literal s.there s.not_false (derived_held (complement (literal_at t s.literal)) (others (literal_at t s.literal) (here s.literal s.there) ne)))
        ]
        | inr s ↦ elim (decide_literals (literal_at t s.one) m) [
          | inl e ↦
              let one_in : IsIn t s.one.term = All-contains (λ (k : Lit). IsIn t k.term) d.0 s.one (All-contains (AreLiteralsIn t) premises d.0 premises_in d.1) s.has_one in
              let other_in : IsIn t s.other.term = All-contains (λ (k : Lit). IsIn t k.term) d.0 s.other (All-contains (AreLiteralsIn t) premises d.0 premises_in d.1) s.has_other in
              absurd (fails d.0 d.1 s.other s.has_other s.other_open (derived_held (complement (literal_at t s.other)) (others (literal_at t s.other) (here s.other s.has_other) (λ f. s.differ (literals_apart t differ s.one s.other one_in other_in (e ∙ sym f))))))
          | inr ne ↦ absurd (fails d.0 d.1 s.one s.has_one s.one_open (derived_held (complement (literal_at t s.one)) (others (literal_at t s.one) (here s.one s.has_one) ne)))
        ]
      ]

  -- so no premise is false
  pub none_false : HasFalsePremise meant assumed → ⊥
  none_false (c, c_in, each) =
      let d = from_image (map (literal_at t)) premises c c_in in
      let here : (l : Lit) → Contains d.0 l → Contains c (literal_at t l) = λ l i. subst (λ (ms : List Literal). Contains ms (literal_at t l)) d.2 (to_image (literal_at t) d.0 l i) in
      elim (quiet d.0 d.1) [
        | inl s ↦ fails d.0 d.1 s.literal s.there s.not_false (derived_held (complement (literal_at t s.literal)) (each (literal_at t s.literal) (here s.literal s.there)))
        | inr s ↦ fails d.0 d.1 s.one s.has_one s.one_open (derived_held (complement (literal_at t s.one)) (each (literal_at t s.one) (here s.one s.has_one)))
      ]
