-- What unit propagation over base and learned clauses meets is derived by further steps.
use Rattle.std.proofs.Common.{◌≡◌, ℕ, ◌<◌, List, [], ◌∷◌, ◌++◌, length, map, All, Contains, ◌⊎◌, inl, inr, refl, sym, ap, ap₂, ◌∙◌, subst, arith}
use Rattle.std.specs.Prelude.{flat_map}
use Rattle.std.proofs.Math.Seq.{get_or-append_seam}
use Rattle.std.proofs.lemmas.List.{append_assoc, append-nil, length-append, map-append}
use Rattle.std.proofs.lemmas.List.Elements.{All-append, All-contains, All-cons, All-head, All-nil, All-tail, Contains-append_left, Contains-append_cases}
use Rattle.spec_text.specs.Trees.{none as no_arguments}
use Rattle.spec_text.proofs.Members.{first, later, none, from_flat, from_image}
use Rattle.spec_sorts.specs.Terms.{Term}
use Rattle.spec_sorts.specs.Literals.{Clause, Literal, complement, literals_of}
use Rattle.spec_proofs.specs.declared.Rule.TheVariants as rules
use Rattle.spec_proofs.specs.Resolution.{Resolves}
use Rattle.spec_rules.specs.Rules.{IsBy}
use Rattle.spec_rules.specs.Schemes.{schemes, clauses_by}
use Rattle.spec_derivations.specs.Problems.{Problem, terms_of_problem, subterms_in}
use Rattle.spec_derivations.specs.Derivations.{Inference, assumption, by_rule, Derivation, conclusion, premises_of, no_inference, inference_at, conclusion_at, FollowsFrom, IsDerivation, DependsOn, itself, by_premise, AssumesAmong, IsDerivedFrom}
use Rattle.spec_derivations.specs.Base.{clauses_of, base_clauses}
use Rattle.spec_derivations.specs.Inputs.{IsInput}
use Rattle.spec_derivations.specs.ExactChains.{IsExactResolvent}
use Rattle.spec_derivations.specs.Learned.{IsNew}
use Rattle.spec_derivations.specs.Spent.{IsLearnedFrom, IsOverAtoms, at_start, AreLearned, CanLearnMore}
use Rattle.spec_derivations.proofs.Derivations.{right_push}
use Rattle.spec_derivations.proofs.Holding.{has_rule}
use Rattle.spec_derivations.proofs.Onward.{kept_at, derived_onward}

-- The last clause of a derivation is derived from terms, where its premises are.
last_derived : (terms : List Term) (d : Derivation) (x : Inference) → IsDerivation d → AssumesAmong terms x → ((k : ℕ) → Contains (premises_of x) k → IsDerivedFrom terms d k) → IsDerivedFrom terms (d ++ x ∷ []) (length d)
last_derived terms d x right among premises = record {
  there = omega (arith, length-append d (x ∷ []));
  assumptions = λ m depends. go (length d) m refl depends;
}
  where
    here : inference_at (d ++ x ∷ []) (length d) ≡ x
    here = get_or-append_seam d x [] no_inference

    go : (n m : ℕ) → n ≡ length d → DependsOn (d ++ x ∷ []) n m → AssumesAmong terms (inference_at (d ++ x ∷ []) m)
    go n _ e (itself _) = subst (λ k. AssumesAmong terms (inference_at (d ++ x ∷ []) k)) (sym e) (subst (AssumesAmong terms) (sym here) among)
    go n m e (by_premise _ k _ k_in depends) =
        let own : Contains (premises_of x) k = subst (λ (y : Inference). Contains (premises_of y) k) (ap (inference_at (d ++ x ∷ [])) e ∙ here) k_in in
        (derived_onward d (x ∷ []) right terms k (premises k own)).assumptions m depends

-- Numbers of derived clauses, which are these in their order.
record HasNumbers (terms : List Term) (d : Derivation) (clauses : List (List Literal)) : Type 0 where
  numbers : List ℕ
  same : map (λ n. literals_of (conclusion_at d n)) numbers ≡ clauses
  derived : All (IsDerivedFrom terms d) numbers

-- they keep their clauses with further steps
numbers_onward : (terms : List Term) (d more : Derivation) (clauses : List (List Literal)) → IsDerivation d → HasNumbers terms d clauses → HasNumbers terms (d ++ more) clauses
numbers_onward terms d more clauses right h = record {
  numbers = h.numbers;
  same = alike h.numbers h.derived ∙ h.same;
  derived = λ k e lt. derived_onward d more right terms _ (h.derived k e lt);
}
  where
    alike : (ns : List ℕ) → All (IsDerivedFrom terms d) ns → map (λ n. literals_of (conclusion_at (d ++ more) n)) ns ≡ map (λ n. literals_of (conclusion_at d n)) ns
    alike [] each = refl
    alike (n ∷ ns) each = ap₂ (λ (c : List Literal) (cs : List (List Literal)). c ∷ cs) (ap (λ x. literals_of (conclusion x)) (kept_at d more n (All-head (IsDerivedFrom terms d) n ns each).there)) (alike ns (All-tail (IsDerivedFrom terms d) n ns each))

map_twice : (d : Derivation) (ns : List ℕ) → map literals_of (map (conclusion_at d) ns) ≡ map (λ n. literals_of (conclusion_at d n)) ns
map_twice d [] = refl
map_twice d (n ∷ ns) = ap (λ cs. literals_of (conclusion_at d n) ∷ cs) (map_twice d ns)

-- numbers of some clauses, then of others
numbers_both : (terms : List Term) (d : Derivation) (cs ds : List (List Literal)) → HasNumbers terms d cs → HasNumbers terms d ds → HasNumbers terms d (cs ++ ds)
numbers_both terms d cs ds a b = record {
  numbers = a.numbers ++ b.numbers;
  same = map-append (λ n. literals_of (conclusion_at d n)) a.numbers b.numbers ∙ ap₂ (λ (x y : List (List Literal)). x ++ y) a.same b.same;
  derived = All-append (IsDerivedFrom terms d) a.numbers b.numbers a.derived b.derived;
}

module _ (p : Problem) where
  abbrev terms : List Term
  terms = terms_of_problem p

  -- A step without premises that states a clause.
  record IsStart (c : Clause) (x : Inference) : Type 0 where
    states : conclusion x ≡ c
    bare : premises_of x ≡ []
    follows : (d : Derivation) → FollowsFrom d x
    among : AssumesAmong terms x

  -- each base clause has one
  start : (c : Clause) → Contains (base_clauses p) c → (x : Inference) × IsStart c x
  start c c_in = elim (Contains-append_cases (map (λ t. t ∷ []) p.asserted) (flat_map clauses_of (subterms_in p)) c c_in) [
    | inl h ↦
        let t = from_image (λ (t : Term). t ∷ []) p.asserted c h in
        (assumption t.0, record { states = t.2; bare = refl; follows = λ d. tt; among = Contains-append_left p.asserted p.assumed t.0 t.1 })
    | inr h ↦
        let t = from_flat clauses_of (subterms_in p) c h in
        let s = from_flat (λ s. clauses_by s t.0) schemes c t.2 in
        let by = has_rule s.0 s.1 in
        (by_rule by.0 [] no_arguments c, record { states = refl; bare = refl; follows = λ d. (All-nil (λ n. n < length d), subst (λ k. IsBy k [] no_arguments c) (sym by.1) (t.0, s.2)); among = tt })
  ]

  -- Further steps after which clauses have numbers.
  record IsExtended (d : Derivation) (clauses : List Clause) : Type 0 where
    more : Derivation
    right : IsDerivation (d ++ more)
    has : HasNumbers terms (d ++ more) (map literals_of clauses)

  extended : (d : Derivation) → IsDerivation d → (cs : List Clause) → ((c : Clause) → Contains cs c → Contains (base_clauses p) c) → IsExtended d cs
  extended d right [] each = record {
    more = [];
    right = subst IsDerivation (sym (append-nil d)) right;
    has = record { numbers = []; same = refl; derived = All-nil (IsDerivedFrom terms (d ++ [])) };
  }
  extended d right (c ∷ cs) each =
      let rest = extended d right cs (λ x x_in. each x (later c cs x x_in)) in
      let e = d ++ rest.more in
      let x = start c (each c (first c cs)) in
      let whole : d ++ (rest.more ++ x.0 ∷ []) ≡ e ++ x.0 ∷ [] = sym (append_assoc d rest.more (x.0 ∷ [])) in
      let old = numbers_onward terms e (x.0 ∷ []) (map literals_of cs) rest.right rest.has in
      let here = last_derived terms e x.0 rest.right x.1.among (λ k k_in. absurd (none k (subst (λ ns. Contains ns k) x.1.bare k_in))) in
      let same = ap (λ y. literals_of (conclusion y)) (get_or-append_seam e x.0 [] no_inference) ∙ ap literals_of x.1.states in
      let own : HasNumbers terms (e ++ x.0 ∷ []) (map literals_of (c ∷ cs)) = record {
        numbers = length e ∷ old.numbers;
        same = ap₂ (λ (l : List Literal) (ls : List (List Literal)). l ∷ ls) same old.same;
        derived = All-cons (IsDerivedFrom terms (e ++ x.0 ∷ [])) (length e) old.numbers here old.derived;
      } in
      record {
        more = rest.more ++ x.0 ∷ [];
        right = subst IsDerivation (sym whole) (right_push e x.0 rest.right (x.1.follows e));
        has = subst (λ y. HasNumbers terms y (map literals_of (c ∷ cs))) (sym whole) own;
      }

  -- learned clauses have their numbers
  learned_numbers : (d : Derivation) (learned : List (List Literal)) → All (IsLearnedFrom p d) learned → HasNumbers terms d learned
  learned_numbers d [] each = record { numbers = []; same = refl; derived = All-nil (IsDerivedFrom terms d) }
  learned_numbers d (l ∷ ls) each =
      let one = All-head (IsLearnedFrom p d) l ls each in
      let rest = learned_numbers d ls (All-tail (IsLearnedFrom p d) l ls each) in
      record {
        numbers = one.number ∷ rest.numbers;
        same = ap₂ (λ (c : List Literal) (cs : List (List Literal)). c ∷ cs) one.same rest.same;
        derived = All-cons (IsDerivedFrom terms d) one.number rest.numbers one.derived rest.derived;
      }

  -- a clause that follows from both by propagation is that of a conflict
  pub propagated : (d : Derivation) (earlier learned : List (List Literal)) (clause : Clause) → AreLearned p d earlier learned → IsOverAtoms p (literals_of clause) → Resolves complement (map literals_of (base_clauses p) ++ (earlier ++ learned)) (literals_of clause) → IsNew (at_start p earlier ++ learned) (literals_of clause)
      → IsExactResolvent complement (λ c. IsInput p d c ⊎ Contains (earlier ++ learned) c) (literals_of clause) → CanLearnMore p d earlier learned
  propagated d earlier learned clause h atoms follows new exact =
      let base = extended d h.right (base_clauses p) (λ c c_in. c_in) in
      let e = d ++ base.more in
      let old = numbers_onward terms d base.more (earlier ++ learned) h.right (learned_numbers d (earlier ++ learned) h.derived) in
      let all = numbers_both terms e (map literals_of (base_clauses p)) (earlier ++ learned) base.has old in
      let x = by_rule rules.Resolution all.numbers no_arguments clause in
      let whole : d ++ (base.more ++ x ∷ []) ≡ e ++ x ∷ [] = sym (append_assoc d base.more (x ∷ [])) in
      let right : FollowsFrom e x = ((λ k n lt. (all.derived k n lt).there), subst (λ cs. Resolves complement cs (literals_of clause)) (sym all.same ∙ sym (map_twice e all.numbers)) follows) in
      let last : IsLearnedFrom p (e ++ x ∷ []) (literals_of clause) = record {
        number = length e;
        derived = last_derived terms e x base.right tt (λ k k_in. All-contains (IsDerivedFrom terms e) all.numbers k all.derived k_in);
        same = ap (λ y. literals_of (conclusion y)) (get_or-append_seam e x [] no_inference);
      } in
      record {
        clause = literals_of clause;
        more = base.more ++ x ∷ [];
        right = subst IsDerivation (sym whole) (right_push e x base.right right);
        derived = subst (λ y. IsLearnedFrom p y (literals_of clause)) (sym whole) last;
        atoms = atoms;
        new = new;
        exact = exact;
      }
