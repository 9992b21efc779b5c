-- Classes that tell the congruence of held literals are classes of a model.
use Rattle.std.proofs.Common.{◌≡◌, ◌≢◌, ◌↔◌, ℕ, Bool, true, false, not, List, [], ◌∷◌, map, length, Contains, refl, sym, ap, subst, ◌∙◌, true≢false, inl, inr, arith}
use Rattle.spec_text.proofs.Members.{first, later}
use Rattle.spec_sorts.specs.Terms.{Sort, Truth, Number, Declared, Apply, Not, Equal, Symbol, Term, Terms, app, nil, cons, list_of, same_sort, sort_of, second_sort, negated}
use Rattle.spec_sorts.proofs.WellSorted.{same_sort_is}
use Rattle.spec_sorts.specs.Literals.{Literal, literal_of}
use Rattle.spec_equality.specs.Reasons.{equal}
use Rattle.spec_equality.specs.Congruence.{truth_term, signed_literal, takes_part, IsCongruent, AreCongruent, IsFine, equated, decided, joined, by_arguments, none, more}
use Rattle.spec_derivations.proofs.Formulas.{each_truth}
use Rattle.spec_valuations.specs.Tables.{AreListed}
use Rattle.spec_valuations.specs.Classes.{AreClasses}
use Rattle.spec_valuations.proofs.Formulas.{truths_taken}

-- the first of numbers, and the rest
abbrev head_in : List ℕ → ℕ
head_in [] = 0
head_in (x ∷ xs) = x

abbrev tail_in : List ℕ → List ℕ
tail_in [] = []
tail_in (x ∷ xs) = xs

-- another sort than Bool
other_than_truth : (s : Sort) → s ≢ Truth → not (same_sort s Truth) ≡ true
other_than_truth Truth other = absurd (other refl)
other_than_truth Number other = refl
other_than_truth (Declared n) other = refl

-- What is held of listed terms of sort Bool. A literal's term is no negation: equalities that are always held do for these.
pub record AreHeld (terms : List Term) (held : List Literal) (truths : Term → Bool) : Type 0 where
  -- each that is no negation is held with its truth
  pub atoms : (t : Term) → Contains terms t → sort_of t ≡ Truth → literal_of t ≡ signed_literal t true → Contains held (signed_literal t (truths t))
  -- a negation has the other truth
  pub negations : (p : Term) → truths (negated p) ≡ not (truths p)
  -- the truth values are listed
  pub values : (b : Bool) → Contains terms (truth_term b)
  -- and their negations
  pub others : (b : Bool) → Contains terms (negated (truth_term b))
  -- these are held to be truth values
  pub facts : (b : Bool) → Contains held (signed_literal (equal (negated (truth_term b)) (truth_term (not b))) true)

module _ (symbols : List Symbol) (terms : List Term) (held : List Literal) (truths : Term → Bool) (class : Term → ℕ) (listed : AreListed symbols terms) where
  -- the classes tell which listed terms are congruent
  abbrev pub TellClasses : Type 0
  TellClasses = (t u : Term) → Contains terms t → Contains terms u → (class t ≡ class u) ↔ IsCongruent terms held t u

  module _ (are : AreHeld terms held truths) (fine : IsFine terms held) (tells : TellClasses) where
    -- arguments of the same classes are congruent
    same_arguments : (ts us : Terms) → ((u : Term) → Contains (list_of ts) u → Contains terms u) → ((u : Term) → Contains (list_of us) u → Contains terms u)
        → map class (list_of ts) ≡ map class (list_of us) → AreCongruent terms held ts us
    same_arguments nil nil f g e = none
    same_arguments nil (cons u us) f g e = absurd (omega (arith, ap length e))
    same_arguments (cons t ts) nil f g e = absurd (omega (arith, ap length e))
    same_arguments (cons t ts) (cons u us) f g e =
        more t u ts us ((tells t u (f t (first t (list_of ts))) (g u (first u (list_of us)))).0 (ap head_in e))
        (same_arguments ts us (λ x c. f x (later t (list_of ts) x c)) (λ x c. g x (later u (list_of us) x c)) (ap tail_in e))

    -- what is held says of each term of sort Bool whether it is true
    truth_told : (t : Term) → Contains terms t → sort_of t ≡ Truth → IsCongruent terms held t (truth_term (truths t))
    unfolding literal_of
    truth_told (app Not (cons p nil)) c e =
        let bool = each_truth (p ∷ []) (truths_taken Not (sort_of p ∷ []) (listed.takes Not (cons p nil) c) refl) p (first p []) in
        let inner = truth_told p (listed.arguments Not (cons p nil) c p (first p [])) bool in
        let b = truths p in
        joined (app Not (cons p nil)) (negated (truth_term b)) (truth_term (truths (app Not (cons p nil))))
        (by_arguments Not (cons p nil) (cons (truth_term b) nil) c (are.others b) refl refl (more p (truth_term b) nil nil inner none))
        (subst (λ x. IsCongruent terms held (negated (truth_term b)) (truth_term x)) (sym (are.negations p))
        (equated (negated (truth_term b)) (truth_term (not b)) (are.facts b)))
    truth_told t c e = decided (signed_literal t (truths t)) (are.atoms t c e refl)

    -- an equality is held with its truth
    told : (s t : Term) → Contains terms (equal s t) → (b : Bool) → truths (equal s t) ≡ b → Contains held (signed_literal (equal s t) b)
    unfolding sort_of literal_of
    told s t c b e = subst (λ (x : Bool). Contains held (signed_literal (equal s t) x)) e (are.atoms (equal s t) c refl refl)

    -- an equality of terms of another sort than Bool takes part
    part : (s t : Term) → Contains terms (equal s t) → sort_of s ≢ Truth → takes_part (equal s t) ≡ true
    unfolding second_sort
    part s t c other = ap (λ (x : Sort). not (same_sort x Truth)) (sym (same_sort_is (sort_of s) (sort_of t) (listed.takes Equal (cons s (cons t nil)) c))) ∙ other_than_truth (sort_of s) other

    sure : (b : Bool) (s t : Term) → truths (equal s t) ≡ b → Contains terms (equal s t) → takes_part (equal s t) ≡ true → IsCongruent terms held s t → truths (equal s t) ≡ true
    sure true s t e c p k = e
    sure false s t e c p k = absurd (fine (inr (s, t, told s t c false e, p, k)))

    -- a listed equality of terms of another sort than Bool is true exactly where its sides are of one class
    pub told_by_classes : (s t : Term) → Contains terms (equal s t) → sort_of s ≢ Truth → (truths (equal s t) ≡ true) ↔ (class s ≡ class t)
    told_by_classes s t c other =
        let args = listed.arguments Equal (cons s (cons t nil)) c in
        let s_in = args s (first s (t ∷ [])) in
        let t_in = args t (later s (t ∷ []) t (first t [])) in (
          λ yes. (tells s t s_in t_in).1 (equated s t (told s t c true yes)),
          λ same. sure (truths (equal s t)) s t refl c (part s t c other) ((tells s t s_in t_in).0 same),
        )

    pub are_classes : AreClasses truths class terms
    are_classes = record {
      congruent = λ s ts us c d e. (tells (app (Apply s) ts) (app (Apply s) us) c d).1
          (by_arguments (Apply s) ts us c d refl refl (same_arguments ts us (listed.arguments (Apply s) ts c) (listed.arguments (Apply s) us d) e));
      truth_classes = λ t c e. (tells t (truth_term (truths t)) c (are.values (truths t))).1 (truth_told t c e);
      apart = λ e. fine (inl ((tells (truth_term true) (truth_term false) (are.values true) (are.values false)).0 e));
      equalities = λ s t n c e. told_by_classes s t c (λ q. true≢false (ap (λ (x : Sort). same_sort x Truth) (sym q ∙ e)));
    }
