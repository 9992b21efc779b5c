-- What is printed stands for what it should.
use Rattle.std.proofs.Common.{◌≡◌, ℕ, suc, ◌+◌, Bool, true, false, cond, List, [], ◌∷◌, map, Option, Some, None, Contains, refl, ap, ◌∙◌, arith}
use Rattle.std.specs.List.{slice_get}
use Rattle.std.proofs.lemmas.Bool.{false≢true}
use Rattle.spec_text.proofs.Members.{first, later}
use Rattle.spec_sorts.specs.Terms.{Sort, Head, True, False, Not, And, Or, Xor, Implies, Equal, Ite, Minus, Plus, Times, Divide, Less, AtMost, Literal, Apply, Parameter, Term, app, nil, same_sorts}
use Rattle.spec_sorts.specs.Signatures.{Signature}
use Rattle.spec_sorts.specs.Literals.{Clause}
use Rattle.spec_derivations.specs.Derivations.{Inference, «assumption», by_rule, conclusion}
use Rattle.spec_proof_texts.specs.Lines.{Argument, no_items, levels, Reference}
use Rattle.spec_proof_texts.specs.Meaning.{Told, constant_if, bare_term, IsTold, AreTold, clause_told, ArePremises, numbered}
use Rattle.spec_proof_texts.specs.Plans.{in_place, reference_by, number_or_zero}
use Rattle.spec_proof_texts.specs.Printable.{IsPrintable}
use Rattle.spec_proof_texts.proofs.Numbers.{IsNumbered, assumes_of, steps_of}

-- a term without arguments
no_sorts : (ss : List Sort) → same_sorts ss [] ≡ true → ss ≡ []
no_sorts [] e = refl
no_sorts (s ∷ ss) e = absurd (false≢true e)

pub in_place_told : (g : Signature) (k : Told) (h : Head) → IsPrintable g (app h nil) → IsTold g k (in_place h no_items) (app h nil)
in_place_told g k True p = refl
in_place_told g k False p = refl
in_place_told g k (Literal q) p = ap (λ b. cond b (Some (app (Literal q) nil)) None) p.takes.known
in_place_told g k (Apply f) p = ap bare_term p.takes.known ∙ ap (constant_if f) (no_sorts f.parameters p.takes.takes)
in_place_told g k Not p = absurd (false≢true p.takes.takes)
in_place_told g k And p = absurd (false≢true p.takes.takes)
in_place_told g k Or p = absurd (false≢true p.takes.takes)
in_place_told g k Xor p = absurd (false≢true p.takes.takes)
in_place_told g k Implies p = absurd (false≢true p.takes.takes)
in_place_told g k Equal p = absurd (false≢true p.takes.takes)
in_place_told g k Ite p = absurd (false≢true p.takes.takes)
in_place_told g k Minus p = absurd (false≢true p.takes.takes)
in_place_told g k Plus p = absurd (false≢true p.takes.takes)
in_place_told g k Times p = absurd (false≢true p.takes.takes)
in_place_told g k Divide p = absurd (false≢true p.takes.takes)
in_place_told g k Less p = absurd (false≢true p.takes.takes)
in_place_told g k AtMost p = absurd (false≢true p.takes.takes)
in_place_told g k (Parameter n s) p = absurd (false≢true p.takes.takes)

-- it is no list
pub in_place_flat : (h : Head) → levels (in_place h no_items) ≡ 0
in_place_flat True = refl
in_place_flat False = refl
in_place_flat (Literal q) = refl
in_place_flat (Apply f) = refl
in_place_flat Not = refl
in_place_flat And = refl
in_place_flat Or = refl
in_place_flat Xor = refl
in_place_flat Implies = refl
in_place_flat Equal = refl
in_place_flat Ite = refl
in_place_flat Minus = refl
in_place_flat Plus = refl
in_place_flat Times = refl
in_place_flat Divide = refl
in_place_flat Less = refl
in_place_flat AtMost = refl
in_place_flat (Parameter n s) = refl

-- each of several terms
pub all_told : (g : Signature) (k : Told) (name : Term → Argument) (us : List Term) → ((u : Term) → Contains us u → IsTold g k (name u) u) → AreTold g k (map name us) us
all_told g k name [] h = tt
all_told g k name (u ∷ us) h = (h u (first u us), all_told g k name us (λ w c. h w (later u us w c)))

-- a premise under its number
pub reference_told : (k : Told) (bs : List Bool) (xs : List Inference) (number : Option ℕ) (x : Inference) → k.assumes ≡ assumes_of bs xs → k.steps ≡ steps_of bs xs → IsNumbered 0 0 bs xs number x → clause_told k (reference_by x (number_or_zero number)) ≡ Some (conclusion x)
reference_told k bs xs number («assumption» t) as_told st_told n =
    let zeroth : n.0 + 0 ≡ n.0 = omega arith in
    ap (λ o. numbered k.assumes (number_or_zero o)) (n.1 ∙ ap (λ m. Some (suc m)) zeroth) ∙ ap (λ cs. slice_get cs n.0) as_told ∙ n.2
reference_told k bs xs number (by_rule r ps given c) as_told st_told n =
    let zeroth : n.0 + 0 ≡ n.0 = omega arith in
    ap (λ o. numbered k.steps (number_or_zero o)) (n.1 ∙ ap (λ m. Some (suc m)) zeroth) ∙ ap (λ cs. slice_get cs n.0) st_told ∙ n.2

-- each of several premises
pub premises_told : (k : Told) (refer : ℕ → Reference) (clause : ℕ → Clause) (ps : List ℕ) → ((p : ℕ) → Contains ps p → clause_told k (refer p) ≡ Some (clause p)) → ArePremises k (map refer ps) (map clause ps)
premises_told k refer clause [] h = refl
premises_told k refer clause (p ∷ ps) h = λ i. h p (first p ps) i ∷ premises_told k refer clause ps (λ q c. h q (later p ps q c)) i
