-- Reasons of two literals, and a table and a log that stay as they are.
use Rattle.std.proofs.Common.{◌≡◌, ◌≢◌, pos, [], ◌∷◌, List, Contains, refl, sym, subst, arith}
use Rattle.std.specs.Prelude.{Result, Ok, Err, Option, Some, None, IfOk, IfSome, IfNone}
use Rattle.std.proofs.lemmas.List.{append-nil}
use Rattle.std.proofs.lemmas.List.Elements.{All-nil, All-cons}
use Rattle.ratio128.specs.declared.wide.Wide.{Wide}
use Rattle.linear_form.specs.declared.arith_fault.ArithFault.{ArithFault}
use Rattle.linear_form.specs.declared.arith_fault.ArithFault.TheVariants as faults
use Rattle.spec_numbers.specs.Fractions.{gcd, one_fraction, whole, divide, times, inverse}
use Rattle.spec_sorts.specs.Terms.{Term}
use Rattle.spec_derivations.specs.Lemmas.{IsLemma}
use Rattle.term_core.specs.Tables.{TableView}
use Rattle.term_core.proofs.TermsExtend.{Extends-self}
use Rattle.proof_log.specs.Logs.{Logged, IsLogOf, inference_of, derivation_in}
use Rattle.proof_log.specs.Theories.{Derived, DerivesLemmas}
use Rattle.simplex_explain.specs.declared.weighted.Weighted.{Weighted}
use Rattle.simplex_explain.specs.Reasons.{AreAtomReasons, AreHeld}
use Rattle.bound_lemmas.specs.Literals.{IsAtomOf}

module _ (a b : Weighted) where
  -- they are of atoms
  pub both_of_atoms : (ts : List Term) (t : TableView) → IsAtomOf ts t a.literal → IsAtomOf ts t b.literal → AreAtomReasons ts t (a ∷ b ∷ [])
  both_of_atoms ts t one other =
      let P : Weighted → Type 0 = λ r. IsAtomOf ts t r.literal in
      All-cons P a (b ∷ []) one (All-cons P b [] other (All-nil P))

  -- and they hold where these two literals do
  pub both_held : AreHeld (a.literal ∷ b.literal ∷ []) (a ∷ b ∷ [])
  both_held =
      let P : Weighted → Type 0 = λ r. Contains (a.literal ∷ b.literal ∷ []) r.literal in
      All-cons P a (b ∷ []) (0, omega arith, refl) (All-cons P b [] (1, omega arith, refl) (All-nil P))

-- where nothing came, only lemmas did, namely none
pub nothing_came : (ts : List Term) (old new : Derived) → IsLogOf old.table old.log → new.table ≡ old.table → new.log ≡ old.log → DerivesLemmas ts old new
nothing_came ts old new right e f =
    subst (λ (x : Derived). DerivesLemmas ts old x) (λ i. record { table = sym e i; log = sym f i }) (record {
      table = Extends-self old.table;
      declared = refl;
      more = [];
      log = sym (append-nil old.log);
      right = right;
      lemmas = All-nil (λ (l : Logged). IsLemma ts (derivation_in old.table old.log) _ (inference_of old.table l));
    })

-- these faults are not that of memory
pub wide_is_no_memory : (f : ArithFault) (w : Wide) → f ≡ faults.Wide w → f ≢ faults.Memory
wide_is_no_memory f w is e = cc

pub shape_is_no_memory : (f : ArithFault) → f ≡ faults.Shape → f ≢ faults.Memory
shape_is_no_memory f is e = cc

pub no_contradiction_is_no_memory : (f : ArithFault) → f ≡ faults.NoContradiction → f ≢ faults.Memory
no_contradiction_is_no_memory f is e = cc

-- 1 over 1 is 1
pub one_over_one : divide (whole (pos 1)) (whole (pos 1)) ≡ one_fraction
unfolding times inverse gcd
one_over_one = refl

-- what holds of what is found, or where nothing is, holds also by what follows from it
pub where_some : {A E : Type 0} (P Q : A → Type 0) (r : Result (Option A) E) → ((a : A) → P a → Q a) → IfOk r (λ found. IfSome found P) → IfOk r (λ found. IfSome found Q)
where_some P Q (Ok (Some a)) f h = f a h
where_some P Q (Ok None) f h = tt
where_some P Q (Err e) f h = tt

pub where_none : {A E : Type 0} {P Q : Type 0} (r : Result (Option A) E) → (P → Q) → IfOk r (λ found. IfNone found P) → IfOk r (λ found. IfNone found Q)
where_none (Ok (Some a)) f h = tt
where_none (Ok None) f h = f h
where_none (Err e) f h = tt
