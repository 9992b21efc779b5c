-- Parameters have names of their own, and the values that are bound to them.
use Rattle.std.proofs.Common.{◌≡◌, ◌≢◌, ℕ, zero, suc, ◌+◌, ◌<◌, ◌≤◌, Bool, true, false, cond, List, [], ◌∷◌, ◌++◌, length, get_or, drop, Some, None, refl, sym, ap, ◌∙◌, arith}
use Rattle.std.specs.Prelude.{not, Ok}
use Rattle.std.specs.Str.{bytes_eq}
use Rattle.std.specs.List.{AllByRecursion}
use Rattle.std.proofs.lemmas.Bool.{false≢true}
use Rattle.std.proofs.lemmas.Slice.Eq.{bytes_eq-Decides}
use Rattle.spec_text.specs.declared.Kind.TheVariants.{Simple, Quoted}
use Rattle.spec_text.specs.declared.Fault.TheVariants.{Twice}
use Rattle.spec_text.specs.Bytes.{Name, among}
use Rattle.spec_text.specs.Answers.{◌>>=◌, require}
use Rattle.spec_text.specs.Trees.{atom}
use Rattle.spec_text.specs.Printed.{is_bare}
use Rattle.spec_text.proofs.AnswerLaws.{joined}
use Rattle.spec_text.proofs.General.{bytes_itself, among_last}
use Rattle.spec_text.proofs.Printing.{moved, moved_all}
use Rattle.spec_sorts.specs.Numerals.{number_after}
use Rattle.spec_sorts.specs.Terms.{Sort, Truth, Number, Declared}
use Rattle.spec_sorts.specs.Values.{Value}
use Rattle.spec_sorts.specs.Theory.{look_up, is_of_theory}
use Rattle.spec_sorts.specs.Signatures.{Signature}
use Rattle.spec_sorts.specs.Meaning.{bind}
use Rattle.spec_reading.specs.Names.{new_name, is_in_list}
use Rattle.spec_reading.specs.Sorts.{sort_in}
use Rattle.spec_reading.specs.Definitions.{parameters_in}
use Rattle.spec_models.specs.Values.{trees_of, sort_tree}
use Rattle.spec_models.specs.Models.{parameter, parameters_from, parameter_trees}
use Rattle.spec_models.specs.Meaning.{model, IsSortIn}
use Rattle.spec_models.proofs.Numerals.{numeral_number}

-- parameters of other numbers have other names
parameters_apart : (j k : ℕ) → j ≢ k → bytes_eq (parameter j) (parameter k) ≡ false
parameters_apart j k other = go (bytes_eq (parameter j) (parameter k)) (bytes_eq-Decides (parameter j) (parameter k)).0
  where
    go : (c : Bool) → (c ≡ true → parameter j ≡ parameter k) → c ≡ false
    go true same = absurd (other (sym (numeral_number j) ∙ ap (λ (n : Name). number_after 0 (drop 2 n)) (same refl) ∙ numeral_number k))
    go false same = refl

-- no name of a theory is a parameter's
pub no_theory_bound : (k : ℕ) (ss : List Sort) (vs : List Value) (n : Name) → is_of_theory n ≡ true → look_up (bind (parameters_from k ss) vs) n ≡ None
no_theory_bound k [] vs n h = refl
no_theory_bound k (s ∷ ss) [] n h = refl
no_theory_bound k (s ∷ ss) (v ∷ vs) n h = go (bytes_eq (parameter k) n) (bytes_eq-Decides (parameter k) n).0 (no_theory_bound (suc k) ss vs n h)
  where
    go : (c : Bool) → (c ≡ true → parameter k ≡ n) → look_up (bind (parameters_from (suc k) ss) vs) n ≡ None → cond c (Some v) (look_up (bind (parameters_from (suc k) ss) vs) n) ≡ None
    go true same later = absurd (false≢true (ap is_of_theory (same refl) ∙ h))
    go false same later = later

-- each parameter has the value in its place
pub bound_at : (k : ℕ) (ss : List Sort) (vs : List Value) → length vs ≡ length ss → (j : ℕ) (d : Value) → j < length vs → look_up (bind (parameters_from k ss) vs) (parameter (k + j)) ≡ Some (get_or vs j d)
bound_at k ss [] e j d lt = absurd (omega (arith, lt))
bound_at k [] (v ∷ vs) e j d lt = absurd (omega (arith, e))
bound_at k (s ∷ ss) (v ∷ vs) e zero d lt = ap (λ c. cond c (Some v) (look_up (bind (parameters_from (suc k) ss) vs) (parameter (k + 0)))) (ap (λ n. bytes_eq (parameter k) (parameter n)) (plus_zero k) ∙ bytes_itself (parameter k))
  where
    plus_zero : (n : ℕ) → n + 0 ≡ n
    plus_zero n = omega arith
bound_at k (s ∷ ss) (v ∷ vs) e (suc j) d lt =
    ap (λ c. cond c (Some v) (look_up (bind (parameters_from (suc k) ss) vs) (parameter (k + suc j)))) (parameters_apart k (k + suc j) (λ same. omega (arith, same)))
    ∙ ap (λ n. look_up (bind (parameters_from (suc k) ss) vs) (parameter n)) (later k j)
    ∙ bound_at (suc k) ss vs (omega (arith, e)) j d (omega (arith, lt))
  where
    later : (k j : ℕ) → k + suc j ≡ suc k + j
    later k j = omega arith

-- a sort that a signature has is read as itself
pub sort_read : (g : Signature) (s : Sort) → IsSortIn g s → (at : ℕ) → sort_in g (moved at (sort_tree s)) ≡ Ok s
sort_read g Truth h at = refl
sort_read g Number h at = refl
sort_read g (Declared n) h at = go (is_bare n)
  where
    go : (c : Bool) → sort_in g (atom at (cond c Simple Quoted) n) ≡ Ok (Declared n)
    go true = h.sort at
    go false = h.sort at

-- the names of the parameters from a number on are not among these
abbrev AreFree : ℕ → List Name → Type 0
AreFree k names = (j : ℕ) → k ≤ j → among names (parameter j) ≡ false

-- a parameter's name is new
new_read : (at k : ℕ) (names : List Name) → among names (parameter k) ≡ false → new_name model (is_in_list names) (record { at = at; kind = Simple; bytes = parameter k }) ≡ Ok (parameter k)
unfolding ◌>>=◌ require
new_read at k names free = ap (λ c. require (not c) at Twice >>= λ new. Ok (parameter k)) free

-- parameters are read back, each with its sort
pub parameters_read : (g : Signature) (k : ℕ) (ss : List Sort) (names : List Name) → AllByRecursion (IsSortIn g) ss → AreFree k names → (at : ℕ) → parameters_in model g names (moved_all at (trees_of (parameter_trees (parameters_from k ss)))) ≡ Ok (parameters_from k ss)
unfolding parameters_in
parameters_read g k [] names h free at = refl
parameters_read g k (s ∷ ss) names h free at =
    joined _ _ (parameter k) _ (new_read _ k names (free k (omega arith)))
    (joined _ _ s _ (sort_read g s h.0 _)
    (joined _ _ (parameters_from (suc k) ss) _ (parameters_read g (suc k) ss (names ++ parameter k ∷ []) h.1 (λ j le. among_last names (parameter k) (parameter j) (free j (omega (arith, le))) (parameters_apart k j (λ same. omega (arith, le, same)))) _) refl))
