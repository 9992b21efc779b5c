-- What is found by a name is what has its number.
use Rattle.std.proofs.Common.{◌≡◌, ℕ, zero, suc, ◌+◌, Bool, true, false, cond, List, [], ◌∷◌, ◌++◌, length, Option, Some, None, Contains, refl, sym, ap, ◌∙◌, subst, arith}
use Rattle.std.specs.Prelude.{◌≤◌, ◌||◌, drop}
use Rattle.std.specs.Bool.{Decides}
use Rattle.std.specs.List.{slice_get}
use Rattle.std.specs.Str.{bytes_eq}
use Rattle.std.proofs.lemmas.Option.{slice_get_within, get_or_from_slice_get}
use Rattle.std.proofs.lemmas.Slice.Eq.{bytes_eq-Decides}
use Rattle.spec_text.specs.Bytes.{Name, among}
use Rattle.spec_text.proofs.Members.{first, later}
use Rattle.spec_sorts.specs.Numerals.{number_after}
use Rattle.spec_sorts.specs.Terms.{Symbol}
use Rattle.spec_sorts.specs.Signatures.{Known, known_name, declared, defined, of_sort, of_function, Signature, known_as, symbols_in}
use Rattle.spec_sorts.specs.Literals.{Clause}
use Rattle.spec_checking.specs.Commands.{NamedClause}
use Rattle.spec_checking.specs.Reading.{clause_of, entry_names}
use Rattle.spec_models.specs.Values.{numeral}
use Rattle.spec_models.proofs.Numerals.{numeral_number}
use Rattle.spec_proof_texts.specs.Meaning.{numbered}

-- what is found with one more after, which is the one that is looked for or not
abbrev pub extended : {A : Type 0} → Option A → Bool → A → Option A
extended (Some a) b c = Some a
extended None true c = Some c
extended None false c = None

pub not_extended : {A : Type 0} (o : Option A) (c : A) → extended o false c ≡ o
not_extended (Some a) c = refl
not_extended None c = refl

-- what is found stays so
pub stays : {A : Type 0} (o : Option A) (b : Bool) (c k : A) → o ≡ Some k → extended o b c ≡ Some k
stays (Some x) b c k e = e
stays None b c k e = cc

slice_push : {A : Type 0} (xs : List A) (c : A) (i : ℕ) (b : Bool) → (b ≡ true → i ≡ length xs) → (i ≡ length xs → b ≡ true) → slice_get (xs ++ c ∷ []) i ≡ extended (slice_get xs i) b c
slice_push [] c zero true f g = refl
slice_push [] c zero false f g = let no : false ≡ true = g refl in absurd cc
slice_push [] c (suc i) true f g = absurd (omega (arith, f refl))
slice_push [] c (suc i) false f g = refl
slice_push (x ∷ xs) c zero true f g = absurd (omega (arith, f refl))
slice_push (x ∷ xs) c zero false f g = refl
slice_push (x ∷ xs) c (suc i) b f g = slice_push xs c i b (λ e. omega (arith, f e)) (λ e. g (omega (arith, e)))

pub numbered_push : {A : Type 0} (xs : List A) (c : A) (n : ℕ) (b : Bool) → (b ≡ true → n ≡ length xs + 1) → (n ≡ length xs + 1 → b ≡ true) → numbered (xs ++ c ∷ []) n ≡ extended (numbered xs n) b c
numbered_push xs c zero true f g = absurd (omega (arith, f refl))
numbered_push xs c zero false f g = refl
numbered_push xs c (suc n) b f g = slice_push xs c n b (λ e. omega (arith, f e)) (λ e. g (omega (arith, e)))

-- what has a number is one of them
pub numbered_in : {A : Type 0} (xs : List A) (n : ℕ) (c : A) → numbered xs n ≡ Some c → Contains xs c
numbered_in xs zero c e = cc
numbered_in xs (suc n) c e = (n, slice_get_within xs n c e, get_or_from_slice_get xs n c c e)

numbered_within : {A : Type 0} (xs : List A) (n : ℕ) (c : A) → numbered xs n ≡ Some c → n ≤ length xs
numbered_within xs zero c e = cc
numbered_within xs (suc n) c e = omega (arith, slice_get_within xs n c e)

-- the next number has none
pub numbered_next : {A : Type 0} (xs : List A) → numbered xs (length xs + 1) ≡ None
numbered_next xs = go (numbered xs (length xs + 1)) refl
  where
    go : (o : Option _) → numbered xs (length xs + 1) ≡ o → o ≡ None
    go None e = refl
    go (Some c) e = absurd (omega (arith, numbered_within xs (length xs + 1) c e))

-- a function more
pub function_push : (s : Signature) (k : Known) (n : Name) → known_as (s ++ of_function k ∷ []) n ≡ extended (known_as s n) (bytes_eq (known_name k) n) k
function_push [] k n = go (bytes_eq (known_name k) n)
  where
    go : (b : Bool) → cond b (Some k) None ≡ extended None b k
    go true = refl
    go false = refl
function_push (of_sort m u ∷ s) k n = function_push s k n
function_push (of_function j ∷ s) k n = go (bytes_eq (known_name j) n) (function_push s k n)
  where
    go : (b : Bool) → known_as (s ++ of_function k ∷ []) n ≡ extended (known_as s n) (bytes_eq (known_name k) n) k → cond b (Some j) (known_as (s ++ of_function k ∷ []) n) ≡ extended (cond b (Some j) (known_as s n)) (bytes_eq (known_name k) n) k
    go true h = refl
    go false h = h

-- a declared symbol that is found is one of them, and has the name
pub symbol_found : (s : Signature) (n : Name) (f : Symbol) → known_as s n ≡ Some (declared f) → Contains (symbols_in s) f × (f.name ≡ n)
symbol_found [] n f e = cc
symbol_found (of_sort m u ∷ s) n f e = symbol_found s n f e
symbol_found (of_function (defined d) ∷ s) n f e = go (bytes_eq d.name n) e (symbol_found s n f)
  where
    go : (b : Bool) → cond b (Some (defined d)) (known_as s n) ≡ Some (declared f) → (known_as s n ≡ Some (declared f) → Contains (symbols_in s) f × (f.name ≡ n)) → Contains (symbols_in s) f × (f.name ≡ n)
    go true e rest = absurd cc
    go false e rest = rest e
symbol_found (of_function (declared g) ∷ s) n f e = go (bytes_eq g.name n) (bytes_eq-Decides g.name n).0 e (symbol_found s n f)
  where
    go : (b : Bool) → (b ≡ true → g.name ≡ n) → cond b (Some (declared g)) (known_as s n) ≡ Some (declared f) → (known_as s n ≡ Some (declared f) → Contains (symbols_in s) f × (f.name ≡ n)) → Contains (g ∷ symbols_in s) f × (f.name ≡ n)
    go true same e rest =
        let one : g ≡ f = cc in
        (subst (Contains (g ∷ symbols_in s)) one (first g (symbols_in s)), ap (λ (y : Symbol). y.name) (sym one) ∙ same refl)
    go false same e rest = let r = rest e in (later g (symbols_in s) f r.0, r.1)

-- an entry by its parts
abbrev pub entry : Name → Clause → NamedClause
entry n c = record { name = n; clause = c }

pub clause_push : (es : List NamedClause) (m n : Name) (c : Clause) → clause_of (es ++ entry m c ∷ []) n ≡ extended (clause_of es n) (bytes_eq m n) c
clause_push [] m n c = go (bytes_eq m n)
  where
    go : (b : Bool) → cond b (Some c) None ≡ extended None b c
    go true = refl
    go false = refl
clause_push (e ∷ es) m n c = go (bytes_eq e.name n) (clause_push es m n c)
  where
    go : (b : Bool) → clause_of (es ++ entry m c ∷ []) n ≡ extended (clause_of es n) (bytes_eq m n) c → cond b (Some e.clause) (clause_of (es ++ entry m c ∷ []) n) ≡ extended (cond b (Some e.clause) (clause_of es n)) (bytes_eq m n) c
    go true h = refl
    go false h = h

rest_same : (p xs ys : Name) → p ++ xs ≡ p ++ ys → xs ≡ ys
rest_same [] xs ys e = e
rest_same (b ∷ p) xs ys e = rest_same p xs ys (ap (drop 1) e)

-- names with one prefix and numbers after it are one where the numbers are
pub told_apart : (p : Name) (m n : ℕ) → Decides (bytes_eq (p ++ numeral m) (p ++ numeral n)) (n ≡ m)
told_apart p m n =
    let d = bytes_eq-Decides (p ++ numeral m) (p ++ numeral n) in
    (λ e. sym (numeral_number n) ∙ ap (number_after 0) (sym (rest_same p (numeral m) (numeral n) (d.0 e))) ∙ numeral_number m, λ e. d.1 (ap (λ k. p ++ numeral k) (sym e)))

-- what is not found is none of the names
pub entry_unfound : (es : List NamedClause) (n : Name) → clause_of es n ≡ None → among (entry_names es) n ≡ false
entry_unfound [] n e = refl
entry_unfound (x ∷ es) n e = go (bytes_eq x.name n) (entry_unfound es n) e
  where
    go : (b : Bool) → (clause_of es n ≡ None → among (entry_names es) n ≡ false) → cond b (Some x.clause) (clause_of es n) ≡ None → (b || among (entry_names es) n) ≡ false
    go true rest e = cc
    go false rest e = rest e

pub head_same : {A : Type 0} {x y : A} {xs ys : List A} → x ∷ xs ≡ y ∷ ys → x ≡ y
head_same e = cc

pub tail_same : {A : Type 0} {x y : A} {xs ys : List A} → x ∷ xs ≡ y ∷ ys → xs ≡ ys
tail_same e = cc
