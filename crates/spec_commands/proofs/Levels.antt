-- Stacks up to a level, and levels more: what they leave as it was.
use Rattle.std.proofs.Common.{◌≡◌, ℕ, zero, suc, ◌+◌, ◌-◌, ◌<◌, ◌≤◌, Bool, true, false, not, cond, List, [], ◌∷◌, ◌++◌, length, map, take, replicate, All, filter, Option, Some, None, refl, sym, ap, ◌∙◌, subst, ap₂, ⊎_elim, true≢false, arith}
use Rattle.std.proofs.lemmas.Bool.{cases_lt, le-leb, lt-leb, leb-true}
use Rattle.std.proofs.lemmas.List.{append_assoc, append-nil, map-append, length-map, length-append, length-replicate, length-take, length-take-le, take_all, take-append-le, take-take}
use Rattle.std.proofs.lemmas.List.Elements.{All-nil, All-head, All-tail, All-push, All-weaker, All-filter, filter_passes}
use Rattle.std.proofs.lemmas.List.Sums.{length-filter, count_by-le-length}
use Rattle.spec_text.specs.Trees.{Tree}
use Rattle.spec_sorts.specs.Terms.{Term}
use Rattle.spec_sorts.specs.Signatures.{Definition, Declaration, definition}
use Rattle.spec_sorts.specs.Signatures as signatures
use Rattle.spec_commands.specs.Stack.{Assertion, ScopedDeclaration, Stack, Key, success_key, models_key, proofs_key, assertions_key, cores_key, assumptions_key, global_key, empty_stack, signature_of, joined, assertions_of, levels_open, level_now, with_last, begun, with_declaration, with_definitions, with_assertion, with_levels, is_up_to, up_to_level, is_global, emptied, with_option, may_set}
use Rattle.spec_commands.specs.Kept.{AreLeveled}

-- one declaration more is the last of the signature
pub signature_last : (s : Stack) (d : Declaration) → signature_of (with_declaration s d) ≡ signature_of s ++ d ∷ []
signature_last s d = map-append (λ (e : ScopedDeclaration). e.declaration) s.names _

-- definitions more are the last ones
pub signature_with : (s : Stack) (ds : List Definition) → signature_of (with_definitions s ds) ≡ signatures.with_definitions (signature_of s) ds
signature_with s [] = sym (append-nil (signature_of s))
signature_with s (d ∷ ds) =
    signature_with (with_declaration s (definition d)) ds
    ∙ ap (λ x. x ++ map definition ds) (signature_last s (definition d))
    ∙ append_assoc (signature_of s) (definition d ∷ []) (map definition ds)

-- and change no level
pub levels_with : (s : Stack) (ds : List Definition) → (with_definitions s ds).levels ≡ s.levels
levels_with s [] = refl
levels_with s (d ∷ ds) = levels_with (with_declaration s (definition d)) ds

-- nor an option
pub options_with : (s : Stack) (ds : List Definition) → (with_definitions s ds).options ≡ s.options
options_with s [] = refl
options_with s (d ∷ ds) = options_with (with_declaration s (definition d)) ds

-- an assertion more is the last of all
pub joined_last : (ls : List (List Assertion)) (a : Assertion) → joined (with_last ls a) ≡ joined ls ++ a ∷ []
joined_last [] a = refl
joined_last (l ∷ []) a = append-nil (l ++ a ∷ []) ∙ ap (λ x. x ++ a ∷ []) (sym (append-nil l))
joined_last (l ∷ m ∷ ls) a = ap (λ x. l ++ x) (joined_last (m ∷ ls) a) ∙ sym (append_assoc l (joined (m ∷ ls)) (a ∷ []))

module _ {A : Type 0} (p : A → Bool) where
  -- what passes is all
  filter_all : (xs : List A) → All (λ x. p x ≡ true) xs → filter p xs ≡ xs
  filter_all [] h = refl
  filter_all (x ∷ xs) h =
      ap (λ (b : Bool). cond b (x ∷ filter p xs) (filter p xs)) (All-head (λ y. p y ≡ true) x xs h) ∙ ap (λ l. x ∷ l) (filter_all xs (All-tail (λ y. p y ≡ true) x xs h))

  -- an element that does not pass, after the others
  filter_out : (xs : List A) (x : A) → p x ≡ false → filter p (xs ++ x ∷ []) ≡ filter p xs
  filter_out [] x e = ap (λ (b : Bool). cond b (x ∷ []) []) e
  filter_out (y ∷ xs) x e = ap (λ l. cond (p y) (y ∷ l) l) (filter_out xs x e)

  -- what passes nowhere
  filter_none : (xs : List A) → All (λ x. p x ≡ false) xs → filter p xs ≡ []
  filter_none [] h = refl
  filter_none (x ∷ xs) h =
      ap (λ (b : Bool). cond b (x ∷ filter p xs) (filter p xs)) (All-head (λ y. p y ≡ false) x xs h) ∙ filter_none xs (All-tail (λ y. p y ≡ false) x xs h)

-- what passes the narrower of two tests
filter_twice : {A : Type 0} (p q : A → Bool) → ((x : A) → p x ≡ true → q x ≡ true) → (xs : List A) → filter p (filter q xs) ≡ filter p xs
filter_twice p q narrower [] = refl
filter_twice p q narrower (x ∷ xs) = go (p x) (q x) refl refl (filter_twice p q narrower xs)
  where
    go : (b c : Bool) → p x ≡ b → q x ≡ c → filter p (filter q xs) ≡ filter p xs → filter p (cond c (x ∷ filter q xs) (filter q xs)) ≡ cond (p x) (x ∷ filter p xs) (filter p xs)
    go b true e f more = ap (λ l. cond (p x) (x ∷ l) l) more
    go false false e f more = more ∙ ap (λ (b : Bool). cond b (x ∷ filter p xs) (filter p xs)) (sym e)
    go true false e f more = absurd (true≢false (sym (narrower x e) ∙ f))

-- the levels above the first one
open_is : (ls : List (List Assertion)) → levels_open ls ≡ length ls - 1
open_is [] = refl
open_is (l ∷ []) = refl
open_is (l ∷ m ∷ ls) = let more = open_is (m ∷ ls) in omega (arith, more)

-- a first level that is there
levels_long : (ls : List (List Assertion)) → 0 < length ls → length ls ≡ levels_open ls + 1
levels_long ls h = omega (arith, open_is ls, h)

levels_most : (ls : List (List Assertion)) → length ls ≤ levels_open ls + 1
levels_most ls = omega (arith, open_is ls)

-- an assertion more opens no level
length_last : (l : List Assertion) (ls : List (List Assertion)) (a : Assertion) → length (with_last (l ∷ ls) a) ≡ length (l ∷ ls)
length_last l [] a = refl
length_last l (m ∷ ls) a = ap suc (length_last m ls a)

pub open_last : (ls : List (List Assertion)) (a : Assertion) → levels_open (with_last ls a) ≡ levels_open ls
open_last [] a = refl
open_last (l ∷ ls) a = open_is (with_last (l ∷ ls) a) ∙ ap (λ n. n - 1) (length_last l ls a) ∙ sym (open_is (l ∷ ls))

-- up to a level that is there so many are open
pub open_up_to : (k : ℕ) (s : Stack) → 0 < length s.levels → k ≤ levels_open s.levels → levels_open (up_to_level k s).levels ≡ k
open_up_to k s first le =
    let long = length-take-le (suc k) s.levels (omega (arith, levels_long s.levels first, le)) in omega (arith, open_is (take (suc k) s.levels), long)

-- and never more
pub open_up_to_most : (k : ℕ) (s : Stack) → levels_open (up_to_level k s).levels ≤ k
open_up_to_most k s = omega (arith, open_is (take (suc k) s.levels), length-take (suc k) s.levels)

-- nor more names
fewer_names : (p : ScopedDeclaration → Bool) (ns : List ScopedDeclaration)
    → length (map (λ (e : ScopedDeclaration). e.declaration) (filter p ns)) ≤ length (map (λ (e : ScopedDeclaration). e.declaration) ns)
fewer_names p ns =
    omega (arith, length-map (filter p ns) (λ (e : ScopedDeclaration). e.declaration), length-map ns (λ (e : ScopedDeclaration). e.declaration), length-filter p ns, count_by-le-length p ns)

pub shorter_up_to : (k : ℕ) (s : Stack) → length (signature_of (up_to_level k s)) ≤ length (signature_of s)
shorter_up_to k s = fewer_names (λ (e : ScopedDeclaration). is_up_to k e.level) s.names

pub shorter_emptied : (s : Stack) → length (signature_of (emptied s)) ≤ length (signature_of s)
shorter_emptied s = fewer_names (λ (e : ScopedDeclaration). is_global e.level) s.names

-- what is there up to a level is there up to a later one
up_to_later : (j k : ℕ) → j ≤ k → (l : Option ℕ) → is_up_to j l ≡ true → is_up_to k l ≡ true
up_to_later j k le None h = refl
up_to_later j k le (Some l) h = le-leb l k (omega (arith, leb-true l j h, le))

-- and what is global up to each
global_up_to : (k : ℕ) (l : Option ℕ) → is_global l ≡ true → is_up_to k l ≡ true
global_up_to k None h = refl
global_up_to k (Some l) h = absurd (true≢false (sym h))

-- the level of what is declared now
level_low : (s : Stack) → is_up_to (levels_open s.levels) (level_now s) ≡ true
level_low s = go s.options.global_declarations
  where
    go : (b : Bool) → is_up_to (levels_open s.levels) (cond {A = Option ℕ} b None (Some (levels_open s.levels))) ≡ true
    go true = refl
    go false = le-leb (levels_open s.levels) (levels_open s.levels) (omega arith)

level_alike : (s : Stack) → is_global (level_now s) ≡ s.options.global_declarations
level_alike s = go s.options.global_declarations
  where
    go : (b : Bool) → is_global (cond {A = Option ℕ} b None (Some (levels_open s.levels))) ≡ b
    go true = refl
    go false = refl

level_high : (k : ℕ) (s : Stack) → s.options.global_declarations ≡ false → k < levels_open s.levels → is_up_to k (level_now s) ≡ false
level_high k s off lt = ap (λ (b : Bool). is_up_to k (cond {A = Option ℕ} b None (Some (levels_open s.levels)))) off ∙ lt-leb (levels_open s.levels) k lt

pub open_pushed : (n : ℕ) (s : Stack) → 0 < length s.levels → levels_open (with_levels n s).levels ≡ levels_open s.levels + n
open_pushed n s first =
    omega (arith, open_is (s.levels ++ replicate n []), length-append s.levels (replicate n []), length-replicate {A = List Assertion} n [], levels_long s.levels first)

-- the lower of two levels
pub up_to_twice : (j k : ℕ) (s : Stack) → j ≤ k → up_to_level j (up_to_level k s) ≡ up_to_level j s
up_to_twice j k s le =
    ap₂ (λ (ns : List ScopedDeclaration) (ls : List (List Assertion)). record s { names = ns; levels = ls })
    (filter_twice (λ (e : ScopedDeclaration). is_up_to j e.level) (λ (e : ScopedDeclaration). is_up_to k e.level) (λ e h. up_to_later j k le e.level h) s.names)
    (take-take (suc j) (suc k) s.levels (omega (arith, le)))

-- up to the last level, or past it, nothing is closed
all_up_to : (s : Stack) (k : ℕ) → AreLeveled s → levels_open s.levels ≤ k → filter (λ (e : ScopedDeclaration). is_up_to k e.level) s.names ≡ s.names
all_up_to s k h le =
    filter_all (λ (e : ScopedDeclaration). is_up_to k e.level) s.names
    (All-weaker (λ (e : ScopedDeclaration). is_up_to (levels_open s.levels) e.level ≡ true) (λ (e : ScopedDeclaration). is_up_to k e.level ≡ true) (λ e low. up_to_later (levels_open s.levels) k le e.level low) s.names h.names)

pub up_to_all : (s : Stack) (k : ℕ) → AreLeveled s → levels_open s.levels ≤ k → up_to_level k s ≡ s
up_to_all s k h le =
    ap₂ (λ (ns : List ScopedDeclaration) (ls : List (List Assertion)). record s { names = ns; levels = ls }) (all_up_to s k h le)
    (take_all (suc k) s.levels (omega (arith, levels_most s.levels, le)))

-- where declarations are global, all are there up to each level
each_global : (s : Stack) → AreLeveled s → s.options.global_declarations ≡ true → All (λ (e : ScopedDeclaration). is_global e.level ≡ true) s.names
each_global s h on =
    All-weaker (λ (e : ScopedDeclaration). is_global e.level ≡ s.options.global_declarations) (λ (e : ScopedDeclaration). is_global e.level ≡ true) (λ e same. same ∙ on) s.names h.alike

pub global_names : (k : ℕ) (s : Stack) → AreLeveled s → s.options.global_declarations ≡ true → signature_of (up_to_level k s) ≡ signature_of s
global_names k s h on =
    ap (λ (ns : List ScopedDeclaration). map (λ (e : ScopedDeclaration). e.declaration) ns)
    (filter_all (λ (e : ScopedDeclaration). is_up_to k e.level) s.names
    (All-weaker (λ (e : ScopedDeclaration). is_global e.level ≡ true) (λ (e : ScopedDeclaration). is_up_to k e.level ≡ true) (λ e is. global_up_to k e.level is) s.names (each_global s h on)))

-- and stay where assertions are taken back; else none does
pub global_emptied : (s : Stack) → AreLeveled s → s.options.global_declarations ≡ true → signature_of (emptied s) ≡ signature_of s
global_emptied s h on = ap (λ (ns : List ScopedDeclaration). map (λ (e : ScopedDeclaration). e.declaration) ns) (filter_all (λ (e : ScopedDeclaration). is_global e.level) s.names (each_global s h on))

pub local_emptied : (s : Stack) → AreLeveled s → s.options.global_declarations ≡ false → signature_of (emptied s) ≡ []
local_emptied s h off =
    ap (λ (ns : List ScopedDeclaration). map (λ (e : ScopedDeclaration). e.declaration) ns)
    (filter_none (λ (e : ScopedDeclaration). is_global e.level) s.names
    (All-weaker (λ (e : ScopedDeclaration). is_global e.level ≡ s.options.global_declarations) (λ (e : ScopedDeclaration). is_global e.level ≡ false) (λ e same. same ∙ off) s.names h.alike))

-- what is asserted up to a level comes first
joined_front : (n : ℕ) (ls : List (List Assertion)) → (more : List Assertion) × (joined ls ≡ joined (take n ls) ++ more)
joined_front zero ls = (joined ls, refl)
joined_front (suc n) [] = ([], refl)
joined_front (suc n) (l ∷ ls) = let rest = joined_front n ls in (rest.0, ap (λ x. l ++ x) rest.1 ∙ sym (append_assoc l (joined (take n ls)) rest.0))

pub assertions_up_to : (k : ℕ) (s : Stack) → (more : List Assertion) × (assertions_of s ≡ assertions_of (up_to_level k s) ++ more)
assertions_up_to k s = joined_front (suc k) s.levels

-- what is done at the last level changes none below it, where declarations belong to levels
pub up_to_declared : (k : ℕ) (s : Stack) (d : Declaration) → s.options.global_declarations ≡ false → k < levels_open s.levels → up_to_level k (with_declaration s d) ≡ up_to_level k s
up_to_declared k s d off lt =
    ap (λ (ns : List ScopedDeclaration). record s { names = ns; levels = take (suc k) s.levels })
    (filter_out (λ (e : ScopedDeclaration). is_up_to k e.level) s.names (record { level = level_now s; declaration = d }) (level_high k s off lt))

pub up_to_defined : (k : ℕ) (s : Stack) (ds : List Definition) → s.options.global_declarations ≡ false → k < levels_open s.levels → up_to_level k (with_definitions s ds) ≡ up_to_level k s
up_to_defined k s [] off lt = refl
up_to_defined k s (d ∷ ds) off lt = up_to_defined k (with_declaration s (definition d)) ds off lt ∙ up_to_declared k s (definition d) off lt

take_last : (k : ℕ) (ls : List (List Assertion)) (a : Assertion) → k ≤ levels_open ls → take k (with_last ls a) ≡ take k ls
take_last zero ls a le = refl
take_last (suc k) [] a le = absurd (omega (arith, le))
take_last (suc k) (l ∷ []) a le = absurd (omega (arith, le))
take_last (suc k) (l ∷ m ∷ ls) a le = ap (λ x. l ∷ x) (take_last k (m ∷ ls) a (omega (arith, le)))

pub up_to_asserted : (k : ℕ) (s : Stack) (t : Tree) (u : Term) → k < levels_open s.levels → up_to_level k (with_assertion s t u) ≡ up_to_level k s
up_to_asserted k s t u lt =
    ap (λ (ls : List (List Assertion)). record (up_to_level k s) { levels = ls }) (take_last (suc k) s.levels (record { text = t; term = u }) (omega (arith, lt)))

-- levels more change none of those that were there
pub up_to_pushed : (n k : ℕ) (s : Stack) → 0 < length s.levels → k ≤ levels_open s.levels → AreLeveled s → up_to_level k (with_levels n s) ≡ up_to_level k s
up_to_pushed n k s first le h =
    ap (λ (ls : List (List Assertion)). record (up_to_level k s) { levels = ls })
    (take-append-le (suc k) s.levels (replicate n []) (omega (arith, levels_long s.levels first, le)))

-- and have no assertions
joined_none : (m n : ℕ) → joined {A = Assertion} (take m (replicate n [])) ≡ []
joined_none zero n = refl
joined_none (suc m) zero = refl
joined_none (suc m) (suc n) = joined_none m n

joined_more : (m n : ℕ) (ls : List (List Assertion)) → length ls ≤ m → joined (take m (ls ++ replicate n [])) ≡ joined ls
joined_more m n [] le = joined_none m n
joined_more zero n (l ∷ ls) le = absurd (omega (arith, le))
joined_more (suc m) n (l ∷ ls) le = ap (λ x. l ++ x) (joined_more m n ls (omega (arith, le)))

pub assertions_pushed : (n : ℕ) (s : Stack) → assertions_of (with_levels n s) ≡ assertions_of s
assertions_pushed n s =
    let all = take_all (length (s.levels ++ replicate n [])) (s.levels ++ replicate n []) (omega arith) in
    sym (ap joined all) ∙ joined_more (length (s.levels ++ replicate n [])) n s.levels (omega (arith, length-append s.levels (replicate n [])))

-- so names and assertions up to one of them are all
pub same_up_to_pushed : (n k : ℕ) (s : Stack) → levels_open s.levels ≤ k → AreLeveled s → (signature_of (up_to_level k (with_levels n s)) ≡ signature_of s) × (assertions_of (up_to_level k (with_levels n s)) ≡ assertions_of s)
same_up_to_pushed n k s le h =
    (ap (λ (ns : List ScopedDeclaration). map (λ (e : ScopedDeclaration). e.declaration) ns) (all_up_to s k h le), joined_more (suc k) n s.levels (omega (arith, levels_most s.levels, le)))

-- a command that ends the start does so before or after names that come
pub begun_defined : (s : Stack) (ds : List Definition) → with_definitions (begun s) ds ≡ begun (with_definitions s ds)
begun_defined s [] = refl
begun_defined s (d ∷ ds) = begun_defined (with_declaration s (definition d)) ds

-- names belong to levels that are there, after each change
abbrev IsLow : ℕ → ScopedDeclaration → Type 0
IsLow k e = is_up_to k e.level ≡ true

abbrev IsAlike : Bool → ScopedDeclaration → Type 0
IsAlike b e = is_global e.level ≡ b

abbrev IsEarly : Stack → Type 0
IsEarly s = s.started ≡ false → (s.names ≡ []) × (levels_open s.levels ≡ 0)

-- after the start
late : (s : Stack) → s.started ≡ true → IsEarly s
late s on e = absurd (true≢false (sym on ∙ e))

pub leveled_declared : (s : Stack) (d : Declaration) → s.started ≡ true → AreLeveled s → AreLeveled (with_declaration s d)
leveled_declared s d on h =
    let new : ScopedDeclaration = record { level = level_now s; declaration = d } in record {
      first = h.first;
      names = All-push (IsLow (levels_open s.levels)) s.names new h.names (level_low s);
      alike = All-push (IsAlike s.options.global_declarations) s.names new h.alike (level_alike s);
      early = late (with_declaration s d) on;
    }

pub leveled_defined : (s : Stack) (ds : List Definition) → s.started ≡ true → AreLeveled s → AreLeveled (with_definitions s ds)
leveled_defined s [] on h = h
leveled_defined s (d ∷ ds) on h = leveled_defined (with_declaration s (definition d)) ds on (leveled_declared s (definition d) on h)

first_last : (ls : List (List Assertion)) (a : Assertion) → 0 < length (with_last ls a)
first_last [] a = omega arith
first_last (l ∷ ls) a = omega (arith, length_last l ls a)

pub leveled_asserted : (s : Stack) (t : Tree) (u : Term) → AreLeveled s → AreLeveled (with_assertion s t u)
leveled_asserted s t u h =
    let a : Assertion = record { text = t; term = u } in record {
      first = first_last s.levels a;
      names = subst (λ k. All (IsLow k) s.names) (sym (open_last s.levels a)) h.names;
      alike = h.alike;
      early = λ e. let start = h.early e in (start.0, open_last s.levels a ∙ start.1);
    }

pub leveled_pushed : (n : ℕ) (s : Stack) → s.started ≡ true → AreLeveled s → AreLeveled (with_levels n s)
leveled_pushed n s on h = record {
  first = omega (arith, h.first, length-append s.levels (replicate n []));
  names = subst (λ k. All (IsLow k) s.names) (sym (open_pushed n s h.first))
      (All-weaker (IsLow (levels_open s.levels)) (IsLow (levels_open s.levels + n)) (λ e low. up_to_later (levels_open s.levels) (levels_open s.levels + n) (omega arith) e.level low) s.names h.names);
  alike = h.alike;
  early = late (with_levels n s) on;
}

pub leveled_up_to : (k : ℕ) (s : Stack) → AreLeveled s → AreLeveled (up_to_level k s)
leveled_up_to k s h = ⊎_elim below above (cases_lt k (levels_open s.levels))
  where
    below : k < levels_open s.levels → AreLeveled (up_to_level k s)
    below lt = record {
      first = omega (arith, h.first, length-take (suc k) s.levels);
      names = subst (λ j. All (IsLow j) (filter (λ (e : ScopedDeclaration). is_up_to k e.level) s.names)) (sym (open_up_to k s h.first (omega (arith, lt))))
          (filter_passes (λ (e : ScopedDeclaration). is_up_to k e.level) s.names);
      alike = All-filter (λ (e : ScopedDeclaration). is_up_to k e.level) (IsAlike s.options.global_declarations) s.names h.alike;
      early = λ e. absurd (omega (arith, lt, (h.early e).1));
    }

    above : levels_open s.levels ≤ k → AreLeveled (up_to_level k s)
    above le = subst AreLeveled (sym (up_to_all s k h le)) h

pub leveled_emptied : (s : Stack) → AreLeveled s → AreLeveled (emptied s)
leveled_emptied s h =
    let p = λ (e : ScopedDeclaration). is_global e.level in record {
      first = omega arith;
      names = All-weaker (λ (e : ScopedDeclaration). is_global e.level ≡ true) (IsLow 0) (λ e is. global_up_to 0 e.level is) (filter p s.names) (filter_passes p s.names);
      alike = All-filter p (IsAlike s.options.global_declarations) s.names h.alike;
      early = λ e. (ap (filter p) (h.early e).0, refl);
    }

pub leveled_empty : AreLeveled empty_stack
leveled_empty = record { first = omega arith; names = All-nil (IsLow 0); alike = All-nil (IsAlike false); early = λ e. (refl, refl) }

pub leveled_begun : (s : Stack) → AreLeveled s → AreLeveled (begun s)
leveled_begun s h = record { first = h.first; names = h.names; alike = h.alike; early = late (begun s) refl }

-- an option that may be set
pub not_true : (b : Bool) → not b ≡ true → b ≡ false
not_true true e = absurd (true≢false (sym e))
not_true false e = refl

pub leveled_option : (s : Stack) (k : Key) (b : Bool) → may_set k s ≡ true → AreLeveled s → AreLeveled (record s { options = with_option k b s.options })
leveled_option s k b may h = record { first = h.first; names = h.names; alike = alike k may; early = h.early }
  where
    none : not s.started ≡ true → All (IsAlike b) s.names
    none e = subst (λ ns. All (IsAlike b) ns) (sym (h.early (not_true s.started e)).0) (All-nil (IsAlike b))

    alike : (k : Key) → may_set k s ≡ true → All (IsAlike (with_option k b s.options).global_declarations) s.names
    alike success_key e = h.alike
    alike models_key e = h.alike
    alike proofs_key e = h.alike
    alike assertions_key e = h.alike
    alike cores_key e = h.alike
    alike assumptions_key e = h.alike
    alike global_key e = none e
