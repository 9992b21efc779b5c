-- Where trees are: the offsets of their atoms and lists.
use Rattle.std.specs.Prelude.{◌≡◌, ◌⊎◌, ℕ, refl}
use Rattle.std.proofs.Common.{inl, inr, subst}
use Rattle.spec_text.specs.Trees.{Tree, Trees, atom, list, none, more}

-- a property holds of each offset at which a tree or a part of it begins: of an atom's first byte, and of a list's
-- opening parenthesis
abbrev mutual
  -- in a tree
  pub AllOffsets : (ℕ → Type 0) → Tree → Type 0
  AllOffsets P (atom at k bytes) = P at
  AllOffsets P (list at ts end) = P at × AllOffsetsOf P ts

  -- in trees, one after the other
  pub AllOffsetsOf : (ℕ → Type 0) → Trees → Type 0
  AllOffsetsOf P none = Unit {0}
  AllOffsetsOf P (more t ts) = AllOffsets P t × AllOffsetsOf P ts

-- an atom or a list begins at an offset
abbrev mutual
  -- in a tree
  pub HasOffset : Tree → ℕ → Type 0
  HasOffset (atom at k bytes) n = at ≡ n
  HasOffset (list at ts end) n = (at ≡ n) ⊎ HaveOffset ts n

  -- in trees, one after the other
  pub HaveOffset : Trees → ℕ → Type 0
  HaveOffset none n = ⊥
  HaveOffset (more t ts) n = HasOffset t n ⊎ HaveOffset ts n

-- what holds of each offset holds of one
mutual
  -- in a tree
  pub at_offset : (P : ℕ → Type 0) (t : Tree) (n : ℕ) → AllOffsets P t → HasOffset t n → P n
  at_offset P (atom at k bytes) n all e = subst P e all
  at_offset P (list at ts end) n all (inl e) = subst P e all.0
  at_offset P (list at ts end) n all (inr h) = at_offset_of P ts n all.1 h

  -- in trees, one after the other
  pub at_offset_of : (P : ℕ → Type 0) (ts : Trees) (n : ℕ) → AllOffsetsOf P ts → HaveOffset ts n → P n
  at_offset_of P none n all h = absurd h
  at_offset_of P (more t ts) n all (inl h) = at_offset P t n all.0 h
  at_offset_of P (more t ts) n all (inr h) = at_offset_of P ts n all.1 h

-- where one property implies another on numbers, it does so on offsets
mutual
  -- in a tree
  pub weaker_offsets : (P Q : ℕ → Type 0) → ((n : ℕ) → P n → Q n) → (t : Tree) → AllOffsets P t → AllOffsets Q t
  weaker_offsets P Q f (atom at k bytes) all = f at all
  weaker_offsets P Q f (list at ts end) all = (f at all.0, weaker_offsets_of P Q f ts all.1)

  -- in trees, one after the other
  pub weaker_offsets_of : (P Q : ℕ → Type 0) → ((n : ℕ) → P n → Q n) → (ts : Trees) → AllOffsetsOf P ts
      → AllOffsetsOf Q ts
  weaker_offsets_of P Q f none all = tt
  weaker_offsets_of P Q f (more t ts) all = (weaker_offsets P Q f t all.0, weaker_offsets_of P Q f ts all.1)

-- each offset is one of its own
mutual
  -- in a tree
  pub own_offsets : (t : Tree) → AllOffsets (HasOffset t) t
  own_offsets (atom at k bytes) = refl
  own_offsets (list at ts end) =
      (inl refl, weaker_offsets_of (HaveOffset ts) (HasOffset (list at ts end)) (λ n h. inr h) ts (own_offsets_of ts))

  -- in trees, one after the other
  pub own_offsets_of : (ts : Trees) → AllOffsetsOf (HaveOffset ts) ts
  own_offsets_of none = tt
  own_offsets_of (more t ts) = (
    weaker_offsets (HasOffset t) (HaveOffset (more t ts)) (λ n h. inl h) t
        (own_offsets t),
    weaker_offsets_of (HaveOffset ts) (HaveOffset (more t ts)) (λ n h. inr h) ts (own_offsets_of ts),
  )
