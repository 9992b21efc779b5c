-- An entry that is put in its place.
use Rattle.std.proofs.Common.{◌≡◌, ℕ, ◌+◌, ◌<◌, ◌==◌, true, false, cond, List, [], ◌∷◌, ◌++◌, length, take, drop, append_assoc, refl, sym, ◌∙◌, ap, arith}
use Rattle.std.specs.List.{insert}
use Rattle.std.specs.Prelude.{nat_lt}
use Rattle.std.proofs.lemmas.Bool.Decides.{nat_tests}
use Rattle.std.proofs.lemmas.List.{map-append, take-append-drop, length-append}
use Rattle.std.proofs.Math.Seq.{take-append_seam, drop-append_seam}
use Rattle.spec_tableaux.specs.Rows.{put, with_entry}
use Rattle.spec_tableaux.specs.Numbers.{Number, numbers}
use Rattle.ratio128.specs.declared.ratio.Ratio.{Ratio}
use Rattle.tableau.specs.declared.entries.Entry.{Entry}
use Rattle.tableau.specs.Numbers.{number_of}
use Rattle.tableau.specs.Entries.{entry_of, entries_of}
use Rattle.tableau.proofs.Merging.{put_high}

-- what is put into a list with the variables of `before` below x is put into the rest
abbrev pub PutsIn : List Entry → ℕ → List Entry → Type 0
PutsIn whole x rest = (before : List Entry) × (whole ≡ before ++ rest)
    × ((c : Number) → put numbers x c (entries_of whole) ≡ entries_of before ++ put numbers x c (entries_of rest))

pub puts_first : (whole : List Entry) (x : ℕ) → PutsIn whole x whole
puts_first whole x = ([], refl, λ c. refl)

pub puts_later : (whole left more : List Entry) (x : ℕ) (e : Entry) → left ≡ e ∷ more → e.variable < x → PutsIn whole x left → PutsIn whole x more
puts_later whole left more x e g l p = (
  p.0 ++ e ∷ [],
  p.1 ∙ ap (λ z. p.0 ++ z) g ∙ sym (append_assoc p.0 (e ∷ []) more),
  λ c. p.2 c ∙ ap (λ z. entries_of p.0 ++ put numbers x c (entries_of z)) g ∙ ap (λ z. entries_of p.0 ++ z) (put_high numbers x c (entry_of e) (entries_of more) l)
      ∙ sym (append_assoc (entries_of p.0) (entry_of e ∷ []) (put numbers x c (entries_of more))) ∙ ap (λ z. z ++ put numbers x c (entries_of more)) (sym (map-append entry_of p.0 (e ∷ []))),
)

-- what is put in at a place
abbrev pub PutsAt : List Entry → ℕ → ℕ → Type 0
PutsAt whole x n = (c : Number) → put numbers x c (entries_of whole) ≡ entries_of (take n whole) ++ with_entry numbers x c (entries_of (drop n whole))

pub puts_between : (whole left more : List Entry) (x n : ℕ) (e : Entry) → left ≡ e ∷ more → x < e.variable → n + length left ≡ length whole → PutsIn whole x left → PutsAt whole x n
puts_between whole left more x n e g l m p = λ c.
    p.2 c ∙ (λ i. entries_of (sym first i) ++ (low c ∙ ap (λ z. with_entry numbers x c (entries_of z)) (sym second)) i)
  where
    size : n ≡ length p.0
    size = let k = ap length p.1 ∙ length-append p.0 left in omega (arith, k, m)

    first : take n whole ≡ p.0
    first = (λ i. take (size i) (p.1 i)) ∙ take-append_seam p.0 left

    second : drop n whole ≡ left
    second = (λ i. drop (size i) (p.1 i)) ∙ drop-append_seam p.0 left

    low : (c : Number) → put numbers x c (entries_of left) ≡ with_entry numbers x c (entries_of left)
    low c = ap (λ z. put numbers x c (entries_of z)) g
        ∙ ap (λ q. cond q (with_entry numbers x c (entries_of (e ∷ more))) (cond (x == e.variable) (with_entry numbers x (numbers.plus (number_of e.coefficient) c) (entries_of more)) (entry_of e ∷ put numbers x c (entries_of more))))
        (let k : nat_lt x e.variable ≡ true = grind (arith, nat_tests) in k)
        ∙ ap (λ z. with_entry numbers x c (entries_of z)) (sym g)

pub puts_last : (whole left : List Entry) (x : ℕ) → left ≡ [] → PutsIn whole x left → PutsAt whole x (length whole)
puts_last whole left x g p = λ c.
    p.2 c ∙ (λ i. entries_of (sym first i) ++ (ap (λ z. put numbers x c (entries_of z)) g ∙ ap (λ z. with_entry numbers x c (entries_of z)) (sym second)) i)
  where
    size : length whole ≡ length p.0
    size = let k = ap length p.1 ∙ length-append p.0 left in let z = ap length g in omega (arith, k, z)

    first : take (length whole) whole ≡ p.0
    first = (λ i. take (size i) (p.1 i)) ∙ take-append_seam p.0 left

    second : drop (length whole) whole ≡ []
    second = (λ i. drop (size i) (p.1 i)) ∙ drop-append_seam p.0 left ∙ g

-- nothing is put in
pub put_nothing : (es : List Entry) (n x : ℕ) (c : Number) → numbers.is_zero c ≡ true → PutsAt es x n → entries_of es ≡ put numbers x c (entries_of es)
put_nothing es n x c z p =
    ap entries_of (sym (take-append-drop n es)) ∙ map-append entry_of (take n es) (drop n es)
    ∙ ap (λ q. entries_of (take n es) ++ cond q (entries_of (drop n es)) (record { variable = x; coefficient = c } ∷ entries_of (drop n es))) (sym z) ∙ sym (p c)

-- an entry is put in
pub put_there : (es new : List Entry) (n x : ℕ) (k : Ratio) → numbers.is_zero (number_of k) ≡ false → new ≡ insert es n (record { variable = x; coefficient = k }) → PutsAt es x n
    → entries_of new ≡ put numbers x (number_of k) (entries_of es)
put_there es new n x k z e p =
    ap entries_of e ∙ map-append entry_of (take n es) (record { variable = x; coefficient = k } ∷ drop n es)
    ∙ ap (λ q. entries_of (take n es) ++ cond q (entries_of (drop n es)) (record { variable = x; coefficient = number_of k } ∷ entries_of (drop n es))) (sym z) ∙ sym (p (number_of k))
