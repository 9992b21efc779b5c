-- The text at an index, and the first one of a name.
use Rattle.std.proofs.Common.{◌≡◌, ℕ, zero, suc, ◌+◌, ◌≤◌, ◌<◌, true, List, [], ◌∷◌, ◌++◌, length, map, take, drop, get_or, Some, refl, sym, ap, cond, arith}
use Rattle.std.specs.Prelude.{string_bytes}
use Rattle.std.specs.Str.{bytes_eq}
use Rattle.std.proofs.lemmas.List.{take_at, drop-drop, take-append-drop, length-take-le}
use Rattle.world_io.specs.Memory.{NamedText, bytes_of_entry, text_named, text_at}

-- the text of the entry at an index
pub text_at-is : (es : List NamedText) (k : ℕ) (t : NamedText) → k < length es → t ≡ get_or es k t → t.1 ≡ text_at (map bytes_of_entry es) k
text_at-is [] k t h e = absurd (omega arith)
text_at-is (u ∷ es) zero t h e = ap (λ (x : NamedText). x.1) e
text_at-is (u ∷ es) (suc k) t h e = text_at-is es k t (omega arith) e

-- no text is past the last
pub text_at-past : (es : List NamedText) (k : ℕ) → length es ≤ k → [] ≡ text_at (map bytes_of_entry es) k
text_at-past [] k h = refl
text_at-past (u ∷ es) zero h = absurd (omega arith)
text_at-past (u ∷ es) (suc k) h = text_at-past es k (omega arith)

-- the text at an index that has the name is found from there on
pub named_at : (es : List NamedText) (k : ℕ) (t : NamedText) (name : List ℕ) → k < length es → t ≡ get_or es k t → bytes_eq (string_bytes t.0) name ≡ true → text_named (map bytes_of_entry (drop k es)) name ≡ Some t.1
named_at [] k t name h e s = absurd (omega arith)
named_at (u ∷ es) zero t name h e s = rw (← e) (ap (λ b. cond b (Some t.1) (text_named (map bytes_of_entry es) name)) s)
named_at (u ∷ es) (suc k) t name h e s = named_at es k t name (omega arith) e s

-- a prefix that was copied, and what comes after it
pub moved_front : (text buf left copied : List ℕ) (o n : ℕ) → left ≡ drop o text → copied ≡ take n left → n ≤ length left → drop o text ≡ take n (copied ++ drop n buf) ++ drop (o + n) text
moved_front text buf left copied o n l c h =
    let len : length copied ≡ n = rw c (length-take-le n left h) in
    sym (rw (take_at copied (drop n buf) n len, ← drop-drop n o text, c, l) (take-append-drop n (drop o text)))
