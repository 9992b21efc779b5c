-- Bytes that go out or come in piece by piece.
use Rattle.std.proofs.Common.{◌≡◌, ℕ, ◌+◌, ◌≤◌, ◌<◌, ◌⊎◌, List, [], ◌∷◌, ◌++◌, length, take, drop, get_or, Option, Some, None, refl, sym, ap, ◌∙◌, append_assoc, length-append, zero-add, suc, inl, inr, arith}
use Rattle.std.proofs.lemmas.List.{take-append-le, drop_more, take-append-drop, take_more, append-nil}
use Rattle.std.proofs.lemmas.Grind.{flat_map-append}
use Rattle.std.proofs.lemmas.Bool.{cases_lt}
use Rattle.std.specs.Io.KnownBytes.{Appends, Consumes}
use Rattle.std.specs.Prelude.{IfSome, Result, Ok, Err, OnErr, flat_map}
use Rattle.world_io.specs.Outside.{AppendsPrefix}

-- what was read is a prefix of some text, the one that is known
pub cut_of : (left new : Option (List ℕ)) (got cut : List ℕ) (limit : ℕ) → limit < length got → cut ≡ take limit got → Consumes left new got → (text : List ℕ) × ((limit < length text) × (cut ≡ take limit text)) × IfSome left (λ t. t ≡ text)
cut_of None new got cut limit h e c = (got, (h, e), tt)
cut_of (Some bytes) None got cut limit h e c = absurd c
cut_of (Some bytes) (Some rest) got cut limit h e c =
    (bytes, (omega (arith, ap length c, length-append got rest), e ∙ sym (rw c (take-append-le limit got rest (omega arith)))), refl)

prefix_by : (bytes got rest cut : List ℕ) (n : ℕ) → (length got < n) ⊎ (n ≤ length got) → cut ≡ take n got → (length got < n → bytes ≡ got) → bytes ≡ got ++ rest → cut ≡ take n bytes
prefix_by bytes got rest cut n (inl few) e w c = e ∙ ap (take n) (sym (w few))
prefix_by bytes got rest cut n (inr many) e w c = e ∙ sym (rw c (take-append-le n got rest many))

-- so many bytes of a text were read, or all where it has fewer
pub prefix_of : (left new : Option (List ℕ)) (got cut : List ℕ) (n : ℕ) → cut ≡ take n got → (length got < n → IfSome left (λ t. t ≡ got)) → Consumes left new got → (text : List ℕ) × (cut ≡ take n text) × IfSome left (λ t. t ≡ text)
prefix_of None new got cut n e w c = (got, e, tt)
prefix_of (Some bytes) None got cut n e w c = absurd c
prefix_of (Some bytes) (Some rest) got cut n e w c = (bytes, prefix_by bytes got rest cut n (cases_lt (length got) n) e w c, refl)

take_past : (x y : List ℕ) (k : ℕ) → take (length x + k) (x ++ y) ≡ x ++ take k y
take_past [] y k = rw zero-add refl
take_past (b ∷ x) y k =
    let e : suc (length x) + k ≡ suc (length x + k) = omega arith in
    rw e (ap (λ r. b ∷ r) (take_past x y k))

-- a whole piece was appended, and then a prefix of another
pub prefix_after : (a b c : Option (List ℕ)) (x y : List ℕ) → Appends a b x → AppendsPrefix b c y → AppendsPrefix a c (x ++ y)
prefix_after None b c x y h k = tt
prefix_after (Some o) None c x y h k = absurd h
prefix_after (Some o) (Some m) None x y h k = absurd k
prefix_after (Some o) (Some m) (Some n) x y h k = (length x + k.0, omega (arith, length-append x y, k.1), k.2 ∙ ap (λ r. r ++ take k.0 y) h ∙ append_assoc o x (take k.0 y) ∙ ap (λ r. o ++ r) (sym (take_past x y k.0)))

-- a prefix of the first piece is a prefix of both
pub prefix_within : (a b : Option (List ℕ)) (x y : List ℕ) → AppendsPrefix a b x → AppendsPrefix a b (x ++ y)
prefix_within None b x y h = tt
prefix_within (Some o) None x y h = absurd h
prefix_within (Some o) (Some m) x y h = (h.0, omega (arith, length-append x y, h.1), h.2 ∙ ap (λ r. o ++ r) (sym (take-append-le h.0 x y h.1)))

-- the pieces before, one more, and the rest
pub pieces_split : {X : Type 0} (f : X → List ℕ) (xs : List X) (i : ℕ) (d : X) → i < length xs → flat_map f xs ≡ flat_map f (take i xs) ++ (f (get_or xs i d) ++ flat_map f (drop (i + 1) xs))
pieces_split f xs i d l = ap (flat_map f) (sym (take-append-drop i xs)) ∙ flat_map-append f (take i xs) (drop i xs) ∙ ap (λ ys. flat_map f (take i xs) ++ flat_map f ys) (drop_more xs i d l)

-- the pieces up to one more
pub pieces_up_to : {X : Type 0} (f : X → List ℕ) (xs : List X) (i : ℕ) (d : X) → i < length xs → flat_map f (take (i + 1) xs) ≡ flat_map f (take i xs) ++ f (get_or xs i d)
pieces_up_to f xs i d l = ap (flat_map f) (take_more xs i d l) ∙ flat_map-append f (take i xs) (get_or xs i d ∷ []) ∙ ap (λ ys. flat_map f (take i xs) ++ ys) (append-nil (f (get_or xs i d)))

-- what was consumed stays so where nothing more is
pub consumes_nothing : (a b c : Option (List ℕ)) (taken piece : List ℕ) (n : ℕ) → n ≡ 0 → Consumes a b taken → Consumes b c (take n piece) → Consumes a c taken
consumes_nothing None b c taken piece n e h k = tt
consumes_nothing (Some x) None c taken piece n e h k = absurd h
consumes_nothing (Some x) (Some y) None taken piece n e h k = absurd k
consumes_nothing (Some x) (Some y) (Some z) taken piece n e h k = h ∙ ap (λ r. taken ++ r) (rw e at k)

-- what holds is kept by a result that failed
pub on_err_of : {A E P : Type 0} (r : Result A E) → P → OnErr r P
on_err_of (Ok x) p = tt
on_err_of (Err e) p = p
