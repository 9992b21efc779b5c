-- Texts that are written one after the other, and what of the room is left.
use Rattle.std.proofs.Common.{◌≡◌, ℕ, ◌+◌, ◌-◌, ◌≤◌, ◌<◌, List, [], ◌++◌, length, take, drop, get_or, take_all, Option, Some, None, refl, sym, ap, ◌∙◌, subst, length-append, length-drop, arith}
use Rattle.std.proofs.KnownBytes.{Appends-nil, Appends-trans, Appends-kept}
use Rattle.std.proofs.Math.Seq.{take-add}
use Rattle.std.proofs.lemmas.Bool.{false≢true}
use Rattle.std.proofs.lemmas.List.{length-take-le}
use Rattle.std.specs.Io.KnownBytes.{Appends}
use Rattle.std.specs.Prelude.{Result, Ok, Err, IsOk, IsErr, flat_map}
use Rattle.world_io.specs.Outside.{Rose, AppendsPrefix}
use Rattle.world_io.specs.declared.fault.Failed.{Failed}
use Rattle.world_io.specs.Writing.{SinkView, IsRoomFor, HasRoom, UsesRoom, Sent, NotSent, Sends, Took, NotTaken, WritesPrefix}
use Rattle.world_io.proofs.Pieces.{prefix_after, prefix_within, pieces_split, pieces_up_to}

-- a count that did not fall and then rose, rose
pub rose_after : (f g h : ℕ) → f ≤ g → Rose g h → Rose f h
rose_after f g h l r = grind arith

-- a count that rose did not fall
pub rose_over : (f g : ℕ) → Rose f g → f ≤ g
rose_over f g r = grind arith

for_less : (room : Option ℕ) (m n : ℕ) → n ≤ m → IsRoomFor room m → IsRoomFor room n
for_less None m n l h = absurd h
for_less (Some r) m n l h = omega arith

-- room for more bytes is room for fewer
pub room_for_less : (s : SinkView) (m n : ℕ) → n ≤ m → HasRoom s m → HasRoom s n
room_for_less s m n l h = for_less s.room m n l h

-- room that is used twice
pub room_used_twice : (a b c : SinkView) (m n : ℕ) → UsesRoom a b m → UsesRoom b c n → UsesRoom a c (m + n)
room_used_twice a b c m n p q k h l =
    let e : k - m - n ≡ k - (m + n) = omega arith in
    subst (HasRoom c) e (q (k - m) (p k h (omega arith)) (omega arith))

-- no room is used where nothing is done
pub no_room_used : (a : SinkView) → UsesRoom a a 0
no_room_used a n h l = let e : n ≡ n - 0 = omega arith in subst (HasRoom a) e h

-- nothing was written
pub nothing_sent : (a : SinkView) → Sent [] a a
nothing_sent a = record { appended = Appends-nil a.known; count = omega arith; room = no_room_used a }

-- the same, by what is answered
pub sends_nothing : (r : Result (Unit {0}) Failed) (a : SinkView) → r ≡ Ok tt → Sends [] r a a
sends_nothing (Ok u) a e = nothing_sent a
sends_nothing (Err e) a h = cc

-- a text, and then another
pub sent_both : (x y : List ℕ) (a b c : SinkView) → Sent x a b → Sent y b c → Sent (x ++ y) a c
sent_both x y a b c s t = record {
  appended = Appends-trans a.known b.known c.known x y s.appended t.appended;
  count = omega (arith, s.count, t.count);
  room = subst (UsesRoom a c) (sym (length-append x y)) (room_used_twice a b c (length x) (length y) s.room t.room);
}

-- a text, and then another that failed
pub second_fails : (x y : List ℕ) (a b c : SinkView) → Sent x a b → NotSent y b c → NotSent (x ++ y) a c
second_fails x y a b c s t = record {
  prefix = prefix_after a.known b.known c.known x y s.appended t.prefix;
  failed = rose_after a.faults b.faults c.faults s.count t.failed;
  room = λ h.
      let size = length-append x y in
      let e : length (x ++ y) - length x ≡ length y = omega (arith, size) in
      t.room (subst (HasRoom b) e (s.room (length (x ++ y)) h (omega (arith, size))));
}

-- a text that failed, before another that was not begun
pub first_fails : (x y : List ℕ) (a b : SinkView) → NotSent x a b → NotSent (x ++ y) a b
first_fails x y a b s = record {
  prefix = prefix_within a.known b.known x y s.prefix;
  failed = s.failed;
  room = λ h. s.room (room_for_less a (length (x ++ y)) (length x) (omega (arith, length-append x y)) h);
}

-- a call that failed is one that answers so
pub sends_failed : (text : List ℕ) (r : Result (Unit {0}) Failed) (a b : SinkView) → IsErr r → NotSent text a b → Sends text r a b
sends_failed text (Ok u) a b h s = absurd (false≢true h)
sends_failed text (Err e) a b h s = s

-- the relation of a result, from what is stated of each of its cases
pub sends_by : (text : List ℕ) (r : Result (Unit {0}) Failed) (a b : SinkView) → ((u : Unit {0}) → r ≡ Ok u → Sent text a b) → ((e : Failed) → r ≡ Err e → NotSent text a b) → Sends text r a b
sends_by text (Ok u) a b h k = h u refl
sends_by text (Err e) a b h k = k e refl

-- a text, and then another: what the second call answers is answered
pub first_then : (x y : List ℕ) (r : Result (Unit {0}) Failed) (a b c : SinkView) → Sent x a b → Sends y r b c → Sends (x ++ y) r a c
first_then x y (Ok u) a b c s t = sent_both x y a b c s t
first_then x y (Err e) a b c s t = second_fails x y a b c s t

-- a text by another name
pub sends_same : (x y : List ℕ) (r : Result (Unit {0}) Failed) (a b : SinkView) → x ≡ y → Sends x r a b → Sends y r a b
sends_same x y r a b e s = subst (λ text. Sends text r a b) e s

-- with room for the text the call succeeds, and so much less room is left
pub sends_within : (text : List ℕ) (r : Result (Unit {0}) Failed) (a b : SinkView) (n : ℕ) → Sends text r a b → HasRoom a n → length text ≤ n → IsOk r × HasRoom b (n - length text)
sends_within text (Ok u) a b n s h l = (refl, s.room n h l)
sends_within text (Err e) a b n s h l = absurd (s.room (room_for_less a n (length text) l h))

-- the count of faults does not fall, whatever is answered
pub sends_counts : (text : List ℕ) (r : Result (Unit {0}) Failed) (a b : SinkView) → Sends text r a b → a.faults ≤ b.faults
sends_counts text (Ok u) a b s = s.count
sends_counts text (Err e) a b s = rose_over a.faults b.faults s.failed

pub all_is_prefix : (a b : Option (List ℕ)) (text : List ℕ) → Appends a b text → AppendsPrefix a b text
all_is_prefix None b text h = tt
all_is_prefix (Some x) None text h = absurd h
all_is_prefix (Some x) (Some y) text h = (length text, omega arith, h ∙ ap (λ r. x ++ r) (sym (take_all (length text) text (omega arith))))

-- what is appended is a prefix of the text, whatever is answered
pub sends_prefix : (text : List ℕ) (r : Result (Unit {0}) Failed) (a b : SinkView) → Sends text r a b → AppendsPrefix a.known b.known text
sends_prefix text (Ok u) a b s = all_is_prefix a.known b.known text s.appended
sends_prefix text (Err e) a b s = s.prefix

-- a prefix, and one write more of what is left
pub one_write_more : (text : List ℕ) (n m : ℕ) (a b c : SinkView) → n ≤ length text → Sent (take n text) a b → Took (drop n text) m b c → (n + m ≤ length text) × Sent (take (n + m) text) a c
one_write_more text n m a b c l s k = (omega (arith, length-drop n text, k.within), subst (λ t. Sent t a c) (sym (take-add n m text)) (sent_both (take n text) (take m (drop n text)) a b c s k.sent))

-- a prefix, and the next write failed
pub write_fails : (text : List ℕ) (n : ℕ) (a b c : SinkView) → n < length text → Sent (take n text) a b → NotTaken (drop n text) b c → WritesPrefix text n a c
write_fails text n a b c l s k = record {
  within = omega arith;
  appended = Appends-kept a.known b.known c.known (take n text) s.appended k.kept;
  count = omega (arith, s.count, rose_over b.faults c.faults k.failed);
  whole = λ e. absurd (omega arith);
  failed = λ _. rose_after a.faults b.faults c.faults s.count k.failed;
  room = λ _ h.
      let size = length-take-le n text (omega arith) in
      let e : length text - length (take n text) ≡ length (drop n text) = omega (arith, size, length-drop n text) in
      k.room (subst (HasRoom b) e (s.room (length text) h (omega (arith, size))));
}

-- all of a text, as a prefix
pub all_written : (text : List ℕ) (n : ℕ) (a b : SinkView) → n ≤ length text → length text ≤ n → Sent (take n text) a b → WritesPrefix text n a b
all_written text n a b l m s =
    let size = length-take-le n text l in
    let e : length (take n text) ≡ length text = omega (arith, size) in
    record {
      within = l;
      appended = s.appended;
      count = s.count;
      whole = λ _. subst (UsesRoom a b) e s.room;
      failed = λ k. absurd (omega arith);
      room = λ k h. absurd (omega arith);
    }

prefix_of : (a b : Option (List ℕ)) (text : List ℕ) (n : ℕ) → n ≤ length text → Appends a b (take n text) → AppendsPrefix a b text
prefix_of None b text n l h = tt
prefix_of (Some x) None text n l h = absurd h
prefix_of (Some x) (Some y) text n l h = (n, l, h)

-- the prefix is not all of the text
pub prefix_is_short : (text : List ℕ) (n : ℕ) (a b : SinkView) → WritesPrefix text n a b → n < length text → NotSent text a b
prefix_is_short text n a b w l = record { prefix = prefix_of a.known b.known text n w.within w.appended; failed = w.failed l; room = w.room l }

-- the prefix is all of the text
pub prefix_is_whole : (text : List ℕ) (n : ℕ) (a b : SinkView) → WritesPrefix text n a b → length text ≤ n → Sent text a b
prefix_is_whole text n a b w l =
    let size : n ≡ length text = omega (arith, w.within) in
    let all : take n text ≡ text = take_all n text l in
    record { appended = subst (Appends a.known b.known) all w.appended; count = w.count; room = w.whole size }

-- the pieces before, and one more that failed
pub piece_fails : {X : Type 0} (f : X → List ℕ) (xs : List X) (i : ℕ) (d : X) (a b c : SinkView) → i < length xs → Sent (flat_map f (take i xs)) a b → NotSent (f (get_or xs i d)) b c → NotSent (flat_map f xs) a c
piece_fails f xs i d a b c l s k = subst (λ t. NotSent t a c) (sym (pieces_split f xs i d l)) (second_fails _ _ a b c s (first_fails (f (get_or xs i d)) (flat_map f (drop (i + 1) xs)) b c k))

-- the pieces before, and one more
pub piece_more : {X : Type 0} (f : X → List ℕ) (xs : List X) (i : ℕ) (d : X) (a b c : SinkView) → i < length xs → Sent (flat_map f (take i xs)) a b → Sent (f (get_or xs i d)) b c → Sent (flat_map f (take (i + 1) xs)) a c
piece_more f xs i d a b c l s k = subst (λ t. Sent t a c) (sym (pieces_up_to f xs i d l)) (sent_both _ _ a b c s k)
