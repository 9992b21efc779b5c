-- Bytes that wait in a buffer, and are passed on to its sink.
use Rattle.std.proofs.Common.{◌≡◌, ℕ, zero, suc, ◌+◌, ◌-◌, ◌≤◌, ◌<◌, List, [], ◌++◌, length, take, drop, Option, Some, None, refl, sym, ap, ◌∙◌, subst, append-nil, length-append, arith}
use Rattle.std.proofs.KnownBytes.{Keeps-refl, Keeps-trans, append_known-moved, append_known-kept, append_known-grown}
use Rattle.std.proofs.lemmas.List.{take-append-drop}
use Rattle.std.specs.Io.KnownBytes.{Appends, Keeps, append_known}
use Rattle.std.specs.Prelude.{Result, Ok, Err}
use Rattle.world_io.specs.declared.fault.Failed.{Failed}
use Rattle.world_io.specs.Writing.{SinkView, IsRoomFor, HasRoom, Sent, NotTaken, NotFlushed, Flushes, WritesPrefix}
use Rattle.world_io.specs.Buffering.{room_minus, room_left, buffered, PassesOn, PassesNothing}
use Rattle.world_io.proofs.Sending.{rose_after, room_for_less}

below : (most w n : ℕ) → IsRoomFor (room_minus most w) n → w + n ≤ most
below most zero n h = omega arith
below zero (suc w) n h = absurd h
below (suc most) (suc w) n h = omega (arith, below most w n h)

above : (most w n : ℕ) → w + n ≤ most → IsRoomFor (room_minus most w) n
above most zero n h = omega arith
above zero (suc w) n h = absurd (omega arith)
above (suc most) (suc w) n h = above most w n (omega arith)

under : (o : Option ℕ) (w n : ℕ) → IsRoomFor (room_left o w) n → IsRoomFor o (w + n)
under None w n h = h
under (Some most) w n h = below most w n h

over : (o : Option ℕ) (w n : ℕ) → IsRoomFor o (w + n) → IsRoomFor (room_left o w) n
over None w n h = h
over (Some most) w n h = above most w n h

-- room before the buffer is room in its sink for what waits too
pub room_below : (s : SinkView) (w : List ℕ) (n : ℕ) → HasRoom (buffered s w) n → HasRoom s (length w + n)
room_below s w n h = under s.room (length w) n h

-- and the other way round
pub room_above : (s : SinkView) (w : List ℕ) (n : ℕ) → HasRoom s (length w + n) → HasRoom (buffered s w) n
room_above s w n h = over s.room (length w) n h

-- a piece more waits
pub waits_too : (s : SinkView) (w piece : List ℕ) → Sent piece (buffered s w) (buffered s (w ++ piece))
waits_too s w piece = record {
  appended = append_known-grown (append_known s.known w) s.known w (w ++ piece) piece (Keeps-refl (append_known s.known w)) refl;
  count = omega arith;
  room = λ n h l.
      let e : length w + n ≡ length (w ++ piece) + (n - length piece) = omega (arith, length-append w piece) in
      room_above s (w ++ piece) (n - length piece) (subst (HasRoom s) e (room_below s w n h));
}

-- a prefix of what waited was written to the sink, and the rest waits
pub some_waits : (s t : SinkView) (w : List ℕ) (n : ℕ) → WritesPrefix w n s t → n < length w → NotFlushed (buffered s w) (buffered t (drop n w))
some_waits s t w n k l = record {
  kept = append_known-moved s.known t.known (take n w) (drop n w) w k.appended (sym (take-append-drop n w));
  failed = k.failed l;
  room = λ h. k.room l (room_for_less s (length w + 0) (length w) (omega arith) (room_below s w 0 h));
}

moved_all : (s t : SinkView) (w v : List ℕ) → v ≡ [] → Sent w s t → Keeps (append_known s.known w) (append_known t.known v)
moved_all s t w v e k = append_known-moved s.known t.known w v w k.appended (sym (append-nil w) ∙ ap (λ r. w ++ r) (sym e))

pub kept_appends : (a b : Option (List ℕ)) → Keeps a b → Appends a b []
kept_appends None b h = tt
kept_appends (Some x) None h = absurd h
kept_appends (Some x) (Some y) h = h ∙ sym (append-nil x)

-- what waited was written to the sink: nothing is changed before the buffer
pub none_waits : (s t : SinkView) (w v : List ℕ) → v ≡ [] → Sent w s t → Sent [] (buffered s w) (buffered t v)
none_waits s t w v e k = record {
  appended = kept_appends (append_known s.known w) (append_known t.known v) (moved_all s t w v e k);
  count = k.count;
  room = λ n h l.
      let r = k.room (length w + n) (room_below s w n h) (omega arith) in
      let same : length w + n - length w ≡ length v + (n - 0) = omega (arith, ap length e) in
      room_above t v (n - 0) (subst (HasRoom t) same r);
}

-- what waited was written to the sink, and then the sink was flushed
pub flushed_below : (s t u : SinkView) (w v : List ℕ) (r : Result (Unit {0}) Failed) → v ≡ [] → Sent w s t → Flushes r t u → Flushes r (buffered s w) (buffered u v)
flushed_below s t u w v (Ok x) e k f = record {
  emptied = ap (λ p. p ++ v) f.emptied ∙ e;
  kept = Keeps-trans _ _ _ (moved_all s t w v e k) (append_known-kept t.known u.known v f.kept);
  count = omega (arith, k.count, f.count);
  room = λ n h l.
      let r = k.room (length w + n) (room_below s w n h) (omega arith) in
      let here : length w + n - length w ≡ n = omega arith in
      let q = f.room n (subst (HasRoom t) here r) (omega arith) in
      let same : n - 0 ≡ length v + (n - 0) = omega (arith, ap length e) in
      room_above u v (n - 0) (subst (HasRoom u) same q);
}
flushed_below s t u w v (Err x) e k f = record {
  kept = Keeps-trans _ _ _ (moved_all s t w v e k) (append_known-kept t.known u.known v f.kept);
  failed = rose_after s.faults t.faults u.faults k.count f.failed;
  room = λ h.
      let r = k.room (length w + 0) (room_below s w 0 h) (omega arith) in
      let here : length w + 0 - length w ≡ 0 = omega arith in
      f.room (subst (HasRoom t) here r);
}

-- no room where there is none for nothing
pub not_taken : (piece : List ℕ) (a b : SinkView) → NotFlushed a b → NotTaken piece a b
not_taken piece a b f = record { kept = f.kept; failed = f.failed; room = λ h. f.room (room_for_less a (length piece) 0 (omega arith) h) }

-- the buffer was emptied into its sink, or not
pub passes_nothing : (r : Result (Unit {0}) Failed) (s t : SinkView) (w v : List ℕ) → PassesOn w r s v t → PassesNothing r (buffered s w) (buffered t v)
passes_nothing (Ok u) s t w v h = none_waits s t w v h.0 h.1
passes_nothing (Err e) s t w v h = h
