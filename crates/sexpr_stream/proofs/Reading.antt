-- What reading the bytes that were fed tells of each text that goes on so.
use Rattle.std.proofs.Common.{◌≡◌, ◌<◌, ◌≤◌, ℕ, ◌+◌, Bool, true, false, List, [], ◌++◌, length, Option, Some, None, refl, sym, ap, ◌∙◌, arith, subst, nat_lt, length-append}
use Rattle.std.proofs.lemmas.Bool.Decides.{nat_tests}
use Rattle.std.specs.Prelude.{Err, ◌||◌}
use Rattle.spec_text.specs.declared.Place.{Place}
use Rattle.spec_text.specs.Places.{IsPlaceOf}
use Rattle.spec_text.specs.Faults.{Located}
use Rattle.spec_text.specs.Lexemes.{lexemes_from}
use Rattle.spec_text.specs.Offsets.{AllOffsets}
use Rattle.spec_text.specs.Trees.{Tree, atom, list, spelled, offset_of}
use Rattle.spec_text.specs.Readings.{kept, is_long, limited}
use Rattle.stream_scan.specs.declared.Scan.TheVariants.{Settled}
use Rattle.stream_scan.specs.Next.{IsFault, IsNext, end_of}
use Rattle.stream_scan.specs.Scanning.{scanned_from}
use Rattle.stream_scan.proofs.Ends.{tree_end}
use Rattle.stream_scan.proofs.Continuations.{settled_tree_stays, settled_fault_stays, settled_fault_is_inner, settled_is_some}
use Rattle.spec_text.proofs.Offsets.{tree_in_text}
use Rattle.smt_lexer.specs.declared.Refusal.{Refusal}
use Rattle.smt_lexer.specs.declared.Refused.{Refused}
use Rattle.smt_lexer.specs.declared.Refused.TheVariants as reasons
use Rattle.smt_sexpr.specs.declared.sexpr.Sexpr.{Sexpr}
use Rattle.smt_sexpr.specs.Items.{start_of, tree_of, text_of}
use Rattle.smt_sexpr.specs.Limited.{ReadsOneOf, IsStopped, StopsIn, refusal_meant}
use Rattle.smt_sexpr.specs.Reads.{ReadsSexpr}
use Rattle.sexpr_stream.specs.declared.stream.Stream.{Stream}
use Rattle.sexpr_stream.specs.Streams.{bytes_of, taken_to, is_fixed, Each, HasItem, HasFault, IsDone, IsNextItem}
use Rattle.sexpr_stream.proofs.Continuing.{kept_all, kept_within}
use Rattle.sexpr_stream.proofs.ItemEnds.{ends_behind}

-- bytes are fixed, where they are closed or too long
not_long : (closed long : Bool) → (closed || long) ≡ false → long ≡ false
not_long true long e = cc
not_long false long e = e

not_closed : (closed long : Bool) → (closed || long) ≡ false → closed ≡ false
not_closed true long e = cc
not_closed false long e = refl

pub not_fixed : (closed long : Bool) → closed ≡ false → long ≡ false → (closed || long) ≡ false
not_fixed closed long e f = ap (λ c. c || long) e ∙ f

-- of bytes that may go on, and of others
each_by : (fixed : Bool) (bytes : List ℕ) (P : List ℕ → Type 0) → P (kept bytes) → (fixed ≡ false → (rest : List ℕ) → P (bytes ++ rest)) → Each fixed bytes P
each_by true bytes P h f = h
each_by false bytes P h f = f refl

-- a tree has a lexeme
spelled_some : (t : Tree) → 0 < length (spelled t)
spelled_some (atom at k w) = omega arith
spelled_some (list at ts end) = omega arith

first_offset : (low high : ℕ) (t : Tree) → AllOffsets (λ n. (low ≤ n) × (n < high)) t → low ≤ offset_of t
first_offset low high (atom at k w) h = h.0
first_offset low high (list at ts end) h = h.0.0

-- so it ends behind the offset that it is read from
ends_after : (text : List ℕ) (at : ℕ) (t : Tree) → lexemes_from text at ≡ spelled t ++ lexemes_from text (end_of t) → at ≤ end_of t → at < end_of t
ends_after text at t split le = go (nat_lt at (end_of t)) refl
  where
    go : (c : Bool) → nat_lt at (end_of t) ≡ c → at < end_of t
    go true e = grind (arith, nat_tests, e)
    go false e =
        let same : at ≡ end_of t = (let ge : end_of t ≤ at = grind (arith, nat_tests, e) in omega (arith, le, ge)) in
        let size : length (lexemes_from text at) ≡ length (spelled t) + length (lexemes_from text at) = ap length split ∙ length-append (spelled t) (lexemes_from text (end_of t)) ∙ ap (λ n. length (spelled t) + length (lexemes_from text n)) (sym same) in
        absurd (omega (arith, size, spelled_some t))

module _ (s : Stream) (due : is_fixed s ≡ false → s.scan ≡ Settled) where
  settles : is_fixed s ≡ false → scanned_from (bytes_of s) (taken_to s) ≡ Settled
  settles e = sym s.scans ∙ due e

  within : taken_to s ≤ length (bytes_of s)
  within = omega (arith, s.placed.within, kept_within (bytes_of s))

  short : is_fixed s ≡ false → kept (bytes_of s) ≡ bytes_of s
  short e = kept_all (bytes_of s) (not_long s.closed (is_long (bytes_of s)) e)

  -- an s-expression that is read
  module _ (x : Sexpr) (behind after : Place) (r : ReadsSexpr (kept (bytes_of s)) s.place x behind) where
    end : (end_of (tree_of x) ≤ length (kept (bytes_of s))) × (lexemes_from (kept (bytes_of s)) behind.offset ≡ lexemes_from (kept (bytes_of s)) (end_of (tree_of x)))
    end = tree_end (kept (bytes_of s)) (taken_to s) (tree_of x) _ s.placed.within r.is.first

    pub end_is_behind : start_of x ≤ end_of (tree_of x)
    end_is_behind = ends_behind (start_of x) (length (kept (bytes_of s))) (tree_of x) r.is.offsets

    pub end_is_within : end_of (tree_of x) ≤ length (text_of x)
    end_is_within = omega (arith, end.0, ap length r.is.text_is)

    first : lexemes_from (kept (bytes_of s)) (taken_to s) ≡ spelled (tree_of x) ++ lexemes_from (kept (bytes_of s)) (end_of (tree_of x))
    first = r.is.first ∙ ap (λ ys. spelled (tree_of x) ++ ys) end.1

    next_here : IsNext (kept (bytes_of s)) (taken_to s) (tree_of x)
    next_here = record { first = first; ends = end.0 }

    next_stays : is_fixed s ≡ false → (rest : List ℕ) → IsNext (bytes_of s ++ rest) (taken_to s) (tree_of x)
    next_stays e rest =
        let here : IsNext (bytes_of s) (taken_to s) (tree_of x) = subst (λ (text : List ℕ). IsNext text (taken_to s) (tree_of x)) (short e) next_here in
        settled_tree_stays (bytes_of s) (taken_to s) (tree_of x) _ within (settles e) here.first rest

    longer : taken_to s < end_of (tree_of x)
    longer =
        let low = first_offset (taken_to s) (length (kept (bytes_of s))) (tree_of x) (tree_in_text (kept (bytes_of s)) (taken_to s) (tree_of x) _ r.is.first) in
        ends_after (kept (bytes_of s)) (taken_to s) (tree_of x) first (omega (arith, low, r.is.start, end_is_behind))

    pub item_next : after.offset ≡ end_of (tree_of x) → IsPlaceOf (text_of x) after → HasItem s x after
    item_next e p = record {
      read = record {
        is = record {
          text_is = r.is.text_is;
          first = first ∙ ap (λ n. spelled (tree_of x) ++ lexemes_from (kept (bytes_of s)) n) (sym e);
          means = r.is.means;
          start = r.is.start;
          offsets = r.is.offsets;
          place = subst (λ (text : List ℕ). IsPlaceOf text after) r.is.text_is p;
        };
        longer = omega (arith, longer, e);
      };
      next = each_by (is_fixed s) (bytes_of s) (λ text. IsNext text (taken_to s) (tree_of x)) next_here next_stays;
      ends = e;
    }

  -- the end
  pub done : (lexemes_from (kept (bytes_of s)) (taken_to s) ≡ []) × (is_long (bytes_of s) ≡ false) → IsDone s
  done h = go s.closed refl
    where
      go : (c : Bool) → s.closed ≡ c → IsDone s
      go true e = record { closed = e; short = h.1; rest = h.0 }
      go false e =
          let not_fixed_here = not_fixed s.closed (is_long (bytes_of s)) e h.1 in
          absurd (settled_is_some (bytes_of s) (taken_to s) (settles not_fixed_here) (subst (λ (text : List ℕ). lexemes_from text (taken_to s) ≡ []) (short not_fixed_here) h.0))

  -- a fault
  stopped_here : (long : Bool) (r : Refusal) → is_long (bytes_of s) ≡ long → long ≡ false → (stop : Option Located) → StopsIn (length (kept (bytes_of s))) 0 (lexemes_from (kept (bytes_of s)) (taken_to s)) stop → limited long stop ≡ Some (refusal_meant r)
      → IsFault (kept (bytes_of s)) (taken_to s) (refusal_meant r)
  stopped_here true r e f stop h k = cc
  stopped_here false r e f None h k = cc
  stopped_here false r e f (Some g) h k = subst (λ (o : Option Located). StopsIn (length (kept (bytes_of s))) 0 (lexemes_from (kept (bytes_of s)) (taken_to s)) o) k h

  fault_by : (fixed : Bool) (r : Refusal) → is_fixed s ≡ fixed → IsStopped (bytes_of s) 0 (lexemes_from (kept (bytes_of s)) (taken_to s)) r → HasFault fixed (bytes_of s) (taken_to s) r
  fault_by true r e h = h
  fault_by false r e h =
      let first = stopped_here (is_long (bytes_of s)) r refl (not_long s.closed (is_long (bytes_of s)) e) h.stop h.stops h.is in
      let here = subst (λ (text : List ℕ). IsFault text (taken_to s) (refusal_meant r)) (short e) first in
      record {
        stops = settled_fault_stays (bytes_of s) (taken_to s) (refusal_meant r) within (settles e) here;
        inner = settled_fault_is_inner (bytes_of s) (taken_to s) (refusal_meant r) within (settles e) here;
        place = subst (λ (text : List ℕ). IsPlaceOf text r.place) (short e) h.place;
      }

  pub refused : (reason : Refused) → ReadsOneOf (bytes_of s) s.place (Err reason) → IsNextItem s (Err reason)
  refused (reasons.Fault r) h = fault_by (is_fixed s) r refl h
  refused reasons.Memory h = tt
