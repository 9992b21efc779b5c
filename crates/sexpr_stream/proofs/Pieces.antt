-- What was taken of a text that came in pieces.
use Rattle.std.proofs.Common.{◌≡◌, ℕ, true, false, List, [], ◌++◌, length, Some, None, refl, sym, ap, ◌∙◌, subst, append-nil, append_assoc}
use Rattle.spec_text.specs.declared.Place.{Place}
use Rattle.spec_text.specs.Lexemes.{lexemes, lexemes_from}
use Rattle.spec_text.specs.Trees.{Tree, Trees, none, more, spelled, spelled_all}
use Rattle.spec_text.specs.Readings.{kept, prefix, is_long, limited, AreTrees, IsReadUpTo}
use Rattle.stream_scan.specs.Next.{IsNext, end_of}
use Rattle.smt_lexer.specs.declared.Refusal.{Refusal}
use Rattle.smt_sexpr.specs.declared.sexpr.Sexpr.{Sexpr}
use Rattle.smt_sexpr.specs.Items.{tree_of}
use Rattle.smt_sexpr.specs.Limited.{refusal_meant}
use Rattle.smt_sexpr.specs.Open.{add}
use Rattle.smt_sexpr.proofs.Limits.{stops_in}
use Rattle.sexpr_stream.specs.declared.stream.Stream.{Stream}
use Rattle.sexpr_stream.specs.Streams.{bytes_of, taken_to, is_fixed, HasItem, HasFault, IsDone}
use Rattle.sexpr_stream.specs.Pieces.{MayCome, HasTaken}
use Rattle.sexpr_stream.proofs.Limits.{kept_of_prefix, long_by_prefix, prefix_of_pieces, kept_of_pieces, long_of_pieces, stopped_as, each_next, each_stopped}

-- one tree more
spelled_add : (ts : Trees) (t : Tree) → spelled_all (add ts t) ≡ spelled_all ts ++ spelled t
spelled_add none t = append-nil (spelled t)
spelled_add (more u us) t = ap (λ r. spelled u ++ r) (spelled_add us t) ∙ sym (append_assoc (spelled u) (spelled_all us) (spelled t))

pub trees_and_one : (text : List ℕ) (ts : Trees) (at : ℕ) (t : Tree) → AreTrees (lexemes 0 0 text) ts (lexemes_from text at) → IsNext text at t → AreTrees (lexemes 0 0 text) (add ts t) (lexemes_from text (end_of t))
trees_and_one text ts at t h next = h ∙ ap (λ ys. spelled_all ts ++ ys) next.first ∙ sym (append_assoc (spelled_all ts) (spelled t) (lexemes_from text (end_of t))) ∙ ap (λ ys. ys ++ lexemes_from text (end_of t)) (sym (spelled_add ts t))

-- nothing is taken of no bytes
pub begun : (s : Stream) → bytes_of s ≡ [] → taken_to s ≡ 0 → HasTaken s [] none
begun s e at = record {
  bytes = e;
  trees = λ rest come. ap (λ n. lexemes_from (kept rest) n) (sym at);
}

-- a piece more
pub fed_on : (old new : Stream) (fed piece : List ℕ) (ts : Trees) → HasTaken old fed ts → old.closed ≡ false → bytes_of new ≡ prefix (bytes_of old ++ piece) → new.place ≡ old.place → HasTaken new (fed ++ piece) ts
fed_on old new fed piece ts h not_closed e at = record {
  bytes = e ∙ ap (λ (bs : List ℕ). prefix (bs ++ piece)) h.bytes ∙ prefix_of_pieces fed piece;
  trees = λ rest come. subst (λ (text : List ℕ). AreTrees (lexemes 0 0 (kept text)) ts (lexemes_from (kept text) (taken_to new))) (sym (append_assoc fed piece rest))
      (subst (λ (p : Place). AreTrees (lexemes 0 0 (kept (fed ++ (piece ++ rest)))) ts (lexemes_from (kept (fed ++ (piece ++ rest))) p.offset)) (sym at) (h.trees (piece ++ rest) (λ closed. cc)));
}

-- no more comes
pub closed_then : (old new : Stream) (fed : List ℕ) (ts : Trees) → HasTaken old fed ts → bytes_of new ≡ bytes_of old → new.place ≡ old.place → new.closed ≡ true → HasTaken new fed ts
closed_then old new fed ts h e at closed = record {
  bytes = e ∙ h.bytes;
  trees = λ rest come. subst (λ (p : Place). AreTrees (lexemes 0 0 (kept (fed ++ rest))) ts (lexemes_from (kept (fed ++ rest)) p.offset)) (sym at) (h.trees rest (λ was. come closed));
}

-- what is next in the bytes that the stream has is next in all
next_in_fed : (s : Stream) (fed rest : List ℕ) (t : Tree) → bytes_of s ≡ prefix fed → IsNext (kept (bytes_of s ++ rest)) (taken_to s) t → IsNext (kept (fed ++ rest)) (taken_to s) t
next_in_fed s fed rest t e h = subst (λ (text : List ℕ). IsNext text (taken_to s) t) (ap (λ (bs : List ℕ). kept (bs ++ rest)) e ∙ kept_of_pieces fed rest) h

-- a tree more
pub taken_on : (old new : Stream) (fed : List ℕ) (ts : Trees) (x : Sexpr) → HasTaken old fed ts → HasItem old x new.place → bytes_of new ≡ bytes_of old → new.closed ≡ old.closed → HasTaken new fed (add ts (tree_of x))
taken_on old new fed ts x h item e closed = record {
  bytes = e ∙ h.bytes;
  trees = λ rest come.
      let may : MayCome old rest = λ was. come (closed ∙ was) in
      let next = next_in_fed old fed rest (tree_of x) h.bytes (each_next old.closed (is_long (bytes_of old)) (bytes_of old) rest (taken_to old) (tree_of x) refl may item.next) in
      subst (λ n. AreTrees (lexemes 0 0 (kept (fed ++ rest))) (add ts (tree_of x)) (lexemes_from (kept (fed ++ rest)) n)) (sym item.ends) (trees_and_one (kept (fed ++ rest)) ts (taken_to old) (tree_of x) (h.trees rest may) next);
}

-- the end
pub done_then : (s : Stream) (fed : List ℕ) (ts : Trees) → HasTaken s fed ts → IsDone s → IsReadUpTo fed ts None
done_then s fed ts h end =
    let short : is_long fed ≡ false = sym (long_by_prefix fed) ∙ ap is_long (sym h.bytes) ∙ end.short in
    record {
      rest = lexemes_from (kept fed) (taken_to s);
      trees = subst (λ (text : List ℕ). AreTrees (lexemes 0 0 (kept text)) ts (lexemes_from (kept text) (taken_to s))) (append-nil fed) (h.trees [] (λ closed. refl));
      stop = None;
      stops = ap (λ (bs : List ℕ). lexemes_from bs (taken_to s)) (sym (ap kept h.bytes ∙ kept_of_prefix fed)) ∙ end.rest;
      is = sym (ap (λ long. limited long None) short);
    }

-- a fault
pub fault_then : (s : Stream) (fed rest : List ℕ) (ts : Trees) (r : Refusal) → HasTaken s fed ts → HasFault (is_fixed s) (bytes_of s) (taken_to s) r → MayCome s rest → IsReadUpTo (fed ++ rest) ts (Some (refusal_meant r))
fault_then s fed rest ts r h fault come =
    let here = each_stopped s.closed (is_long (bytes_of s)) (bytes_of s) rest (taken_to s) r refl come fault in
    let stopped = stopped_as (bytes_of s ++ rest) (fed ++ rest) (taken_to s) r (ap (λ (bs : List ℕ). kept (bs ++ rest)) h.bytes ∙ kept_of_pieces fed rest) (ap (λ (bs : List ℕ). is_long (bs ++ rest)) h.bytes ∙ long_of_pieces fed rest) here in
    record {
      rest = lexemes_from (kept (fed ++ rest)) (taken_to s);
      trees = h.trees rest come;
      stop = stopped.stop;
      stops = stops_in (length (kept (fed ++ rest))) (lexemes_from (kept (fed ++ rest)) (taken_to s)) stopped.stop stopped.stops;
      is = sym stopped.is;
    }
