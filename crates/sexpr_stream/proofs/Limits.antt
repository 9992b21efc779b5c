-- What is next in each text that goes on so is next in each of which the first bytes are read.
use Rattle.std.proofs.Common.{◌≡◌, ◌<◌, ◌≤◌, ℕ, ◌+◌, ◌-◌, Bool, true, false, List, [], ◌++◌, length, take, Some, refl, sym, ap, ◌∙◌, arith, subst, nat_lt, append-nil, length-append, length-take}
use Rattle.std.specs.Prelude.{◌||◌}
use Rattle.std.proofs.lemmas.Bool.Decides.{nat_tests}
use Rattle.std.proofs.lemmas.List.{take-append-le, take-take, take_all}
use Rattle.std.proofs.Math.Seq.{take-append-add}
use Rattle.spec_text.specs.Faults.{Located}
use Rattle.spec_text.specs.Lexemes.{lexemes_from}
use Rattle.spec_text.specs.Places.{IsPlaceOf}
use Rattle.spec_text.specs.Trees.{Tree}
use Rattle.spec_text.specs.Readings.{text_limit, kept, prefix, is_long, is_of_end, limited}
use Rattle.stream_scan.specs.Next.{IsFault, IsNext}
use Rattle.smt_lexer.specs.declared.Refusal.{Refusal}
use Rattle.smt_sexpr.specs.Limited.{IsStopped, StopsIn, refusal_meant}
use Rattle.sexpr_stream.specs.Streams.{Each, HasFault}
use Rattle.sexpr_stream.proofs.Continuing.{kept_all, place_stays}

-- a prefix tells what is read, and whether there is more
pub kept_of_prefix : (text : List ℕ) → kept (prefix text) ≡ kept text
kept_of_prefix text = take-take text_limit (text_limit + 1) text (omega arith)

more_than : (n m : ℕ) → n < m → nat_lt n m ≡ true
more_than n m h = grind (arith, nat_tests, h)

no_more_than : (n m : ℕ) → m ≤ n → nat_lt n m ≡ false
no_more_than n m h = grind (arith, nat_tests, h)

pub long_by_prefix : (text : List ℕ) → is_long (prefix text) ≡ is_long text
long_by_prefix text = go (nat_lt text_limit (length text)) refl
  where
    go : (c : Bool) → nat_lt text_limit (length text) ≡ c → is_long (prefix text) ≡ is_long text
    go true e =
        let many : text_limit < length text = grind (arith, nat_tests, e) in
        more_than text_limit (length (prefix text)) (omega (arith, length-take (text_limit + 1) text, many)) ∙ sym e
    go false e =
        let few : length text ≤ text_limit = grind (arith, nat_tests, e) in
        no_more_than text_limit (length (prefix text)) (omega (arith, length-take (text_limit + 1) text, few)) ∙ sym e

-- a prefix of pieces is one of their prefixes
pub prefix_of_pieces : (first second : List ℕ) → prefix (prefix first ++ second) ≡ prefix (first ++ second)
prefix_of_pieces first second = go (nat_lt (length first) (text_limit + 1)) refl
  where
    go : (c : Bool) → nat_lt (length first) (text_limit + 1) ≡ c → prefix (prefix first ++ second) ≡ prefix (first ++ second)
    go true e = ap (λ xs. prefix (xs ++ second)) (take_all (text_limit + 1) first (let few : length first ≤ text_limit + 1 = grind (arith, nat_tests, e) in few))
    go false e =
        let many : text_limit + 1 ≤ length first = grind (arith, nat_tests, e) in
        take-append-le (text_limit + 1) (prefix first) second (omega (arith, many, length-take (text_limit + 1) first))
        ∙ take-take (text_limit + 1) (text_limit + 1) first (omega arith)
        ∙ sym (take-append-le (text_limit + 1) first second many)

pub kept_of_pieces : (first second : List ℕ) → kept (prefix first ++ second) ≡ kept (first ++ second)
kept_of_pieces first second = sym (kept_of_prefix (prefix first ++ second)) ∙ ap kept (prefix_of_pieces first second) ∙ kept_of_prefix (first ++ second)

pub long_of_pieces : (first second : List ℕ) → is_long (prefix first ++ second) ≡ is_long (first ++ second)
long_of_pieces first second = sym (long_by_prefix (prefix first ++ second)) ∙ ap is_long (prefix_of_pieces first second) ∙ long_by_prefix (first ++ second)

-- texts of which the same is read
pub stopped_as : (text other : List ℕ) (at : ℕ) (r : Refusal) → kept text ≡ kept other → is_long text ≡ is_long other → IsStopped text 0 (lexemes_from (kept text) at) r → IsStopped other 0 (lexemes_from (kept other) at) r
stopped_as text other at r e f h = record {
  stop = h.stop;
  stops = subst (λ (bs : List ℕ). StopsIn (length bs) 0 (lexemes_from bs at) h.stop) e h.stops;
  is = subst (λ (long : Bool). limited long h.stop ≡ Some (refusal_meant r)) f h.is;
  place = subst (λ (bs : List ℕ). IsPlaceOf bs r.place) e h.place;
}

-- what is kept of a text that goes on
kept_long : (bytes rest : List ℕ) → is_long bytes ≡ true → kept (bytes ++ rest) ≡ kept bytes
kept_long bytes rest e = take-append-le text_limit bytes rest (let many : text_limit ≤ length bytes = grind (arith, nat_tests, e) in many)

still_long : (bytes rest : List ℕ) → is_long bytes ≡ true → is_long (bytes ++ rest) ≡ true
still_long bytes rest e = grind (arith, nat_tests, e, length-append bytes rest)

kept_short : (bytes rest : List ℕ) → is_long bytes ≡ false → bytes ++ take (text_limit - length bytes) rest ≡ kept (bytes ++ rest)
kept_short bytes rest e =
    let few : length bytes ≤ text_limit = grind (arith, nat_tests, e) in
    sym (take-append-add bytes rest (text_limit - length bytes)) ∙ ap (λ n. take n (bytes ++ rest)) (let all : length bytes + (text_limit - length bytes) ≡ text_limit = omega (arith, few) in all)

-- a fault that says nothing of the end is that of the whole text
inner_stays : (long : Bool) (f : Located) → is_of_end f.fault ≡ false → limited long (Some f) ≡ Some f
inner_stays true f e = ap Some (rw e refl)
inner_stays false f e = refl

-- a tree that is next in each
pub each_next : (closed long : Bool) (bytes rest : List ℕ) (at : ℕ) (t : Tree) → is_long bytes ≡ long → (closed ≡ true → rest ≡ []) → Each (closed || long) bytes (λ text. IsNext text at t) → IsNext (kept (bytes ++ rest)) at t
each_next true long bytes rest at t e come h = subst (λ (text : List ℕ). IsNext (kept text) at t) (sym (append-nil bytes) ∙ ap (λ (r : List ℕ). bytes ++ r) (sym (come refl))) h
each_next false true bytes rest at t e come h = subst (λ (text : List ℕ). IsNext text at t) (sym (kept_long bytes rest e)) h
each_next false false bytes rest at t e come h = subst (λ (text : List ℕ). IsNext text at t) (kept_short bytes rest e) (h (take (text_limit - length bytes) rest))

-- a fault that is next in each
pub each_stopped : (closed long : Bool) (bytes rest : List ℕ) (at : ℕ) (r : Refusal) → is_long bytes ≡ long → (closed ≡ true → rest ≡ []) → HasFault (closed || long) bytes at r → IsStopped (bytes ++ rest) 0 (lexemes_from (kept (bytes ++ rest)) at) r
each_stopped true long bytes rest at r e come h = subst (λ (text : List ℕ). IsStopped text 0 (lexemes_from (kept text) at) r) (sym (append-nil bytes) ∙ ap (λ (r : List ℕ). bytes ++ r) (sym (come refl))) h
each_stopped false true bytes rest at r e come h = stopped_as bytes (bytes ++ rest) at r (sym (kept_long bytes rest e)) (e ∙ sym (still_long bytes rest e)) h
each_stopped false false bytes rest at r e come h = record {
  stop = Some (refusal_meant r);
  stops = subst (λ (text : List ℕ). IsFault text at (refusal_meant r)) (kept_short bytes rest e) (h.stops (take (text_limit - length bytes) rest));
  is = inner_stays (is_long (bytes ++ rest)) (refusal_meant r) h.inner;
  place = place_stays bytes rest r.place (subst (λ (text : List ℕ). IsPlaceOf text r.place) (sym (kept_all bytes e)) h.place);
}
