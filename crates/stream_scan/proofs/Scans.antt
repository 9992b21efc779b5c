-- What is settled is the same in each text that goes on so, and what is open is not.
use Rattle.std.proofs.Common.{◌≡◌, ◌≢◌, ◌≤◌, ◌+◌, ◌==◌, drop, ℕ, Bool, true, false, cond, List, [], ◌∷◌, ◌++◌, length, refl, sym, ap, ◌∙◌, subst, arith, nat_lt}
use Rattle.stream_scan.specs.declared.Pending.TheVariants as pendings
use Rattle.std.proofs.lemmas.List.{drop-append-le}
use Rattle.spec_text.specs.Bytes.{is_blank, is_in_comment, is_digit, is_symbol_byte, is_in_bars}
use Rattle.spec_text.specs.Lexemes.{lexemes}
use Rattle.stream_scan.specs.declared.Pending.{Pending}
use Rattle.stream_scan.specs.declared.Pending.TheVariants.{Blank}
use Rattle.stream_scan.specs.declared.Scan.{Scan}
use Rattle.stream_scan.specs.declared.Scan.TheVariants.{Open, Settled}
use Rattle.stream_scan.specs.Next.{Outcome, outcome, next_in, IsSettled, IsOpen}
use Rattle.stream_scan.specs.Scanning.{between_tokens, after_word, after_number, after_numeral, next_scan, lists_of, scanned, scanned_from}
use Rattle.stream_scan.proofs.Outcomes.{IsFinal}
use Rattle.stream_scan.proofs.OneByte.{IsPending, Transition, transition}
use Rattle.stream_scan.proofs.Openness.{open_pending}

pub scanned_settled : (bs : List ℕ) → scanned Settled bs ≡ Settled
scanned_settled [] = refl
scanned_settled (b ∷ bs) = refl

-- what is settled is the same whatever comes after
same_transition : (n at : ℕ) (w : List ℕ) (b : ℕ) (bs c : List ℕ) (s : Scan) → Transition n at w b s → scanned s bs ≡ Settled
    → ((p : Pending) (m here : ℕ) (token : List ℕ) → IsPending p token → scanned (Open p m) bs ≡ Settled → outcome m (lexemes 0 here (token ++ (bs ++ c))) ≡ outcome m (lexemes 0 here (token ++ bs)))
    → outcome n (lexemes 0 at (w ++ b ∷ (bs ++ c))) ≡ outcome n (lexemes 0 at (w ++ b ∷ bs))
same_transition n at w b bs c (Open q m) t k more = t.same (bs ++ c) ∙ ap t.put (more q m t.here t.token t.pending k) ∙ sym (t.same bs)
same_transition n at w b bs c Settled t k more = t.2 (bs ++ c) ∙ sym (t.2 bs)

pub settled_same : (bs c : List ℕ) (p : Pending) (n at : ℕ) (w : List ℕ) → IsPending p w → scanned (Open p n) bs ≡ Settled → outcome n (lexemes 0 at (w ++ (bs ++ c))) ≡ outcome n (lexemes 0 at (w ++ bs))
settled_same [] c p n at w h e = cc
settled_same (b ∷ bs) c p n at w h e = same_transition n at w b bs c (next_scan p n b) (transition p n at w b h) e (settled_same bs c)

-- what is settled is an s-expression or a fault
final_transition : (n at : ℕ) (w : List ℕ) (b : ℕ) (bs : List ℕ) (s : Scan) → Transition n at w b s → scanned s bs ≡ Settled
    → ((p : Pending) (m here : ℕ) (token : List ℕ) → IsPending p token → scanned (Open p m) bs ≡ Settled → IsFinal (outcome m (lexemes 0 here (token ++ bs))))
    → IsFinal (outcome n (lexemes 0 at (w ++ b ∷ bs)))
final_transition n at w b bs (Open q m) t k more = subst IsFinal (sym (t.same bs)) (t.final _ (more q m t.here t.token t.pending k))
final_transition n at w b bs Settled t k more = subst IsFinal (sym (t.2 bs)) t.1

pub settled_final : (bs : List ℕ) (p : Pending) (n at : ℕ) (w : List ℕ) → IsPending p w → scanned (Open p n) bs ≡ Settled → IsFinal (outcome n (lexemes 0 at (w ++ bs)))
settled_final [] p n at w h e = cc
settled_final (b ∷ bs) p n at w h e = final_transition n at w b bs (next_scan p n b) (transition p n at w b h) e (settled_final bs)

-- what is open has no one outcome
abbrev StaysOpen : List ℕ → ℕ → ℕ → List ℕ → Type 0
StaysOpen bs n at w = (o : Outcome) → ((c : List ℕ) → outcome n (lexemes 0 at (w ++ (bs ++ c))) ≡ o) → ⊥

open_transition : (n at : ℕ) (w : List ℕ) (b : ℕ) (bs : List ℕ) (s : Scan) → Transition n at w b s → (scanned s bs ≡ Settled → ⊥)
    → ((p : Pending) (m here : ℕ) (token : List ℕ) → IsPending p token → (scanned (Open p m) bs ≡ Settled → ⊥) → StaysOpen bs m here token)
    → StaysOpen (b ∷ bs) n at w
open_transition n at w b bs (Open q m) t k more o same = more q m t.here t.token t.pending k (outcome m (lexemes 0 t.here (t.token ++ (bs ++ []))))
    (λ c. t.injective _ _ (sym (t.same (bs ++ c)) ∙ same c ∙ sym (same []) ∙ t.same (bs ++ [])))
open_transition n at w b bs Settled t k more o same = k (scanned_settled bs)

pub open_stays : (bs : List ℕ) (p : Pending) (n at : ℕ) (w : List ℕ) → IsPending p w → (scanned (Open p n) bs ≡ Settled → ⊥) → StaysOpen bs n at w
open_stays [] p n at w h e = open_pending p n at w h
open_stays (b ∷ bs) p n at w h e = open_transition n at w b bs (next_scan p n b) (transition p n at w b h) e (open_stays bs)

-- bytes in pieces
pub in_pieces : (xs ys : List ℕ) (s : Scan) → scanned s (xs ++ ys) ≡ scanned (scanned s xs) ys
in_pieces [] ys s = refl
in_pieces (x ∷ xs) ys Settled = sym (scanned_settled ys)
in_pieces (x ∷ xs) ys (Open p n) = in_pieces xs ys (next_scan p n x)

-- what is next in a text that goes on
next_further : (text more : List ℕ) (at : ℕ) → at ≤ length text → next_in (text ++ more) at ≡ outcome 0 (lexemes 0 at (drop at text ++ more))
next_further text more at within = ap (λ (bs : List ℕ). outcome 0 (lexemes 0 at bs)) (drop-append-le at text more within)

-- a scan that is settled
pub scan_settles : (text : List ℕ) (at : ℕ) → at ≤ length text → scanned_from text at ≡ Settled → IsSettled text at
scan_settles text at within e more = next_further text more at within ∙ settled_same (drop at text) more pendings.Blank 0 at [] refl e

pub scan_is_final : (text : List ℕ) (at : ℕ) → scanned_from text at ≡ Settled → IsFinal (next_in text at)
scan_is_final text at e = settled_final (drop at text) pendings.Blank 0 at [] refl e

-- a scan that is open
pub scan_stays_open : (text : List ℕ) (at : ℕ) → at ≤ length text → scanned_from text at ≢ Settled → IsOpen text at
scan_stays_open text at within e o h =
    open_stays (drop at text) pendings.Blank 0 at [] refl e o (λ more. sym (next_further text more at within) ∙ h more)

-- by what a test of a byte says
either_lists : (t : Bool) (p q : Scan) (m : ℕ) → lists_of p ≤ m → lists_of q ≤ m → lists_of (cond t p q) ≤ m
either_lists true p q m h k = h
either_lists false p q m h k = k

-- a byte opens one list at most
between_lists : (n b : ℕ) → lists_of (between_tokens n b) ≤ n + 1
between_lists n b =
    either_lists (is_blank b) _ _ _ (omega arith) (either_lists (b == 59) _ _ _ (omega arith) (either_lists (b == 40) _ _ _ (omega arith)
    (either_lists (b == 41) _ _ _ (either_lists (nat_lt 1 n) _ _ _ (omega arith) (omega arith)) (either_lists (b == 48) _ _ _ (omega arith) (either_lists (is_digit b) _ _ _ (omega arith)
    (either_lists (b == 34) _ _ _ (omega arith) (either_lists (b == 124) _ _ _ (omega arith) (either_lists (b == 58) _ _ _ (omega arith) (either_lists (is_symbol_byte b) _ _ _ (omega arith) (omega arith))))))))))

word_lists : (n b : ℕ) → lists_of (after_word n b) ≤ n + 1
word_lists n b = either_lists (n == 0) _ _ _ (omega arith) (between_lists n b)

number_lists : (n b : ℕ) → lists_of (after_number n b) ≤ n + 1
number_lists n b = either_lists (is_symbol_byte b) _ _ _ (omega arith) (word_lists n b)

numeral_lists : (n b : ℕ) → lists_of (after_numeral n b) ≤ n + 1
numeral_lists n b = either_lists (b == 46) _ _ _ (omega arith) (number_lists n b)

pub next_lists : (p : Pending) (n b : ℕ) → lists_of (next_scan p n b) ≤ n + 1
next_lists pendings.Blank n b = between_lists n b
next_lists pendings.Comment n b = either_lists (is_in_comment b) _ _ _ (omega arith) (omega arith)
next_lists pendings.Symbol n b = either_lists (is_symbol_byte b) _ _ _ (omega arith) (word_lists n b)
next_lists pendings.Zero n b = numeral_lists n b
next_lists pendings.Digits n b = either_lists (is_digit b) _ _ _ (omega arith) (numeral_lists n b)
next_lists pendings.Point n b = either_lists (is_digit b) _ _ _ (omega arith) (omega arith)
next_lists pendings.Fraction n b = either_lists (is_digit b) _ _ _ (omega arith) (number_lists n b)
next_lists pendings.Text n b = either_lists (b == 34) _ _ _ (omega arith) (omega arith)
next_lists pendings.Quote n b = either_lists (b == 34) _ _ _ (omega arith) (word_lists n b)
next_lists pendings.Quoted n b = either_lists (is_in_bars b) _ _ _ (omega arith) (either_lists (b == 124) _ _ _ (either_lists (n == 0) _ _ _ (omega arith) (omega arith)) (omega arith))
next_lists pendings.Colon n b = either_lists (is_symbol_byte b) _ _ _ (omega arith) (omega arith)
next_lists pendings.Keyword n b = either_lists (is_symbol_byte b) _ _ _ (omega arith) (word_lists n b)

-- bytes open as many lists as they are, at most
pub scanned_lists : (bs : List ℕ) (s : Scan) → lists_of (scanned s bs) ≤ lists_of s + length bs
scanned_lists [] s = omega arith
scanned_lists (b ∷ bs) Settled = omega arith
scanned_lists (b ∷ bs) (Open p n) = omega (arith, scanned_lists bs (next_scan p n b), next_lists p n b)
