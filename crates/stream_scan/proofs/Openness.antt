-- Whatever token is pending, no outcome is that of each text that goes on so.
use Rattle.std.proofs.Common.{◌≡◌, ◌<◌, ℕ, zero, suc, ◌+◌, false, cond, List, [], ◌∷◌, ◌++◌, length, refl, sym, ap, ◌∙◌, arith, subst, append_assoc, append-nil, length-append}
use Rattle.std.specs.Prelude.{◌==◌}
use Rattle.std.proofs.lemmas.Bool.Decides.{nat_tests}
use Rattle.spec_text.specs.declared.Kind.{Kind}
use Rattle.spec_text.specs.declared.Kind.TheVariants as kinds
use Rattle.spec_text.specs.declared.Fault.{Fault}
use Rattle.spec_text.specs.declared.Fault.TheVariants.{BadChar}
use Rattle.spec_text.specs.Bytes.{is_digit, is_symbol_byte, is_in_bars, among, reserved_words}
use Rattle.spec_text.specs.Lexemes.{word, wrong, piece, ended, number, lexemes}
use Rattle.spec_text.specs.Lexicon.{Consists, digits, IsInside}
use Rattle.spec_text.proofs.Spelling.{piece_of, numeral_piece, string_piece, quoted_piece}
use Rattle.stream_scan.specs.declared.Pending.{Pending}
use Rattle.stream_scan.specs.declared.Pending.TheVariants.{Blank, Comment, Symbol, Zero, Digits, Point, Fraction, Text, Quote, Quoted, Colon, Keyword}
use Rattle.stream_scan.specs.declared.Scan.TheVariants.{Open, Settled}
use Rattle.stream_scan.specs.Next.{Outcome, whole, stops, outcome}
use Rattle.stream_scan.specs.Scanning.{next_scan}
use Rattle.stream_scan.proofs.Pieces.{after_piece, fault_piece, consists_more, inside_pair, symbol_ends, keyword_ends, decimal_ended, blank_passed, wrong_byte, zero_piece}
use Rattle.stream_scan.proofs.Outcomes.{outcome_word_alone, outcome_wrong}
use Rattle.stream_scan.proofs.OneByte.{IsPending, Advances, Transition, transition}

-- no outcome is that of all bytes that may come after
abbrev pub IsOpenAt : (n at : ℕ) → List ℕ → Type 0
IsOpenAt n at w = (o : Outcome) → ((c : List ℕ) → outcome n (lexemes 0 at (w ++ c)) ≡ o) → ⊥

-- after some bytes the outcome is another than after others
two_outcomes : (n at : ℕ) (w a b : List ℕ) (x y : Outcome) → outcome n (lexemes 0 at (w ++ a)) ≡ x → outcome n (lexemes 0 at (w ++ b)) ≡ y → (x ≡ y → ⊥) → IsOpenAt n at w
two_outcomes n at w a b x y e f differ o h = differ (sym e ∙ h a ∙ sym (h b) ∙ f)

-- after one byte more it is open
byte_more : (n at : ℕ) (w : List ℕ) (b : ℕ) (q : Pending) (m : ℕ) → Advances n at w b q m → ((here : ℕ) (token : List ℕ) → IsPending q token → IsOpenAt m here token) → IsOpenAt n at w
byte_more n at w b q m g next o h = next g.here g.token g.pending (outcome m (lexemes 0 g.here (g.token ++ []))) (λ c. g.injective _ _ (sym (g.same c) ∙ h (b ∷ c) ∙ sym (h (b ∷ [])) ∙ g.same []))

after_byte : (p : Pending) (n at : ℕ) (w : List ℕ) (b : ℕ) (q : Pending) (m : ℕ) → IsPending p w → next_scan p n b ≡ Open q m → ((here : ℕ) (token : List ℕ) → IsPending q token → IsOpenAt m here token) → IsOpenAt n at w
after_byte p n at w b q m h e next = byte_more n at w b q m (subst (Transition n at w b) e (transition p n at w b h)) next

-- the offset that an outcome has
abbrev offset_in : Outcome → ℕ
offset_in (stops p f) = p
offset_in _ = 0

-- where no token is pending
wrong_next : (n at b : ℕ) → lexemes 0 at (b ∷ []) ≡ (at, wrong BadChar) ∷ [] → outcome n (lexemes 0 at (b ∷ [])) ≡ stops at BadChar
wrong_next n at b e = ap (outcome n) e ∙ outcome_wrong n at BadChar []

zero_byte : (at : ℕ) → lexemes 0 at (0 ∷ []) ≡ (at, wrong BadChar) ∷ []
zero_byte at = wrong_byte at 0 [] refl refl refl refl refl refl refl refl refl refl

blank_open : (n at : ℕ) → IsOpenAt n at []
blank_open n at = two_outcomes n at [] (0 ∷ []) (32 ∷ 0 ∷ []) (stops at BadChar) (stops (at + 1) BadChar)
    (wrong_next n at 0 (zero_byte at))
    (ap (outcome n) (blank_passed at 32 (0 ∷ []) refl) ∙ wrong_next n (at + 1) 0 (zero_byte (at + 1)))
    (λ e. let same : at ≡ at + 1 = ap offset_in e in omega (arith, same))

blank_pending_open : (n here : ℕ) (token : List ℕ) → IsPending Blank token → IsOpenAt n here token
blank_pending_open n here token e = subst (IsOpenAt n here) (sym e) (blank_open n here)

in_list_test : (m : ℕ) → (suc m == 0) ≡ false
in_list_test m = grind (arith, nat_tests)

word_in_list_ends : (m : ℕ) → cond (suc m == 0) Settled (Open Blank (suc m)) ≡ Open Blank (suc m)
word_in_list_ends m = ap (λ t. cond t Settled (Open Blank (suc m))) (in_list_test m)

-- a word in a list
word_in_list : (p : Pending) (m at : ℕ) (w : List ℕ) → IsPending p w → next_scan p (suc m) 32 ≡ Open Blank (suc m) → IsOpenAt (suc m) at w
word_in_list p m at w h e = after_byte p (suc m) at w 32 Blank (suc m) h e (blank_pending_open (suc m))

-- a word outside of lists, before white space
word_alone : (at : ℕ) (w rest : List ℕ) (k : Kind) (name : List ℕ) (size : ℕ) → piece_of (w ++ rest) ≡ piece (word k name) size → size ≡ length w → 0 < length w → outcome 0 (lexemes 0 at (w ++ rest)) ≡ whole ((at, word k name) ∷ [])
word_alone at w rest k name size e s some = ap (outcome 0) (after_piece at w rest (piece (word k name) size) e s some) ∙ outcome_word_alone 0 at k name _ refl

-- the word that an outcome is
abbrev name_in : Outcome → List ℕ
name_in (whole ((at, word k name) ∷ xs)) = name
name_in _ = []

other_names : (at : ℕ) (xs ys : List ℕ) (j k : Kind) → (length xs ≡ length ys → ⊥) → whole ((at, word j xs) ∷ []) ≡ whole ((at, word k ys) ∷ []) → ⊥
other_names at xs ys j k differ e = differ (ap (λ o. length (name_in o)) e)

no_fault : (at b : ℕ) (k : Kind) (name : List ℕ) (f : Fault) → whole ((at, word k name) ∷ []) ≡ stops b f → ⊥
no_fault at b k name f e = cc

-- a number outside of lists
number_alone : (at : ℕ) (w : List ℕ) (k : Kind) (name : List ℕ) (size : ℕ) → ((b : ℕ) (rest : List ℕ) → is_digit b ≡ false → (b == 46) ≡ false → piece_of (w ++ b ∷ rest) ≡ ended (b ∷ rest) size (word k name)) → size ≡ length w → 0 < length w → IsOpenAt 0 at w
number_alone at w k name size e s some = two_outcomes 0 at w (32 ∷ []) (97 ∷ []) (whole ((at, word k name) ∷ [])) (stops (at + size) BadChar)
    (word_alone at w (32 ∷ []) k name size (e 32 [] refl refl) s some)
    (ap (outcome 0) (fault_piece at (w ++ 97 ∷ []) size BadChar (e 97 [] refl refl) (omega (arith, length-append w (97 ∷ [])))) ∙ outcome_wrong 0 (at + size) BadChar [])
    (no_fault at (at + size) k name BadChar)

numeral_ended : (ds : List ℕ) (b : ℕ) (rest : List ℕ) → (b == 46) ≡ false → number ds (b ∷ rest) ≡ ended (b ∷ rest) (length ds) (word kinds.Numeral ds)
numeral_ended ds b rest t = rw t refl

open_symbol : (n at : ℕ) (w : List ℕ) → IsPending Symbol w → IsOpenAt n at w
open_symbol zero at w (b, r, is, h) = two_outcomes 0 at w (32 ∷ []) (97 ∷ 32 ∷ []) (whole ((at, word _ (b ∷ r)) ∷ [])) (whole ((at, word _ (b ∷ r ++ 97 ∷ [])) ∷ []))
    (word_alone at w (32 ∷ []) (cond (among reserved_words (b ∷ r)) kinds.Reserved kinds.Simple) (b ∷ r) (length (b ∷ r)) (ap (λ (xs : List ℕ). piece_of (xs ++ 32 ∷ [])) is ∙ symbol_ends b r 32 [] h refl) (ap length (sym is)) (omega (arith, ap length is)))
    (ap (λ (xs : List ℕ). outcome 0 (lexemes 0 at xs)) (sym (append_assoc w (97 ∷ []) (32 ∷ []))) ∙ word_alone at (w ++ 97 ∷ []) (32 ∷ []) (cond (among reserved_words (b ∷ r ++ 97 ∷ [])) kinds.Reserved kinds.Simple) (b ∷ r ++ 97 ∷ []) (length (b ∷ r ++ 97 ∷ []))
    (ap (λ (xs : List ℕ). piece_of ((xs ++ 97 ∷ []) ++ 32 ∷ [])) is ∙ symbol_ends b (r ++ 97 ∷ []) 32 [] (record { no_number = h.no_number; run = (h.run.0, consists_more is_symbol_byte r 97 h.run.1 refl) }) refl) (ap (λ (xs : List ℕ). length (xs ++ 97 ∷ [])) (sym is)) (omega (arith, length-append w (97 ∷ []))))
    (other_names at (b ∷ r) (b ∷ r ++ 97 ∷ []) _ _ (λ e. omega (arith, e, length-append r (97 ∷ []))))
open_symbol (suc m) at w h = word_in_list Symbol m at w h (word_in_list_ends m)

open_zero : (n at : ℕ) (w : List ℕ) → IsPending Zero w → IsOpenAt n at w
open_zero zero at w is = number_alone at w kinds.Numeral (48 ∷ []) 1 (λ b rest d p. ap (λ (xs : List ℕ). piece_of (xs ++ b ∷ rest)) is ∙ zero_piece b rest ∙ numeral_ended (48 ∷ []) b rest p) (ap length (sym is)) (omega (arith, ap length is))
open_zero (suc m) at w h = word_in_list Zero m at w h (word_in_list_ends m)

open_digits : (n at : ℕ) (w : List ℕ) → IsPending Digits w → IsOpenAt n at w
open_digits zero at w (d, r, is, some, run) = number_alone at w kinds.Numeral (d ∷ r) (length (d ∷ r)) (λ b rest t p. ap (λ (xs : List ℕ). piece_of (xs ++ b ∷ rest)) is ∙ numeral_piece (d ∷ r) (digits d r some run) (b ∷ rest) t ∙ numeral_ended (d ∷ r) b rest p) (ap length (sym is)) (omega (arith, ap length is))
open_digits (suc m) at w h = word_in_list Digits m at w h (word_in_list_ends m)

open_fraction : (n at : ℕ) (w : List ℕ) → IsPending Fraction w → IsOpenAt n at w
open_fraction zero at w (ds, f, fs, is, h, run) = number_alone at w kinds.Decimal (ds ++ 46 ∷ f ∷ fs) (length ds + 1 + length (f ∷ fs))
    (λ b rest t p. ap (λ (xs : List ℕ). piece_of (xs ++ b ∷ rest)) is ∙ ap piece_of (append_assoc ds (46 ∷ f ∷ fs) (b ∷ rest)) ∙ decimal_ended ds f fs b rest h run t)
    (omega (arith, ap length is, length-append ds (46 ∷ f ∷ fs))) (omega (arith, ap length is, length-append ds (46 ∷ f ∷ fs)))
open_fraction (suc m) at w h = word_in_list Fraction m at w h (word_in_list_ends m)

open_quote : (n at : ℕ) (w : List ℕ) → IsPending Quote w → IsOpenAt n at w
open_quote zero at w (r, is, h) = two_outcomes 0 at w (32 ∷ []) (34 ∷ 34 ∷ 32 ∷ []) (whole ((at, word kinds.Text r) ∷ [])) (whole ((at, word kinds.Text (r ++ 34 ∷ 34 ∷ [])) ∷ []))
    (string_alone w r is h)
    (ap (λ (xs : List ℕ). outcome 0 (lexemes 0 at xs)) (sym (append_assoc w (34 ∷ 34 ∷ []) (32 ∷ []))) ∙ string_alone (w ++ 34 ∷ 34 ∷ []) (r ++ 34 ∷ 34 ∷ []) (ap (λ (xs : List ℕ). xs ++ 34 ∷ 34 ∷ []) is ∙ ap (λ (xs : List ℕ). 34 ∷ xs) (append_assoc r (34 ∷ []) (34 ∷ 34 ∷ []) ∙ sym (append_assoc r (34 ∷ 34 ∷ []) (34 ∷ [])))) (inside_pair r h))
    (other_names at r (r ++ 34 ∷ 34 ∷ []) kinds.Text kinds.Text (λ e. omega (arith, e, length-append r (34 ∷ 34 ∷ []))))
  where
    string_alone : (v s : List ℕ) → v ≡ 34 ∷ s ++ 34 ∷ [] → IsInside s → outcome 0 (lexemes 0 at (v ++ 32 ∷ [])) ≡ whole ((at, word kinds.Text s) ∷ [])
    string_alone v s e k = word_alone at v (32 ∷ []) kinds.Text s (length s + 2) (ap (λ (xs : List ℕ). piece_of (xs ++ 32 ∷ [])) e ∙ string_piece s (32 ∷ []) k refl) (omega (arith, ap length e, length-append s (34 ∷ []))) (omega (arith, ap length e))
open_quote (suc m) at w h = word_in_list Quote m at w h (word_in_list_ends m)

open_quoted : (n at : ℕ) (w : List ℕ) → IsPending Quoted w → IsOpenAt n at w
open_quoted zero at w (r, is, h) = two_outcomes 0 at w (124 ∷ []) (97 ∷ 124 ∷ []) (whole ((at, word kinds.Quoted r) ∷ [])) (whole ((at, word kinds.Quoted (r ++ 97 ∷ [])) ∷ []))
    (quoted_alone w r is h)
    (ap (λ (xs : List ℕ). outcome 0 (lexemes 0 at xs)) (sym (append_assoc w (97 ∷ []) (124 ∷ []))) ∙ quoted_alone (w ++ 97 ∷ []) (r ++ 97 ∷ []) (ap (λ (xs : List ℕ). xs ++ 97 ∷ []) is) (consists_more is_in_bars r 97 h refl))
    (other_names at r (r ++ 97 ∷ []) kinds.Quoted kinds.Quoted (λ e. omega (arith, e, length-append r (97 ∷ []))))
  where
    quoted_alone : (v s : List ℕ) → v ≡ 124 ∷ s → Consists is_in_bars s → outcome 0 (lexemes 0 at (v ++ 124 ∷ [])) ≡ whole ((at, word kinds.Quoted s) ∷ [])
    quoted_alone v s e k =
        let all : (v ++ 124 ∷ []) ++ [] ≡ 124 ∷ (s ++ 124 ∷ []) ++ [] = ap (λ (xs : List ℕ). (xs ++ 124 ∷ []) ++ []) e in
        ap (λ (xs : List ℕ). outcome 0 (lexemes 0 at xs)) (sym (append-nil (v ++ 124 ∷ [])))
        ∙ word_alone at (v ++ 124 ∷ []) [] kinds.Quoted s (length s + 2) (ap piece_of all ∙ quoted_piece s [] k) (omega (arith, ap length e, length-append v (124 ∷ []))) (omega (arith, length-append v (124 ∷ [])))
open_quoted (suc m) at w h = after_byte Quoted (suc m) at w 124 Blank (suc m) h (word_in_list_ends m) (blank_pending_open (suc m))

open_keyword : (n at : ℕ) (w : List ℕ) → IsPending Keyword w → IsOpenAt n at w
open_keyword zero at w (b, r, is, h) = two_outcomes 0 at w (32 ∷ []) (97 ∷ 32 ∷ []) (whole ((at, word kinds.Keyword (b ∷ r)) ∷ [])) (whole ((at, word kinds.Keyword (b ∷ r ++ 97 ∷ [])) ∷ []))
    (keyword_alone w r is h)
    (ap (λ (xs : List ℕ). outcome 0 (lexemes 0 at xs)) (sym (append_assoc w (97 ∷ []) (32 ∷ []))) ∙ keyword_alone (w ++ 97 ∷ []) (r ++ 97 ∷ []) (ap (λ (xs : List ℕ). xs ++ 97 ∷ []) is) (h.0, consists_more is_symbol_byte r 97 h.1 refl))
    (other_names at (b ∷ r) (b ∷ r ++ 97 ∷ []) kinds.Keyword kinds.Keyword (λ e. omega (arith, e, length-append r (97 ∷ []))))
  where
    keyword_alone : (v s : List ℕ) → v ≡ 58 ∷ b ∷ s → Consists is_symbol_byte (b ∷ s) → outcome 0 (lexemes 0 at (v ++ 32 ∷ [])) ≡ whole ((at, word kinds.Keyword (b ∷ s)) ∷ [])
    keyword_alone v s e k = word_alone at v (32 ∷ []) kinds.Keyword (b ∷ s) (length (b ∷ s) + 1) (ap (λ (xs : List ℕ). piece_of (xs ++ 32 ∷ [])) e ∙ keyword_ends b s 32 [] k refl) (omega (arith, ap length e)) (omega (arith, ap length e))
open_keyword (suc m) at w h = word_in_list Keyword m at w h (word_in_list_ends m)

-- whatever token is pending
pub open_pending : (p : Pending) (n at : ℕ) (w : List ℕ) → IsPending p w → IsOpenAt n at w
open_pending Blank n at w h = blank_pending_open n at w h
open_pending Comment n at w h = after_byte Comment n at w 10 Blank n h refl (blank_pending_open n)
open_pending Symbol n at w h = open_symbol n at w h
open_pending Zero n at w h = open_zero n at w h
open_pending Digits n at w h = open_digits n at w h
open_pending Point n at w h = after_byte Point n at w 48 Fraction n h refl (open_fraction n)
open_pending Fraction n at w h = open_fraction n at w h
open_pending Text n at w h = after_byte Text n at w 34 Quote n h refl (open_quote n)
open_pending Quote n at w h = open_quote n at w h
open_pending Quoted n at w h = open_quoted n at w h
open_pending Colon n at w h = after_byte Colon n at w 97 Keyword n h refl (open_keyword n)
open_pending Keyword n at w h = open_keyword n at w h
