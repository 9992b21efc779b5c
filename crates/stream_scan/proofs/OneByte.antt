-- One byte, whatever comes after: the outcome before it is the one after it, with a lexeme put first or none.
use Rattle.std.proofs.Common.{◌≡◌, ◌≢◌, ◌<◌, ℕ, ◌+◌, ◌-◌, Bool, true, false, cond, List, [], ◌∷◌, ◌++◌, length, refl, sym, ap, ◌∙◌, arith, subst, append_assoc, length-append}
use Rattle.std.specs.Prelude.{◌==◌, nat_lt}
use Rattle.std.proofs.lemmas.Bool.Decides.{nat_tests}
use Rattle.spec_text.specs.declared.Kind.{Kind}
use Rattle.spec_text.specs.declared.Kind.TheVariants.{Simple, Reserved}
use Rattle.spec_text.specs.declared.Kind.TheVariants as kinds
use Rattle.spec_text.specs.declared.Fault.{Fault}
use Rattle.spec_text.specs.declared.Fault.TheVariants.{BadChar}
use Rattle.spec_text.specs.Bytes.{is_blank, is_in_comment, is_digit, is_symbol_byte, is_in_bars, among, reserved_words}
use Rattle.spec_text.specs.Lexemes.{Lexeme, blank, opens, closes, word, wrong, piece, ended, number, lexemes}
use Rattle.spec_text.specs.Lexicon.{Consists, IsNumeral, only_zero, digits, IsInside, empty}
use Rattle.spec_text.proofs.Tests.{IsSymbolic}
use Rattle.spec_text.proofs.Spelling.{piece_of, numeral_piece, number_piece, string_piece, quoted_piece}
use Rattle.spec_text.specs.Readings.{is_of_end}
use Rattle.stream_scan.specs.declared.Pending.{Pending}
use Rattle.stream_scan.specs.declared.Pending.TheVariants.{Blank, Comment, Symbol, Zero, Digits, Point, Fraction, Text, Quote, Quoted, Colon, Keyword}
use Rattle.stream_scan.specs.declared.Scan.{Scan}
use Rattle.stream_scan.specs.declared.Scan.TheVariants.{Open, Settled}
use Rattle.stream_scan.specs.Next.{Outcome, whole, stops, prepend, outcome}
use Rattle.stream_scan.specs.Scanning.{between_tokens, after_word, after_numeral, next_scan}
use Rattle.stream_scan.proofs.Outcomes.{IsInjective, prepend_injective, IsFinal, prepend_final, outcome_open, outcome_close, outcome_close_last, outcome_close_final, outcome_word, outcome_word_alone, outcome_wrong}
use Rattle.stream_scan.proofs.Pieces.{after_piece, fault_piece, consists_more, inside_more, inside_pair, numeral_some, symbol_ends, keyword_ends, point_alone, decimal_ended, quoted_wrong, comment_ends, blank_after_comment, blank_passed, wrong_byte, opens_here, closes_here, zero_piece, colon_alone}

-- these bytes are a pending token
abbrev pub IsPending : Pending → List ℕ → Type 0
IsPending Blank w = w ≡ []
IsPending Comment w = (r : List ℕ) × (w ≡ 59 ∷ r) × Consists is_in_comment r
IsPending Symbol w = (b : ℕ) × (r : List ℕ) × (w ≡ b ∷ r) × IsSymbolic b r
IsPending Zero w = w ≡ 48 ∷ []
IsPending Digits w = (d : ℕ) × (r : List ℕ) × (w ≡ d ∷ r) × (d ≢ 48) × Consists is_digit (d ∷ r)
IsPending Point w = (ds : List ℕ) × (w ≡ ds ++ 46 ∷ []) × IsNumeral ds
IsPending Fraction w = (ds : List ℕ) × (f : ℕ) × (fs : List ℕ) × (w ≡ ds ++ 46 ∷ f ∷ fs) × IsNumeral ds × Consists is_digit (f ∷ fs)
IsPending Text w = (r : List ℕ) × (w ≡ 34 ∷ r) × IsInside r
IsPending Quote w = (r : List ℕ) × (w ≡ 34 ∷ r ++ 34 ∷ []) × IsInside r
IsPending Quoted w = (r : List ℕ) × (w ≡ 124 ∷ r) × Consists is_in_bars r
IsPending Colon w = w ≡ 58 ∷ []
IsPending Keyword w = (b : ℕ) × (r : List ℕ) × (w ≡ 58 ∷ b ∷ r) × Consists is_symbol_byte (b ∷ r)

-- after the byte the scan is open: a token goes on, or begins, or has ended
pub record Advances (n at : ℕ) (w : List ℕ) (b : ℕ) (p : Pending) (m : ℕ) : Type 0 where
  -- the pending token after the byte, and its offset
  pub token : List ℕ
  pub here : ℕ
  pub pending : IsPending p token
  -- the lexeme that the byte ends comes first, where it ends one
  pub put : Outcome → Outcome
  pub injective : IsInjective put
  pub final : (o : Outcome) → IsFinal o → IsFinal (put o)
  -- whatever comes after
  pub same : (rest : List ℕ) → outcome n (lexemes 0 at (w ++ b ∷ rest)) ≡ put (outcome m (lexemes 0 here (token ++ rest)))

-- what the byte makes of the scan is right
abbrev pub Transition : (n at : ℕ) → List ℕ → ℕ → Scan → Type 0
Transition n at w b (Open p m) = Advances n at w b p m
Transition n at w b Settled = (o : Outcome) × IsFinal o × ((rest : List ℕ) → outcome n (lexemes 0 at (w ++ b ∷ rest)) ≡ o)

-- by what a test of the byte says
by_test : (n at : ℕ) (w : List ℕ) (b : ℕ) (t : Bool) (p q : Scan) → (t ≡ true → Transition n at w b p) → (t ≡ false → Transition n at w b q) → Transition n at w b (cond t p q)
by_test n at w b true p q f g = f refl
by_test n at w b false p q f g = g refl

-- the byte belongs to the token
token_goes_on : (n at : ℕ) (w : List ℕ) (b : ℕ) (p : Pending) → IsPending p (w ++ b ∷ []) → Transition n at w b (Open p n)
token_goes_on n at w b p h = record {
  token = w ++ b ∷ [];
  here = at;
  pending = h;
  put = λ o. o;
  injective = λ x y e. e;
  final = λ o h. h;
  same = λ rest. ap (λ (bs : List ℕ). outcome n (lexemes 0 at bs)) (sym (append_assoc w (b ∷ []) rest));
}

-- the byte comes after a lexeme
lexeme_before : (n m at here : ℕ) (w : List ℕ) (b : ℕ) (x : ℕ × Lexeme) (s : Scan) → Transition m here [] b s → ((rest : List ℕ) → outcome n (lexemes 0 at (w ++ b ∷ rest)) ≡ prepend x (outcome m (lexemes 0 here (b ∷ rest)))) → Transition n at w b s
lexeme_before n m at here w b x (Open p k) h e = record {
  token = h.token;
  here = h.here;
  pending = h.pending;
  put = λ o. prepend x (h.put o);
  injective = λ y z f. h.injective y z (prepend_injective x (h.put y) (h.put z) f);
  final = λ o k. prepend_final x (h.put o) (h.final o k);
  same = λ rest. e rest ∙ ap (prepend x) (h.same rest);
}
lexeme_before n m at here w b x Settled h e = (prepend x h.0, prepend_final x h.0 h.1, λ rest. e rest ∙ ap (prepend x) (h.2 rest))

-- the token is whole with this byte
token_ends : (n m at : ℕ) (w : List ℕ) (b : ℕ) (put : Outcome → Outcome) → IsInjective put → ((o : Outcome) → IsFinal o → IsFinal (put o)) → (here : ℕ) → ((rest : List ℕ) → outcome n (lexemes 0 at (w ++ b ∷ rest)) ≡ put (outcome m (lexemes 0 here rest))) → Transition n at w b (Open Blank m)
token_ends n m at w b put injective final here e = record { token = []; here = here; pending = refl; put = put; injective = injective; final = final; same = e }

-- a byte where no token is pending
pub between_transition : (n at b : ℕ) → Transition n at [] b (between_tokens n b)
between_transition n at b =
    by_test n at [] b (is_blank b) _ _ (λ t. token_ends n n at [] b (λ o. o) (λ x y e. e) (λ o h. h) (at + 1) (λ rest. ap (outcome n) (blank_passed at b rest t))) (λ a1.
    by_test n at [] b (b == 59) _ _ (λ t. token_goes_on n at [] b Comment ([], ap (λ c. c ∷ []) (is 59 t), tt)) (λ a2.
    by_test n at [] b (b == 40) _ _ (λ t. opening t) (λ a3.
    by_test n at [] b (b == 41) _ _ (λ t. closing t) (λ a4.
    by_test n at [] b (b == 48) _ _ (λ t. token_goes_on n at [] b Zero (ap (λ c. c ∷ []) (is 48 t))) (λ a5.
    by_test n at [] b (is_digit b) _ _ (λ t. token_goes_on n at [] b Digits (b, [], refl, grind (arith, nat_tests), (t, tt))) (λ a6.
    by_test n at [] b (b == 34) _ _ (λ t. token_goes_on n at [] b Text ([], ap (λ c. c ∷ []) (is 34 t), empty)) (λ a7.
    by_test n at [] b (b == 124) _ _ (λ t. token_goes_on n at [] b Quoted ([], ap (λ c. c ∷ []) (is 124 t), tt)) (λ a8.
    by_test n at [] b (b == 58) _ _ (λ t. token_goes_on n at [] b Colon (ap (λ c. c ∷ []) (is 58 t))) (λ a9.
    by_test n at [] b (is_symbol_byte b) _ _ (λ t. token_goes_on n at [] b Symbol (b, [], refl, record { no_number = a6; run = (t, tt) })) (λ a10.
    (stops at BadChar, refl, λ rest. ap (outcome n) (wrong_byte at b rest a1 a2 a3 a4 a5 a6 a7 a8 a9 a10) ∙ outcome_wrong n at BadChar [])))))))))))
  where
    is : (c : ℕ) → (b == c) ≡ true → b ≡ c
    is c t = grind (arith, nat_tests)

    opening : (b == 40) ≡ true → Transition n at [] b (Open Blank (n + 1))
    opening t = token_ends n (n + 1) at [] b (prepend (at, opens)) (prepend_injective (at, opens)) (prepend_final (at, opens)) (at + 1) (λ rest. ap (outcome n) (opens_here at b rest (is 40 t)) ∙ outcome_open n at _)

    closing : (b == 41) ≡ true → Transition n at [] b (cond (nat_lt 1 n) (Open Blank (n - 1)) Settled)
    closing t = by_test n at [] b (nat_lt 1 n) _ _
        (λ u. token_ends n (n - 1) at [] b (prepend (at, closes)) (prepend_injective (at, closes)) (prepend_final (at, closes)) (at + 1) (λ rest. ap (outcome n) (closes_here at b rest (is 41 t)) ∙ outcome_close n at _ u))
        (λ u. (outcome n ((at, closes) ∷ []), outcome_close_final n at u, λ rest. ap (outcome n) (closes_here at b rest (is 41 t)) ∙ outcome_close_last n at _ [] u))

module _ (n at : ℕ) (w : List ℕ) (b : ℕ) where
  -- a byte that ends a word
  word_transition : (k : Kind) (name : List ℕ) (size : ℕ) → ((rest : List ℕ) → piece_of (w ++ b ∷ rest) ≡ piece (word k name) size) → size ≡ length w → 0 < length w → Transition n at w b (after_word n b)
  word_transition k name size e whole_is some = by_test n at w b (n == 0) _ _
      (λ t. (whole ((at, word k name) ∷ []), tt, λ rest. ap (outcome n) (here rest) ∙ outcome_word_alone n at k name _ t))
      (λ t. lexeme_before n n at (at + length w) w b (at, word k name) (between_tokens n b) (between_transition n (at + length w) b) (λ rest. ap (outcome n) (here rest) ∙ outcome_word n at k name _ t))
    where
      here : (rest : List ℕ) → lexemes 0 at (w ++ b ∷ rest) ≡ (at, word k name) ∷ lexemes 0 (at + length w) (b ∷ rest)
      here rest = after_piece at w (b ∷ rest) (piece (word k name) size) (e rest) whole_is some

  -- a byte that shows a fault
  fault_transition : (size : ℕ) (f : Fault) → is_of_end f ≡ false → ((rest : List ℕ) → piece_of (w ++ b ∷ rest) ≡ piece (wrong f) size) → Transition n at w b Settled
  fault_transition size f inner e = (stops (at + size) f, inner, λ rest. ap (outcome n) (fault_piece at (w ++ b ∷ rest) size f (e rest) (omega (arith, length-append w (b ∷ rest)))) ∙ outcome_wrong n (at + size) f [])

  -- a byte after a numeral
  numeral_transition : (ds : List ℕ) → w ≡ ds → IsNumeral ds → ((rest : List ℕ) → piece_of (w ++ b ∷ rest) ≡ number ds (b ∷ rest)) → Transition n at w b (after_numeral n b)
  numeral_transition ds is h e = by_test n at w b (b == 46) _ _ (λ t. token_goes_on n at w b Point (ds, ap (λ (xs : List ℕ). xs ++ b ∷ []) is ∙ ap (λ c. ds ++ c ∷ []) (grind (arith, nat_tests)), h))
      (λ t. by_test n at w b (is_symbol_byte b) _ _
      (λ u. fault_transition (length ds) BadChar refl (λ rest. e rest ∙ rw (u, t) refl))
      (λ u. word_transition kinds.Numeral ds (length ds) (λ rest. e rest ∙ number_piece ds (b ∷ rest) u) (ap length (sym is)) (omega (arith, ap length is, numeral_some ds h))))

-- a byte after any pending token
pub transition : (p : Pending) (n at : ℕ) (w : List ℕ) (b : ℕ) → IsPending p w → Transition n at w b (next_scan p n b)
transition Blank n at w b h = subst (λ (v : List ℕ). Transition n at v b (between_tokens n b)) (sym h) (between_transition n at b)
transition Comment n at w b (r, is, run) = by_test n at w b (is_in_comment b) _ _
    (λ t. token_goes_on n at w b Comment (r ++ b ∷ [], ap (λ (xs : List ℕ). xs ++ b ∷ []) is, consists_more is_in_comment r b run t))
    (λ t. token_ends n n at w b (λ o. o) (λ x y e. e) (λ o h. h) (at + length w + 1) (λ rest. ap (outcome n)
    (after_piece at w (b ∷ rest) (piece blank (1 + length r)) (ap (λ (xs : List ℕ). piece_of (xs ++ b ∷ rest)) is ∙ comment_ends r b rest run t) (omega (arith, ap length is)) (omega (arith, ap length is))
    ∙ blank_passed (at + length w) b rest (blank_after_comment b t))))
transition Symbol n at w b (c, r, is, symbolic) = by_test n at w b (is_symbol_byte b) _ _
    (λ t. token_goes_on n at w b Symbol (c, r ++ b ∷ [], ap (λ (xs : List ℕ). xs ++ b ∷ []) is, record { no_number = symbolic.no_number; run = (symbolic.run.0, consists_more is_symbol_byte r b symbolic.run.1 t) }))
    (λ t. word_transition n at w b (cond (among reserved_words (c ∷ r)) Reserved Simple) (c ∷ r) (length (c ∷ r)) (λ rest. ap (λ (xs : List ℕ). piece_of (xs ++ b ∷ rest)) is ∙ symbol_ends c r b rest symbolic t) (ap length (sym is)) (omega (arith, ap length is)))
transition Zero n at w b h = numeral_transition n at w b (48 ∷ []) h only_zero (λ rest. ap (λ (xs : List ℕ). piece_of (xs ++ b ∷ rest)) h ∙ zero_piece b rest)
transition Digits n at w b (d, r, is, some, run) = by_test n at w b (is_digit b) _ _
    (λ t. token_goes_on n at w b Digits (d, r ++ b ∷ [], ap (λ (xs : List ℕ). xs ++ b ∷ []) is, some, (run.0, consists_more is_digit r b run.1 t)))
    (λ t. numeral_transition n at w b (d ∷ r) is (digits d r some run) (λ rest. ap (λ (xs : List ℕ). piece_of (xs ++ b ∷ rest)) is ∙ numeral_piece (d ∷ r) (digits d r some run) (b ∷ rest) t))
transition Point n at w b (ds, is, h) = by_test n at w b (is_digit b) _ _
    (λ t. token_goes_on n at w b Fraction (ds, b, [], ap (λ (xs : List ℕ). xs ++ b ∷ []) is ∙ append_assoc ds (46 ∷ []) (b ∷ []), h, (t, tt)))
    (λ t. fault_transition n at w b (length ds) BadChar refl (λ rest. ap (λ (xs : List ℕ). piece_of (xs ++ b ∷ rest)) is ∙ ap piece_of (append_assoc ds (46 ∷ []) (b ∷ rest)) ∙ point_alone ds b rest h t))
transition Fraction n at w b (ds, f, fs, is, h, run) = by_test n at w b (is_digit b) _ _
    (λ t. token_goes_on n at w b Fraction (ds, f, fs ++ b ∷ [], ap (λ (xs : List ℕ). xs ++ b ∷ []) is ∙ append_assoc ds (46 ∷ f ∷ fs) (b ∷ []), h, (run.0, consists_more is_digit fs b run.1 t)))
    (λ t. by_test n at w b (is_symbol_byte b) _ _
    (λ u. fault_transition n at w b (length ds + 1 + length (f ∷ fs)) BadChar refl (λ rest. here t rest ∙ rw u refl))
    (λ u. word_transition n at w b kinds.Decimal (ds ++ 46 ∷ f ∷ fs) (length ds + 1 + length (f ∷ fs)) (λ rest. here t rest ∙ rw u refl) (omega (arith, ap length is, length-append ds (46 ∷ f ∷ fs))) (omega (arith, ap length is, length-append ds (46 ∷ f ∷ fs)))))
  where
    here : is_digit b ≡ false → (rest : List ℕ) → piece_of (w ++ b ∷ rest) ≡ ended (b ∷ rest) (length ds + 1 + length (f ∷ fs)) (word kinds.Decimal (ds ++ 46 ∷ f ∷ fs))
    here t rest = ap (λ (xs : List ℕ). piece_of (xs ++ b ∷ rest)) is ∙ ap piece_of (append_assoc ds (46 ∷ f ∷ fs) (b ∷ rest)) ∙ decimal_ended ds f fs b rest h run t
transition Text n at w b (r, is, inside) = by_test n at w b (b == 34) _ _
    (λ t. token_goes_on n at w b Quote (r, ap (λ (xs : List ℕ). xs ++ b ∷ []) is ∙ ap (λ c. 34 ∷ r ++ c ∷ []) (grind (arith, nat_tests)), inside))
    (λ t. token_goes_on n at w b Text (r ++ b ∷ [], ap (λ (xs : List ℕ). xs ++ b ∷ []) is, inside_more r b inside (grind (arith, nat_tests))))
transition Quote n at w b (r, is, inside) = by_test n at w b (b == 34) _ _
    (λ t. token_goes_on n at w b Text (r ++ 34 ∷ 34 ∷ [], ap (λ (xs : List ℕ). xs ++ b ∷ []) is ∙ ap (λ (xs : List ℕ). 34 ∷ xs) (append_assoc r (34 ∷ []) (b ∷ [])) ∙ ap (λ c. 34 ∷ r ++ 34 ∷ c ∷ []) (grind (arith, nat_tests)), inside_pair r inside))
    (λ t. word_transition n at w b kinds.Text r (length r + 2) (λ rest. ap (λ (xs : List ℕ). piece_of (xs ++ b ∷ rest)) is ∙ string_piece r (b ∷ rest) inside t) (omega (arith, ap length is, length-append r (34 ∷ []))) (omega (arith, ap length is)))
transition Quoted n at w b (r, is, run) = by_test n at w b (is_in_bars b) _ _
    (λ t. token_goes_on n at w b Quoted (r ++ b ∷ [], ap (λ (xs : List ℕ). xs ++ b ∷ []) is, consists_more is_in_bars r b run t))
    (λ t. by_test n at w b (b == 124) _ _
    (λ u. by_test n at w b (n == 0) _ _
    (λ v. (whole ((at, word kinds.Quoted r) ∷ []), tt, λ rest. ap (outcome n) (here u rest) ∙ outcome_word_alone n at kinds.Quoted r _ v))
    (λ v. token_ends n n at w b (prepend (at, word kinds.Quoted r)) (prepend_injective (at, word kinds.Quoted r)) (prepend_final (at, word kinds.Quoted r)) (at + length (w ++ b ∷ [])) (λ rest. ap (outcome n) (here u rest) ∙ outcome_word n at kinds.Quoted r _ v)))
    (λ u. fault_transition n at w b (length r + 1) BadChar refl (λ rest. ap (λ (xs : List ℕ). piece_of (xs ++ b ∷ rest)) is ∙ quoted_wrong r b rest run t u)))
  where
    here : (b == 124) ≡ true → (rest : List ℕ) → lexemes 0 at (w ++ b ∷ rest) ≡ (at, word kinds.Quoted r) ∷ lexemes 0 (at + length (w ++ b ∷ [])) rest
    here u rest =
        let bar : b ≡ 124 = grind (arith, nat_tests) in
        let whole_is : w ++ b ∷ [] ≡ 124 ∷ r ++ 124 ∷ [] = ap (λ (xs : List ℕ). xs ++ b ∷ []) is ∙ ap (λ c. 124 ∷ r ++ c ∷ []) bar in
        ap (lexemes 0 at) (sym (append_assoc w (b ∷ []) rest))
        ∙ after_piece at (w ++ b ∷ []) rest (piece (word kinds.Quoted r) (length r + 2)) (ap (λ (xs : List ℕ). piece_of (xs ++ rest)) whole_is ∙ quoted_piece r rest run) (omega (arith, ap length whole_is, length-append r (124 ∷ []))) (omega (arith, ap length whole_is))
transition Colon n at w b h = by_test n at w b (is_symbol_byte b) _ _
    (λ t. token_goes_on n at w b Keyword (b, [], ap (λ (xs : List ℕ). xs ++ b ∷ []) h, (t, tt)))
    (λ t. fault_transition n at w b 0 BadChar refl (λ rest. ap (λ (xs : List ℕ). piece_of (xs ++ b ∷ rest)) h ∙ colon_alone b rest t))
transition Keyword n at w b (c, r, is, run) = by_test n at w b (is_symbol_byte b) _ _
    (λ t. token_goes_on n at w b Keyword (c, r ++ b ∷ [], ap (λ (xs : List ℕ). xs ++ b ∷ []) is, (run.0, consists_more is_symbol_byte r b run.1 t)))
    (λ t. word_transition n at w b kinds.Keyword (c ∷ r) (length (c ∷ r) + 1) (λ rest. ap (λ (xs : List ℕ). piece_of (xs ++ b ∷ rest)) is ∙ keyword_ends c r b rest run t) (omega (arith, ap length is)) (omega (arith, ap length is)))
