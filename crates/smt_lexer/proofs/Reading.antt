-- One lexeme more of a text.
use Rattle.std.proofs.Common.{◌≡◌, ℕ, ◌+◌, ◌-◌, ◌<◌, ◌≤◌, List, [], ◌∷◌, length, get_or, drop, sym, ap, ◌∙◌, refl, arith, Bor}
use Rattle.std.proofs.lemmas.List.{drop_more, drop_all, drop-drop}
use Rattle.spec_text.specs.declared.Kind.{Kind}
use Rattle.spec_text.specs.declared.Fault.{Fault}
use Rattle.spec_text.specs.declared.Place.{Place}
use Rattle.smt_lexer.specs.declared.pieces.What.{What}
use Rattle.smt_lexer.specs.declared.pieces.What.TheVariants as whats
use Rattle.smt_lexer.specs.declared.TokenKind.{TokenKind}
use Rattle.smt_lexer.specs.declared.TokenKind.TheVariants as kinds
use Rattle.smt_lexer.specs.Pieces.{lexeme_of, IsPieceWithin}
use Rattle.smt_lexer.specs.Tokens.{IsFirstLexeme, IsToken, piece_from}
use Rattle.spec_text.specs.Lexemes.{Lexeme, blank, opens, closes, word, wrong, Piece, piece, first_piece, before, lexemes, lexemes_from}
use Rattle.spec_text.proofs.Printing.{lexemes_skip}

pub nothing_left : (text : List ℕ) (at : ℕ) → length text ≤ at → lexemes_from text at ≡ []
unfolding lexemes
nothing_left text at past = rw (drop_all at text past) refl

module _ (text : List ℕ) (at : ℕ) (lt : at < length text) where
  lexeme_here : (p : Piece) → p ≡ first_piece (get_or text at 0) (drop (at + 1) text) → lexemes_from text at ≡ before at p (lexemes_from text (at + 1 + (p.size - 1)))
  unfolding lexemes
  lexeme_here p e =
      let rest = drop (at + 1) text in
      let tail : lexemes (p.size - 1) (at + 1) rest ≡ lexemes_from text (at + 1 + (p.size - 1)) = lexemes_skip (p.size - 1) (at + 1) rest ∙ ap (lexemes 0 (at + 1 + (p.size - 1))) (drop-drop (p.size - 1) (at + 1) text) in
      ap (lexemes 0 at) (drop_more text at 0 lt) ∙ ap (λ (q : Piece). before at q (lexemes (q.size - 1) (at + 1) rest)) (sym e) ∙ ap (before at p) tail

  one_less : (n : ℕ) → 0 < n → at + 1 + (n - 1) ≡ at + n
  one_less n some = omega arith

  -- what is there, as the code has it
  module _ (w : What) (n : ℕ) (within : IsPieceWithin w n (length text - at)) (e : piece (lexeme_of w) n ≡ first_piece (get_or text at 0) (drop (at + 1) text)) where
    pub blank_here : w ≡ whats.Blank → lexemes_from text at ≡ lexemes_from text (at + n)
    blank_here is =
        let some = rw is at within in
        lexeme_here (piece blank n) (rw is at e) ∙ ap (lexemes_from text) (one_less n some.0)

    pub fault_here : (f : Fault) → w ≡ whats.Wrong f → lexemes_from text at ≡ (at + n, wrong f) ∷ []
    fault_here f is = lexeme_here (piece (wrong f) n) (rw is at e)

    -- the token that it is, from an offset before it on
    module _ (from : ℕ) (place after : Place) (behind : from ≤ place.offset) (passed : lexemes_from text from ≡ lexemes_from text at) (here : place.offset ≡ at) (size : after.offset ≡ at + n) where
      first_token : (x : Lexeme) → 0 < n → piece x n ≡ piece_from text at → lexemes_from text at ≡ (at, x) ∷ lexemes_from text (at + n) → IsFirstLexeme text from place after x
      first_token x some p f = record {
        first = passed ∙ f ∙ rw (here, size) refl;
        behind = behind;
        longer = omega arith;
        own = rw here (sym (ap (λ (q : Piece). q.lexeme) p));
        ends = size ∙ ap (λ (q : Piece). at + q.size) p ∙ rw here refl;
      }

      pub open_here : w ≡ whats.Open → (k : TokenKind) → k ≡ kinds.Open → IsToken text from place after k
      open_here is k kind =
          let some = rw is at within in
          let p : piece opens n ≡ piece_from text at = rw is at e in
          rw kind (first_token opens some.0 p (lexeme_here (piece opens n) p ∙ ap (λ m. (at, opens) ∷ lexemes_from text m) (one_less n some.0)))

      pub close_here : w ≡ whats.Close → (k : TokenKind) → k ≡ kinds.Close → IsToken text from place after k
      close_here is k kind =
          let some = rw is at within in
          let p : piece closes n ≡ piece_from text at = rw is at e in
          rw kind (first_token closes some.0 p (lexeme_here (piece closes n) p ∙ ap (λ m. (at, closes) ∷ lexemes_from text m) (one_less n some.0)))

      pub word_here : (kind : Kind) (bytes : Bor (List ℕ)) → w ≡ whats.Word kind bytes → (k : TokenKind) → k ≡ kinds.Word kind bytes → IsToken text from place after k
      word_here kind bytes is k kind_is =
          let some = rw is at within in
          let p : piece (word kind bytes.now) n ≡ piece_from text at = rw is at e in
          rw kind_is (first_token (word kind bytes.now) some.0 p (lexeme_here (piece (word kind bytes.now) n) p ∙ ap (λ m. (at, word kind bytes.now) ∷ lexemes_from text m) (one_less n some.0)))
