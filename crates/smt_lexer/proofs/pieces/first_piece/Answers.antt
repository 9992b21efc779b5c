-- Each arm is the piece of its first byte.
use Rattle.std.proofs.Common.{◌∙◌, ◌+◌, ℕ, sym, ap}
use Rattle.std.proofs.lemmas.List.{take_rest}
use Rattle.spec_text.specs.Lexemes.{Piece, piece, blank}
use Rattle.smt_lexer.specs.declared.pieces.What.{What}
use Rattle.smt_lexer.specs.Pieces.{lexeme_of}
use Rattle.smt_lexer.proofs.Prefixes.{piece_at_head, first_byte, first_run}
use Rattle.spec_text.specs.Bytes.{is_digit, is_symbol_byte}
use Rattle.smt_lexer.proofs.pieces.first_piece.Goals as goal
use Rattle.smt_lexer.proofs.pieces.first_piece.Goals.{in-Blank, in-Semicolon, in-Open, in-Close}

pub returns-in-Zero-clause-piece : goal.returns-in-Zero-clause-piece
returns-in-Zero-clause-piece c = c.number.ensures.piece ∙ rw (first_byte c.args.bytes.now c.requires) (sym (piece_at_head _ _ _ _ c.head_of.ensures c.in-Zero.is))

pub returns-in-Digit-clause-piece : goal.returns-in-Digit-clause-piece
returns-in-Digit-clause-piece c =
    let run = first_run is_digit c.args.bytes.now c.front_len-in-Digit.result c.requires (rw take_rest at c.front_len-in-Digit.ensures.length) in
    c.number-in-Digit.ensures.piece ∙ rw (run.0, run.1) (sym (piece_at_head _ _ _ _ c.head_of.ensures c.in-Digit.is))

pub returns-in-Quote-clause-piece : goal.returns-in-Quote-clause-piece
returns-in-Quote-clause-piece c = (rw take_rest at c.string.ensures.piece) ∙ sym (piece_at_head _ _ _ _ c.head_of.ensures c.in-Quote.is)

pub returns-in-Bar-clause-piece : goal.returns-in-Bar-clause-piece
returns-in-Bar-clause-piece c = (rw take_rest at c.quoted.ensures.piece) ∙ sym (piece_at_head _ _ _ _ c.head_of.ensures c.in-Bar.is)

pub returns-in-Colon-clause-piece : goal.returns-in-Colon-clause-piece
returns-in-Colon-clause-piece c = (rw take_rest at c.keyword.ensures.piece) ∙ sym (piece_at_head _ _ _ _ c.head_of.ensures c.in-Colon.is)

pub returns-in-Symbol-clause-piece : goal.returns-in-Symbol-clause-piece
returns-in-Symbol-clause-piece c =
    let run = first_run is_symbol_byte c.args.bytes.now c.front_len-in-Symbol.result c.requires (rw take_rest at c.front_len-in-Symbol.ensures.length) in
    c.symbol.ensures.piece ∙ rw run.0 (sym (piece_at_head _ _ _ _ c.head_of.ensures c.in-Symbol.is))

pub returns-in-Other-clause-piece : goal.returns-in-Other-clause-piece
returns-in-Other-clause-piece c = c.fault_at.ensures.piece ∙ sym (piece_at_head _ _ _ _ c.head_of.ensures c.in-Other.is)

pub returns-clause-piece : goal.returns-clause-piece
returns-clause-piece c = elim c.match-head_of.branch [
  | in-Blank w ↦ ap found w.size-is ∙ sym (piece_at_head _ _ _ _ c.head_of.ensures w.in-Blank.is)
  | in-Semicolon w ↦ ap found w.size-is ∙ ap (λ n. piece blank (1 + n)) (rw take_rest at w.front_len.ensures.length) ∙ sym (piece_at_head _ _ _ _ c.head_of.ensures w.in-Semicolon.is)
  | in-Open w ↦ ap found w.size-is ∙ sym (piece_at_head _ _ _ _ c.head_of.ensures w.in-Open.is)
  | in-Close w ↦ ap found w.size-is ∙ sym (piece_at_head _ _ _ _ c.head_of.ensures w.in-Close.is)
]
  where
    found : (What × ℕ) → Piece
    found s = piece (lexeme_of s.0) s.1
