-- Pieces that are written one after the other, by calls that may fail.
use Rattle.std.proofs.Common.{◌≡◌, ℕ, List, [], ◌∷◌, ◌++◌, refl, sym, ap, ◌∙◌, subst, append_assoc, append-nil}
use Rattle.std.specs.Prelude.{Result, Ok, Err, IsErr, flat_map}
use Rattle.world_io.specs.declared.fault.Failed.{Failed}
use Rattle.world_io.specs.Writing.{SinkView, Sent, NotSent, Sends}
use Rattle.world_io.proofs.Sending.{nothing_sent, sent_both, second_fails, first_fails, sends_failed}

-- pieces as one text
abbrev pub joined : List (List ℕ) → List ℕ
joined = flat_map (λ piece. piece)

-- of a whole text some was sent, and these pieces are to come
pub record IsSending (whole : List ℕ) (rest : List (List ℕ)) (old now : SinkView) : Type 0 where
  pub done : List ℕ
  pub whole_is : done ++ joined rest ≡ whole
  pub sent : Sent done old now

-- before the first piece
pub start : (whole : List ℕ) (pieces : List (List ℕ)) (a : SinkView) → joined pieces ≡ whole → IsSending whole pieces a a
start whole pieces a e = record { done = []; whole_is = e; sent = nothing_sent a }

-- one piece more was sent
pub next : {whole : List ℕ} {piece : List ℕ} {rest : List (List ℕ)} {a b c : SinkView} → IsSending whole (piece ∷ rest) a b → Sent piece b c → IsSending whole rest a c
next {whole} {piece} {rest} {a} {b} {c} s k = record {
  done = s.done ++ piece;
  whole_is = append_assoc s.done piece (joined rest) ∙ s.whole_is;
  sent = sent_both s.done piece a b c s.sent k;
}

-- the next piece failed
pub fails : {whole : List ℕ} {piece : List ℕ} {rest : List (List ℕ)} {a b c : SinkView} (r : Result (Unit {0}) Failed) → IsSending whole (piece ∷ rest) a b → NotSent piece b c → IsErr r → Sends whole r a c
fails {whole} {piece} {rest} {a} {b} {c} r s k err =
    let failed = second_fails s.done (piece ++ joined rest) a b c s.sent (first_fails piece (joined rest) b c k) in
    sends_failed whole r a c err (subst (λ text. NotSent text a c) s.whole_is failed)

-- no piece is left
pub finished : {whole : List ℕ} {a b : SinkView} → IsSending whole [] a b → Sent whole a b
finished {whole} {a} {b} s = subst (λ text. Sent text a b) (sym (append-nil s.done) ∙ s.whole_is) s.sent

-- the last piece: what its call answers is answered
pub last : {whole : List ℕ} {piece : List ℕ} {a b : SinkView} (c : SinkView) (r : Result (Unit {0}) Failed) → IsSending whole (piece ∷ []) a b → Sends piece r b c → Sends whole r a c
last c (Ok u) s k = finished (next s k)
last c (Err e) s k = fails (Err e) s k refl

-- the next piece in two, of which the second is to come too
pub split : {whole : List ℕ} {rest : List (List ℕ)} {a b : SinkView} (text piece later : List ℕ) → text ≡ piece ++ later → IsSending whole (text ∷ rest) a b → IsSending whole (piece ∷ later ∷ rest) a b
split {whole} {rest} {a} {b} text piece later e s = record {
  done = s.done;
  whole_is = ap (λ x. s.done ++ x) (sym (append_assoc piece later (joined rest)) ∙ ap (λ x. x ++ joined rest) (sym e)) ∙ s.whole_is;
  sent = s.sent;
}

-- the next piece is empty
pub skip : {whole : List ℕ} {rest : List (List ℕ)} {a b : SinkView} (text : List ℕ) → text ≡ [] → IsSending whole (text ∷ rest) a b → IsSending whole rest a b
skip {whole} {rest} {a} {b} text e s = record {
  done = s.done;
  whole_is = ap (λ x. s.done ++ (x ++ joined rest)) (sym e) ∙ s.whole_is;
  sent = s.sent;
}

-- all of a text is to come
pub start_whole : (whole : List ℕ) (a : SinkView) → IsSending whole (whole ∷ []) a a
start_whole whole a = start whole (whole ∷ []) a (append-nil whole)
