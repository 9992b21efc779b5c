-- Whether there is room, before what was read and after it.
use Rattle.std.proofs.Common.{◌≡◌, ℕ, true, false, ◌&&◌, List, [], ◌∷◌, length, Some, ap, ◌∙◌}
use Rattle.std.specs.Prelude.{nat_le, Ok}
use Rattle.spec_text.specs.declared.Fault.TheVariants.{Full}
use Rattle.spec_text.specs.Answers.{Answer, ◌>>=◌, require, refused}
use Rattle.spec_text.specs.Trees.{Tree, Trees}
use Rattle.spec_sorts.specs.Terms.{Sort, Term}
use Rattle.spec_sorts.specs.Signatures.{Signature, with_definitions}
use Rattle.spec_sorts.specs.Subterms.{subterms_of}
use Rattle.spec_reading.specs.Names.{Setting}
use Rattle.spec_reading.specs.Reading.{Reading, Readings, reading_of_sort}
use Rattle.term_reader.specs.declared.faults.ReadError.{ReadError}
use Rattle.term_reader.specs.declared.faults.ReadError.TheVariants.{Fault, Memory}
use Rattle.sort_check.specs.Reads.{Room, within, all_of_sort, roomy_reading, roomy_readings, HasFault}

module _ (at limit : ℕ) (s : Signature) (ts : List Term) where
  -- where there is a limit
  abbrev pub limited : Room
  limited = record { limit = Some limit; at = at }

  pub no_room_for_names : nat_le (length s) limit ≡ false → within limited s ts ≡ refused at Full
  unfolding require
  no_room_for_names e = ap (λ b. require (b && nat_le (length (subterms_of ts)) limit) at Full) e

  pub no_room_for_terms : nat_le (length s) limit ≡ true → nat_le (length (subterms_of ts)) limit ≡ false → within limited s ts ≡ refused at Full
  unfolding require
  no_room_for_terms e f = λ i. require (e i && f i) at Full

  pub room_for_both : nat_le (length s) limit ≡ true → nat_le (length (subterms_of ts)) limit ≡ true → within limited s ts ≡ Ok tt
  unfolding require
  room_for_both e f = λ i. require (e i && f i) at Full

-- a fault of the first of two steps
pub fault_first : {A B : Type 0} (a : Answer A) (f : A → Answer B) (stop : ReadError) → HasFault a stop → HasFault (a >>= f) stop
unfolding ◌>>=◌
fault_first a f (Fault x) h = ap (λ b. b >>= f) h
fault_first a f Memory h = tt

-- a fault of the second
pub fault_second : {A B : Type 0} (a : Answer A) (f : A → Answer B) (x : A) (stop : ReadError) → a ≡ Ok x → HasFault (f x) stop → HasFault (a >>= f) stop
unfolding ◌>>=◌
fault_second a f x (Fault e) is h = ap (λ b. b >>= f) is ∙ h
fault_second a f x Memory is h = tt

module _ (room : Room) (w : Setting) (s : Signature) where
  -- room after a text
  abbrev pub after_reading : Reading → Answer Reading
  after_reading r = within room (with_definitions s r.made) (r.term ∷ []) >>= λ fits. Ok r

  pub reading_fault : (sort : Sort) (t : Tree) (stop : ReadError) → HasFault (reading_of_sort w s [] sort t) stop → HasFault (roomy_reading room w s sort t) stop
  unfolding roomy_reading
  reading_fault sort t stop h = fault_first (reading_of_sort w s [] sort t) after_reading stop h

  pub reading_room_fault : (sort : Sort) (t : Tree) (r : Reading) (stop : ReadError) → reading_of_sort w s [] sort t ≡ Ok r → HasFault (within room (with_definitions s r.made) (r.term ∷ [])) stop → HasFault (roomy_reading room w s sort t) stop
  unfolding roomy_reading
  reading_room_fault sort t r stop e h = fault_second (reading_of_sort w s [] sort t) after_reading r stop e (fault_first (within room (with_definitions s r.made) (r.term ∷ [])) (λ fits. Ok r) stop h)

  pub reading_room : (sort : Sort) (t : Tree) (r : Reading) → reading_of_sort w s [] sort t ≡ Ok r → within room (with_definitions s r.made) (r.term ∷ []) ≡ Ok tt → roomy_reading room w s sort t ≡ Ok r
  unfolding roomy_reading ◌>>=◌
  reading_room sort t r e h = ap (λ a. a >>= after_reading) e ∙ ap (λ a. a >>= λ fits. Ok r) h

  -- room after texts
  abbrev pub after_readings : Readings → Answer Readings
  after_readings r = within room (with_definitions s r.made) r.terms >>= λ fits. Ok r

  pub readings_fault : (sort : Sort) (ts : Trees) (stop : ReadError) → HasFault (all_of_sort w s sort ts) stop → HasFault (roomy_readings room w s sort ts) stop
  unfolding roomy_readings
  readings_fault sort ts stop h = fault_first (all_of_sort w s sort ts) after_readings stop h

  pub readings_room_fault : (sort : Sort) (ts : Trees) (r : Readings) (stop : ReadError) → all_of_sort w s sort ts ≡ Ok r → HasFault (within room (with_definitions s r.made) r.terms) stop → HasFault (roomy_readings room w s sort ts) stop
  unfolding roomy_readings
  readings_room_fault sort ts r stop e h = fault_second (all_of_sort w s sort ts) after_readings r stop e (fault_first (within room (with_definitions s r.made) r.terms) (λ fits. Ok r) stop h)

  pub readings_room : (sort : Sort) (ts : Trees) (r : Readings) → all_of_sort w s sort ts ≡ Ok r → within room (with_definitions s r.made) r.terms ≡ Ok tt → roomy_readings room w s sort ts ≡ Ok r
  unfolding roomy_readings ◌>>=◌
  readings_room sort ts r e h = ap (λ a. a >>= after_readings) e ∙ ap (λ a. a >>= λ fits. Ok r) h
