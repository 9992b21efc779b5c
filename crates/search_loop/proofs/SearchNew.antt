-- That a clause is new where propagation was quiet.
use Rattle.std.proofs.Common.{◌≡◌, ◌≢◌, List, map, Contains, inl, inr, sym, ap, ◌∙◌, subst}
use Rattle.spec_text.proofs.Members.{to_image, from_image}
use Rattle.spec_sorts.specs.Literals.{Literal, complement}
use Rattle.spec_proofs.specs.Resolution.{Derives, given, unit, Conflicts, false_clause, both_ways}
use Rattle.spec_derivations.specs.Learned.{IsNew}
use Rattle.spec_derivations.specs.Quiet.{ImpliesNothing, IsQuiet, IsConsistent}
use Rattle.spec_derivations.proofs.Learned.{quiet_is_new}
use Rattle.term_core.specs.declared.ids.Lit.{Lit}
use Rattle.term_core.specs.Tables.{TableView, IsIn, AreDifferent, literal_at}
use Rattle.clause_literals.specs.Literals.{lit_complement}
use Rattle.clause_literals.specs.Statuses.{PropagatesNothing as LitInert}
use Rattle.clause_literals.proofs.TableLiterals.{literals_apart}
use Rattle.clause_store.specs.Propagating.{IsPropagated as LitQuiet}

-- what follows from some clauses follows from more
module _ {L : Type 0} (negation : L → L) (ps qs : List (List L)) (within : (c : List L) → Contains ps c → Contains qs c) (start : List L) where
  pub derives_more : (l : L) → Derives negation ps start l → Derives negation qs start l
  derives_more _ (given l i) = given l i
  derives_more _ (unit c l c_in l_in others) = unit c l (within c c_in) l_in (λ m i d. derives_more (negation m) (others m i d))

  pub conflicts_more : Conflicts negation ps start → Conflicts negation qs start
  conflicts_more (both_ways l d e) = both_ways l (derives_more l d) (derives_more (negation l) e)
  conflicts_more (false_clause c c_in all) = false_clause c (within c c_in) (λ m i. derives_more (negation m) (all m i))

module _ (t : TableView) (differ : AreDifferent t.terms) (front : List Lit) (there : (l : Lit) → Contains front l → IsIn t l.term) where
  -- the images of what holds
  abbrev pub images : List Literal
  images = map (literal_at t) front

  -- a literal's image holds only where it does
  pub image_back : (l : Lit) → IsIn t l.term → Contains images (literal_at t l) → Contains front l
  image_back l l_in i =
      let h = from_image (literal_at t) front (literal_at t l) i in
      subst (λ (x : Lit). Contains front x) (literals_apart t differ h.0 l (there h.0 h.1) l_in h.2) h.1

  -- a clause from which nothing follows has an image of this kind
  inert_image : (d : List Lit) → ((l : Lit) → Contains d l → IsIn t l.term) → LitInert front d → ImpliesNothing complement images (map (literal_at t) d)
  inert_image d d_in (inl s) = inl (literal_at t s.literal, to_image (literal_at t) d s.literal s.there, to_image (literal_at t) front s.literal s.holds)
  inert_image d d_in (inr s) = inr (
    literal_at t s.one,
    literal_at t s.other,
    to_image (literal_at t) d s.one s.has_one,
    to_image (literal_at t) d s.other s.has_other,
    λ e. s.differ (literals_apart t differ s.one s.other (d_in s.one s.has_one) (d_in s.other s.has_other) e),
    λ i. s.one_open (image_back (lit_complement s.one) (d_in s.one s.has_one) i),
    λ i. s.other_open (image_back (lit_complement s.other) (d_in s.other s.has_other) i),
  )

  -- quiet clauses' images are quiet
  pub quiet_images : (clauses : List (List Lit)) → ((d : List Lit) (l : Lit) → Contains clauses d → Contains d l → IsIn t l.term) → LitQuiet clauses front
      → (premises : List (List Literal)) → ((c : List Literal) → Contains premises c → (d : List Lit) × Contains clauses d × (map (literal_at t) d ≡ c)) → IsQuiet complement premises images
  quiet_images clauses clauses_in quiet premises from c i =
      let h = from c i in
      subst (λ x. ImpliesNothing complement images x) h.2 (inert_image h.0 (λ l j. clauses_in h.0 l h.1 j) (quiet h.0 h.1))

  -- consistent literals' images are consistent
  pub consistent_images : ((l : Lit) → Contains front l → Contains front (lit_complement l) → ⊥) → IsConsistent complement images
  consistent_images ok l i j =
      let h = from_image (literal_at t) front l i in
      ok h.0 h.1 (image_back (lit_complement h.0) (there h.0 h.1) (subst (λ (x : Literal). Contains images (complement x)) (sym h.2) j))

-- where clauses are quiet under literals, a clause is new whose literals but one are false under them
pub new_at : (t : TableView) → AreDifferent t.terms → (clauses : List (List Lit)) → ((d : List Lit) (l : Lit) → Contains clauses d → Contains d l → IsIn t l.term)
    → (base : List (List Literal)) → ((c : List Literal) → Contains base c → (d : List Lit) × Contains clauses d × (map (literal_at t) d ≡ c))
    → (front : List Lit) → ((l : Lit) → Contains front l → IsIn t l.term) → ((l : Lit) → Contains front l → Contains front (lit_complement l) → ⊥) → LitQuiet clauses front
    → (clause : List Lit) (one : Lit) → IsIn t one.term → Contains clause one → (Contains front one → ⊥) → ((m : Lit) → Contains clause m → m ≢ one → Contains front (lit_complement m)) → IsNew base (map (literal_at t) clause)
new_at t differ clauses clauses_in base from front there consistent quiet clause one one_in has_one not_held others = (
  literal_at t one,
  quiet_is_new base (map (literal_at t) front) (map (literal_at t) clause) (literal_at t one)
      (quiet_images t differ front there clauses clauses_in quiet base from)
      (consistent_images t differ front there consistent)
      (to_image (literal_at t) clause one has_one)
      (λ i. not_held (image_back t differ front there one one_in i))
      (λ n i ne.
      let h = from_image (literal_at t) clause n i in
      let other = others h.0 h.1 (λ same. ne (sym h.2 ∙ ap (literal_at t) same)) in
      subst (λ (x : Literal). Contains (map (literal_at t) front) (complement x)) h.2 (to_image (literal_at t) front (lit_complement h.0) other)),
)
