-- Values of terms beside their texts, one after the other.
use Rattle.std.proofs.Common.{◌≡◌, ℕ, ◌+◌, ◌<◌, ◌≤◌, List, [], ◌∷◌, ◌++◌, length, drop, get_or, refl, sym, ap, ◌∙◌, arith, append_assoc, append-nil}
use Rattle.std.specs.Prelude.{Result, Ok, Err}
use Rattle.std.proofs.lemmas.List.{map-append, drop_more, drop_all, get_or-map, length-map}
use Rattle.std.proofs.lemmas.List.Elements.{All-push, All-nil}
use Rattle.spec_text.specs.declared.Fault.TheVariants.{ValueWide}
use Rattle.spec_text.specs.Bytes.{Name}
use Rattle.spec_text.specs.Answers.{Answer, ◌>>=◌, refused}
use Rattle.spec_text.specs.Trees.{Tree, Trees, none, more, offset_of}
use Rattle.spec_text.specs.Printed.{printed}
use Rattle.spec_numbers.specs.Bounds.{Overflow}
use Rattle.spec_sorts.specs.Terms.{Term}
use Rattle.spec_sorts.specs.Values.{Value, Interpretation}
use Rattle.spec_sorts.specs.BoundedValues.{bounded_value}
use Rattle.spec_models.specs.Values.{value_text, value_tree, in_list}
use Rattle.spec_sessions.specs.Replies.{value_there, valued}
use Rattle.term_core.specs.declared.ids.TermId.{TermId}
use Rattle.term_core.specs.Tables.{TableView, term_at, clause_at}
use Rattle.term_walks.specs.Valuations.{value_meant}
use Rattle.term_reader.specs.declared.faults.ReadError.{ReadError}
use Rattle.term_reader.specs.declared.faults.ReadError.TheVariants as errors
use Rattle.assertion_stack.specs.Views.{Fails}
use Rattle.smt_reply.specs.declared.values.TermValue.{TermValue}
use Rattle.smt_reply.specs.Pairs.{pair_text, IsPairNamed, ArePairs, IsPair}

-- a value that leaves the bound is a fault
pub value_wide : (at : ℕ) (a : Result Value Overflow) (o : Overflow) → a ≡ Err o → value_there at a ≡ refused at ValueWide
value_wide at a o e = ap (value_there at) e

-- the pair of a text and a value
abbrev pub pair_of : List Name → Tree → TermValue → Tree
pair_of sorts t v = in_list (t ∷ value_tree (value_meant sorts v.value) ∷ [])

pair_printed : (sorts : List Name) (t : Tree) (a : Answer Value) (v : TermValue) → IsPair sorts t a v → pair_text sorts v ≡ printed (pair_of sorts t v)
pair_printed sorts t a v h = ap (λ text. 40 ∷ (text ++ 32 ∷ value_text (value_meant sorts v.value)) ++ 41 ∷ []) h.text

-- pairs before those that are found
abbrev pub with_front : List Tree → Answer (List Tree) → Answer (List Tree)
with_front xs (Ok ys) = Ok (xs ++ ys)
with_front xs (Err e) = Err e

with_nothing : (r : Answer (List Tree)) → with_front [] r ≡ r
with_nothing (Ok ys) = refl
with_nothing (Err e) = refl

with_more : (xs : List Tree) (x : Tree) (r : Answer (List Tree)) → with_front xs (r >>= λ ys. Ok (x ∷ ys)) ≡ with_front (xs ++ x ∷ []) r
unfolding ◌>>=◌
with_more xs x (Ok ys) = ap (λ zs. Ok zs) (sym (append_assoc xs (x ∷ []) ys))
with_more xs x (Err e) = refl

module _ (i : Interpretation) where
  none_left : (us : List Term) → valued i none us ≡ Ok []
  unfolding valued
  none_left us = refl

  no_term_left : (ts : Trees) → valued i ts [] ≡ Ok []
  unfolding valued
  no_term_left none = refl
  no_term_left (more t ts) = refl

  one_left : (t : Tree) (ts : Trees) (u : Term) (us : List Term) → valued i (more t ts) (u ∷ us)
      ≡ (value_there (offset_of t) (bounded_value i [] u) >>= λ v. valued i ts us >>= λ rest. Ok (in_list (t ∷ value_tree v ∷ []) ∷ rest))
  unfolding valued
  one_left t ts u us = refl

-- The pairs are those of the first texts of all, before these that are left.
pub record AreFirst (i : Interpretation) (sorts : List Name) (all : Trees) (terms : List Term) (rest : Trees) (left : List Term) (vs : List TermValue) : Type 0 where
  pub before : List Tree
  pub pairs : ArePairs sorts vs before
  pub gives : with_front before (valued i rest left) ≡ valued i all terms

pub first_none : (i : Interpretation) (sorts : List Name) (all : Trees) (terms : List Term) → AreFirst i sorts all terms all terms []
first_none i sorts all terms = record { before = []; pairs = record { texts = refl; named = All-nil (IsPairNamed sorts) }; gives = with_nothing (valued i all terms) }

module _ (i : Interpretation) (sorts : List Name) (all : Trees) (terms : List Term) (rest : Trees) (left : List Term) (vs : List TermValue) (h : AreFirst i sorts all terms rest left vs) where
  ended : valued i rest left ≡ Ok [] → (pairs : List Tree) × (valued i all terms ≡ Ok pairs) × ArePairs sorts vs pairs
  ended e = (h.before, sym h.gives ∙ ap (with_front h.before) e ∙ ap (λ ys. Ok ys) (append-nil h.before), h.pairs)

  -- no text, or no term is left
  pub texts_end : rest ≡ none → (pairs : List Tree) × (valued i all terms ≡ Ok pairs) × ArePairs sorts vs pairs
  texts_end e = ended (ap (λ ts. valued i ts left) e ∙ none_left i left)

  pub terms_end : left ≡ [] → (pairs : List Tree) × (valued i all terms ≡ Ok pairs) × ArePairs sorts vs pairs
  terms_end e = ended (ap (valued i rest) e ∙ no_term_left i rest)

  module _ (tree : Tree) (after : Trees) (is : rest ≡ more tree after) (u : Term) (us : List Term) (next_is : left ≡ u ∷ us) where
    abbrev then : Value → Answer (List Tree)
    then v = valued i after us >>= λ others. Ok (in_list (tree ∷ value_tree v ∷ []) ∷ others)

    next : valued i all terms ≡ with_front h.before (value_there (offset_of tree) (bounded_value i [] u) >>= then)
    next = sym h.gives ∙ (λ k. with_front h.before (valued i (is k) (next_is k))) ∙ ap (with_front h.before) (one_left i tree after u us)

    pub next_fails : (stop : ReadError) → Fails stop (value_there (offset_of tree) (bounded_value i [] u)) → Fails stop (valued i all terms)
    unfolding ◌>>=◌
    next_fails (errors.Fault f) e = next ∙ ap (λ a. with_front h.before (a >>= then)) e
    next_fails errors.Memory e = tt

    pub next_valued : (v : TermValue) → IsPair sorts tree (value_there (offset_of tree) (bounded_value i [] u)) v → AreFirst i sorts all terms after us (vs ++ v ∷ [])
    unfolding ◌>>=◌
    next_valued v p =
        let this = pair_of sorts tree v in record {
          before = h.before ++ this ∷ [];
          pairs = record {
            texts = map-append (pair_text sorts) vs (v ∷ []) ∙ (λ k. h.pairs.texts k ++ pair_printed sorts tree _ v p k ∷ []) ∙ sym (map-append printed h.before (this ∷ []));
            named = All-push (IsPairNamed sorts) vs v h.pairs.named p.named;
          };
          gives = sym (with_more h.before this (valued i after us)) ∙ ap (λ a. with_front h.before (a >>= then)) (sym p.value) ∙ sym next;
        }

-- terms by their numbers, from one on
module _ (t : TableView) (ids : List TermId) (k : ℕ) where
  pub terms_left : (d x : TermId) → k < length ids → x ≡ get_or ids k d → drop k (clause_at t ids) ≡ term_at t x ∷ drop (k + 1) (clause_at t ids)
  terms_left d x l e =
      drop_more (clause_at t ids) k (term_at t d) (omega (arith, l, length-map ids (term_at t)))
      ∙ ap (λ u. u ∷ drop (k + 1) (clause_at t ids)) (get_or-map (term_at t) ids k d (term_at t d) l)
      ∙ ap (λ y. term_at t y ∷ drop (k + 1) (clause_at t ids)) (sym e)

  pub no_terms_left : length ids ≤ k → drop k (clause_at t ids) ≡ []
  no_terms_left l = drop_all k (clause_at t ids) (omega (arith, l, length-map ids (term_at t)))
