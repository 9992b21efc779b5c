-- The term that a text is read as, or its first fault: its shape, then a reserved word as its head, then the arguments
-- from left to right, then its own name, number of arguments, sorts, and what is linear. Source: SMT-LIB 2.6, section
-- 3.6; the order of faults is own.
use Rattle.std.specs.Prelude.{ℕ, Bool, not, ◌&&◌, ◌||◌, List, [], ◌∷◌, ◌++◌, length, map, Option, Some, None, Ok, ◌==◌}
use Rattle.spec_text.specs.declared.Kind.{Kind}
use Rattle.spec_text.specs.declared.Kind.TheVariants.{Numeral, Decimal, Simple, Quoted, Reserved as word_kind}
use Rattle.spec_text.specs.declared.Fault.{Fault}
use Rattle.spec_text.specs.declared.Fault.TheVariants.{BadShape, UnknownSymbol, Reserved, WrongCount, WrongSort}
use Rattle.spec_text.specs.declared.Fault.TheVariants.{NumberWide}
use Rattle.spec_text.specs.Bytes.{Name}
use Rattle.spec_text.specs.Shapes.{Word}
use Rattle.spec_text.specs.Answers.{Answer, ◌>>=◌, refused, require}
use Rattle.spec_text.specs.Trees.{Tree, Trees, atom, list, none, more, offset_of}
use Rattle.spec_sorts.specs.Numerals.{literal_value, is_wide}
use Rattle.spec_sorts.specs.Terms.{Sort, same_sort, same_sorts, Literal, Apply, Term, of, sort_of, filled}
use Rattle.spec_sorts.specs.Theory.{look_up, Rule, takes_count, sorts_fit, theory}
use Rattle.spec_sorts.specs.Signatures.{Definition, Known, declared, defined, Signature, known_as, with_definitions}
use Rattle.spec_sorts.specs.Forms.{malformed, reserved, applies, binds, annotates, form, a_keyword, named_words}
use Rattle.spec_reading.specs.Names.{Setting, new_name, is_in_list, is_function, is_own, mentions}

-- The terms of bound names, of which the first of a name counts.
abbrev pub Bound : Type 0
Bound = List (Name × Term)

-- What a text is read as.
pub record Reading : Type 0 where
  -- the definitions that `:named` makes in it, in their order
  pub made : List Definition
  -- the term
  pub term : Term

-- What texts are read as, one after the other.
pub record Readings : Type 0 where
  -- the definitions that `:named` makes in them, in their order
  pub made : List Definition
  -- the terms, in their order
  pub terms : List Term

-- What bindings are read as.
pub record Bindings : Type 0 where
  -- the definitions that `:named` makes in them, in their order
  pub made : List Definition
  -- the names with their terms, in their order
  pub bound : Bound

-- a term without definitions
abbrev pub plain_reading : Term → Reading
plain_reading t = record { made = []; term = t }

-- a term, or why not
abbrev pub unless : Option Fault → ℕ → Term → Answer Term
unless None at t = Ok t
unless (Some f) at t = refused at f

-- a head of a theory before terms, where the whole is at an offset
abbrev pub by_rule : Rule → ℕ → List Term → Answer Term
by_rule r at ts =
    require (takes_count r (length ts)) at WrongCount >>= λ counted.
    require (sorts_fit r.takes (map sort_of ts)) at WrongSort >>= λ sorted.
    unless (r.fault ts) at (r.reads ts)

-- the term of what takes arguments of these sorts, before terms
abbrev pub with_sorts : List Sort → ℕ → List Term → Term → Answer Term
with_sorts sorts at ts t =
    require (length ts == length sorts) at WrongCount >>= λ counted.
    require (same_sorts sorts (map sort_of ts)) at WrongSort >>= λ sorted.
    Ok t

-- the sorts that a definition takes
abbrev pub sorts_taken : Definition → List Sort
sorts_taken d = map (λ (p : Name × Sort). p.1) d.parameters

-- a function of the signature before terms: a definition is read as its term, with the arguments for its parameters
abbrev pub by_known : Known → ℕ → List Term → Answer Term
by_known (declared f) at ts = with_sorts f.parameters at ts (of (Apply f) ts)
by_known (defined d) at ts = with_sorts (sorts_taken d) at ts (filled ts d.term)

-- by what the name is: bound, which hides all others, a theory's, one of the signature, or none, which is a fault at
-- the name
abbrev pub applied_as : Option Term → Option Rule → Option Known → ℕ → ℕ → List Term → Answer Term
applied_as (Some t) r k place at ts = with_sorts [] at ts t
applied_as None (Some r) k place at ts = by_rule r at ts
applied_as None None (Some k) place at ts = by_known k at ts
applied_as None None None place at ts = refused place UnknownSymbol

-- a name at an offset before terms, where the whole is at another
abbrev pub applied : Signature → Bound → ℕ → Name → ℕ → List Term → Answer Term
applied s b place n at ts = applied_as (look_up b n) (look_up theory n) (known_as s n) place at ts

-- a number
abbrev pub literal : ℕ → List ℕ → Answer Term
literal at digits = require (not (is_wide digits)) at NumberWide >>= λ fits. Ok (of (Literal (literal_value digits)) [])

-- an atom
abbrev pub atom_term : Signature → Bound → ℕ → Kind → Name → Answer Term
atom_term s b at Numeral n = literal at n
atom_term s b at Decimal n = literal at n
atom_term s b at Simple n = applied s b at n at []
atom_term s b at Quoted n = applied s b at n at []
atom_term s b at word_kind n = refused at Reserved
atom_term s b at k n = refused at BadShape

-- A term with attributes.
pub record Annotated : Type 0 where
  -- the offset of the whole
  pub at : ℕ
  -- the text of the term
  pub text : Tree
  -- the term that it is read as
  pub term : Term
  -- whether it may get a name: here, and with no bound name free in it
  pub may_name : Bool

-- the definition of a name for a term with attributes
abbrev pub naming : Name → Annotated → Definition
naming n t = record { name = n; parameters = []; result = sort_of t.term; body = t.text; term = t.term }

-- the definitions that the names of `:named` make, the term being read already
unfoldable pub made_by : Setting → Signature → Annotated → List Word → Answer (List Definition)
made_by w s t [] = Ok []
made_by w s t (x ∷ xs) =
    new_name w (λ n. is_function s n || is_own w.own n) x >>= λ n.
    require t.may_name t.at BadShape >>= λ may.
    made_by w (with_definitions s (naming n t ∷ [])) t xs >>= λ ds.
    Ok (naming n t ∷ ds)

-- names that are bound
abbrev pub bound_names : Bound → List Name
bound_names b = map (λ (p : Name × Term). p.0) b

-- a term with attributes, by the offset of the whole, the text and the term: it may get a name where no bound name is
-- free in it
abbrev pub annotated_as : Setting → Bound → ℕ → Tree → Term → Annotated
annotated_as w b at t u = record {
  at = at;
  text = t;
  term = u;
  may_name = w.may_name
      && not (mentions (bound_names b) t);
}

unfoldable mutual
  -- what a text is read as, with a signature and bound names
  pub reading : Setting → Signature → Bound → Tree → Answer Reading
  reading w s b (atom at k n) = atom_term s b at k n >>= λ t. Ok (plain_reading t)
  reading w s b (list at none end) = refused at BadShape
  reading w s b (list at (more head us) end) = elim (form head us) [
    | malformed ↦ refused at BadShape
    | reserved place ↦ refused place Reserved
    | applies place n ↦
        readings w s b us >>= λ r.
        applied (with_definitions s r.made) b place n at r.terms >>= λ t.
        Ok (record { made = r.made; term = t })
    | binds ↦ let_reading w s b at us
    | annotates ↦ annotated_reading w s b at us
  ]

  -- what texts are read as, from left to right: the names that one makes are known in those after it
  pub readings : Setting → Signature → Bound → Trees → Answer Readings
  readings w s b none = Ok (record { made = []; terms = [] })
  readings w s b (more t ts) =
      reading w s b t >>= λ r.
      readings w (with_definitions s r.made) b ts >>= λ rs.
      Ok (record { made = r.made ++ rs.made; terms = r.term ∷ rs.terms })

  -- bindings, and a body under them; the whole is at an offset
  pub let_reading : Setting → Signature → Bound → ℕ → Trees → Answer Reading
  let_reading w s b at (more (list place bindings end) (more body none)) =
      bindings_reading w s b [] bindings >>= λ r.
      reading w (with_definitions s r.made) (r.bound ++ b) body >>= λ t.
      Ok (record { made = r.made ++ t.made; term = t.term })
  let_reading w s b at us = refused at BadShape

  -- bindings after some names: each name before its term, in which none of the names is bound
  pub bindings_reading : Setting → Signature → Bound → List Name → Trees → Answer Bindings
  bindings_reading w s b names (more (list at (more (atom x k n) (more t none)) end) rest) =
      new_name w (is_in_list names) (record { at = x; kind = k; bytes = n }) >>= λ name.
      reading w s b t >>= λ r.
      bindings_reading w (with_definitions s r.made) b (names ++ name ∷ []) rest >>= λ rs.
      Ok (record { made = r.made ++ rs.made; bound = (name, r.term) ∷ rs.bound })
  bindings_reading w s b names ts = Ok (record { made = []; bound = [] })

  -- a term, and then its attributes, of which `:named` alone changes anything; the whole is at an offset
  pub annotated_reading : Setting → Signature → Bound → ℕ → Trees → Answer Reading
  annotated_reading w s b at none = refused at BadShape
  annotated_reading w s b at (more t attributes) =
      reading w s b t >>= λ r.
      made_by w (with_definitions s r.made) (annotated_as w b at t r.term) (named_words a_keyword attributes) >>= λ ds.
      Ok (record { made = r.made ++ ds; term = r.term })

-- a text whose term has a sort, or the fault at its first byte
abbrev pub reading_of_sort : Setting → Signature → Bound → Sort → Tree → Answer Reading
reading_of_sort w s b sort t =
    reading w s b t >>= λ r.
    require (same_sort sort (sort_of r.term)) (offset_of t) WrongSort >>= λ fits.
    Ok r
