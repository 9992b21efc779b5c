-- Texts of a sort, one after the other.
use Rattle.std.proofs.Common.{◌≡◌, List, [], ◌∷◌, ◌++◌, refl, ap, sym, ◌∙◌, subst, append_assoc, append-nil}
use Rattle.std.specs.Prelude.{Ok, Err}
use Rattle.std.proofs.lemmas.List.Elements.{All-nil}
use Rattle.spec_text.specs.Answers.{Answer, ◌>>=◌}
use Rattle.spec_text.specs.Trees.{Tree, Trees, none, more}
use Rattle.spec_sorts.specs.Terms.{Sort, Term}
use Rattle.spec_sorts.specs.Signatures.{Definition, Signature, with_definitions}
use Rattle.spec_reading.specs.Names.{Setting}
use Rattle.spec_reading.specs.Reading.{Reading, Readings, reading_of_sort}
use Rattle.spec_reading.proofs.Values.{with_both}
use Rattle.term_core.specs.declared.ids.TermId.{TermId}
use Rattle.term_core.specs.Tables.{IsIn}
use Rattle.term_reader.specs.declared.faults.ReadError.{ReadError}
use Rattle.term_reader.specs.declared.faults.ReadError.TheVariants.{Fault, Memory}
use Rattle.term_reader.specs.Building.{KeepsTable}
use Rattle.term_reader.specs.Scopes.{ScopeMeans}
use Rattle.sort_check.specs.Reads.{all_of_sort, Store, HasFault, HasTerms}
use Rattle.sort_check.specs.Rows.{HasOne}
use Rattle.sort_check.specs.Walks.{AllMean}
use Rattle.sort_check.proofs.Rows.{with_no}
use Rattle.sort_check.proofs.Kept.{mean_kept, mean_push}

-- The first texts are read, and others are left.
pub record IsAll (w : Setting) (s : Signature) (sort : Sort) (texts : Trees × Trees) (now : Store) (ids : List TermId) : Type 0 where
  -- the definitions that were made
  pub made : List Definition
  -- the terms that were read
  pub done : List Term
  -- with those that are left they come to all
  pub same : all_of_sort w s sort texts.0 ≡ (all_of_sort w (with_definitions s made) sort texts.1 >>= λ rs. Ok (record { made = made ++ rs.made; terms = done ++ rs.terms }))
  -- the numbers of the terms
  pub terms : AllMean now.table ids done
  -- what they define is there
  pub represents : ScopeMeans now.table now.scope (with_definitions s made)

pub all_begin : (w : Setting) (s : Signature) (sort : Sort) (all : Trees) (now : Store) → ScopeMeans now.table now.scope s → IsAll w s sort (all, all) now []
unfolding ◌>>=◌
all_begin w s sort all now h = record {
  made = [];
  done = [];
  same = go (all_of_sort w s sort all) ∙ ap (λ x. all_of_sort w x sort all >>= λ rs. Ok (record { made = [] ++ rs.made; terms = [] ++ rs.terms })) (sym (with_no s));
  terms = (All-nil (λ i. IsIn now.table i), refl);
  represents = subst (ScopeMeans now.table now.scope) (sym (with_no s)) h;
}
  where
    go : (a : Answer Readings) → a ≡ (a >>= λ rs. Ok (record { made = [] ++ rs.made; terms = [] ++ rs.terms }))
    go (Ok rs) = refl
    go (Err e) = refl

module _ (w : Setting) (s : Signature) (sort : Sort) (all rest after : Trees) (t : Tree) (now : Store) (ids : List TermId) (is : rest ≡ more t after) (h : IsAll w s sort (all, rest) now ids) where
  -- what is known then
  abbrev pub known : Signature
  known = with_definitions s h.made

  next : all_of_sort w s sort all ≡ (all_of_sort w known sort (more t after) >>= λ rs. Ok (record { made = h.made ++ rs.made; terms = h.done ++ rs.terms }))
  unfolding ◌>>=◌
  next = h.same ∙ ap (λ ts. all_of_sort w known sort ts >>= λ rs. Ok (record { made = h.made ++ rs.made; terms = h.done ++ rs.terms })) is

  pub all_stop : (stop : ReadError) → HasFault (reading_of_sort w known [] sort t) stop → HasFault (all_of_sort w s sort all) stop
  unfolding ◌>>=◌ all_of_sort
  all_stop (Fault f) e = next ∙ ap (λ a. let z : Answer Readings = (a >>= λ r. all_of_sort w (with_definitions known r.made) sort after >>= λ rs. Ok (record { made = r.made ++ rs.made; terms = r.term ∷ rs.terms })) in z >>= λ rs. Ok (record { made = h.made ++ rs.made; terms = h.done ++ rs.terms })) e
  all_stop Memory e = tt

  pub all_go : (new : Store) (id : TermId) (nums : List TermId) → KeepsTable now.table new.table → HasOne known new (reading_of_sort w known [] sort t) (id, nums) → IsAll w s sort (all, after) new (ids ++ id ∷ [])
  unfolding ◌>>=◌ all_of_sort
  all_go new id nums keeps k =
      let x : Reading = k.reading in
      record {
        made = h.made ++ x.made;
        done = h.done ++ x.term ∷ [];
        same =
            next
            ∙ ap (λ a. let z : Answer Readings = (a >>= λ r. all_of_sort w (with_definitions known r.made) sort after >>= λ rs. Ok (record { made = r.made ++ rs.made; terms = r.term ∷ rs.terms })) in z >>= λ rs. Ok (record { made = h.made ++ rs.made; terms = h.done ++ rs.terms })) k.read
            ∙ further x (all_of_sort w (with_definitions known x.made) sort after)
            ∙ ap (λ y. all_of_sort w y sort after >>= λ rs. Ok (record { made = (h.made ++ x.made) ++ rs.made; terms = (h.done ++ x.term ∷ []) ++ rs.terms })) (sym (with_both s h.made x.made));
        terms = mean_push new.table ids id h.done x.term (mean_kept now.table new.table keeps ids h.done h.terms) k.term.0 k.term.1;
        represents = subst (ScopeMeans new.table new.scope) (sym (with_both s h.made x.made)) k.represents;
      }
    where
      further : (x : Reading) (a : Answer Readings) → (let y : Answer Readings = (let z : Answer Readings = (a >>= λ rs. Ok (record { made = x.made ++ rs.made; terms = x.term ∷ rs.terms })) in z >>= λ rs. Ok (record { made = h.made ++ rs.made; terms = h.done ++ rs.terms })) in y)
          ≡ (a >>= λ rs. Ok (record { made = (h.made ++ x.made) ++ rs.made; terms = (h.done ++ x.term ∷ []) ++ rs.terms }))
      further x (Err e) = refl
      further x (Ok rs) = λ i. Ok (record { made = sym (append_assoc h.made x.made rs.made) i; terms = sym (append_assoc h.done (x.term ∷ []) rs.terms) i })

pub all_end : (w : Setting) (s : Signature) (sort : Sort) (all rest : Trees) (now : Store) (ids : List TermId) → rest ≡ none → IsAll w s sort (all, rest) now ids → HasTerms s now (all_of_sort w s sort all) ids
unfolding ◌>>=◌ all_of_sort
all_end w s sort all rest now ids is h = record {
  readings = record { made = h.made; terms = h.done };
  read = h.same ∙ ap (λ ts. all_of_sort w (with_definitions s h.made) sort ts >>= λ rs. Ok (record { made = h.made ++ rs.made; terms = h.done ++ rs.terms })) is ∙ (λ i. Ok (record { made = append-nil h.made i; terms = append-nil h.done i }));
  there = h.terms.0;
  terms = h.terms.1;
  represents = h.represents;
}
