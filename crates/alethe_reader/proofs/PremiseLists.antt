-- Premises read one by one.
use Rattle.std.proofs.Common.{◌≡◌, List, [], ◌∷◌, ◌++◌, None, Some, refl, sym, ap, ◌∙◌, append_assoc, append-nil}
use Rattle.std.specs.Prelude.{Ok, Err, if◌then◌else◌}
use Rattle.spec_text.specs.Bytes.{among}
use Rattle.spec_text.specs.Shapes.{Word}
use Rattle.spec_text.specs.Trees.{Tree, Trees, atom, list, none, more}
use Rattle.spec_text.specs.Answers.{◌>>=◌}
use Rattle.spec_sorts.specs.Literals.{Clause}
use Rattle.spec_proofs.specs.declared.ProofKind.TheVariants.{TwiceName}
use Rattle.spec_proofs.specs.Faults.{Fault, Read, wrong}
use Rattle.spec_checking.specs.Commands.{Known}
use Rattle.spec_checking.specs.Reading.{clause_of, clause_at, entry_names, fresh_name, premise_of, premises_of}
use Rattle.smt_sexpr.specs.Items.{split_first}
use Rattle.alethe_reader.specs.declared.errors.CommandError.{CommandError}
use Rattle.alethe_reader.specs.declared.errors.CommandError.TheVariants as errors
use Rattle.alethe_reader.specs.Reads.{located_view}
use Rattle.alethe_reader.specs.Parts.{Gives}
use Rattle.smt_sexpr.proofs.Splitting.{split_end, split_more}

-- what was read before comes first
abbrev pub with_front : {A : Type 0} → List A → Read (List A) → Read (List A)
with_front xs (Ok ys) = Ok (xs ++ ys)
with_front xs (Err e) = Err e

with_more : {A : Type 0} (xs : List A) (x : A) (r : Read (List A)) → with_front xs (r >>= λ ys. Ok (x ∷ ys)) ≡ with_front (xs ++ x ∷ []) r
unfolding ◌>>=◌
with_more xs x (Ok ys) = ap (λ zs. Ok zs) (sym (append_assoc xs (x ∷ []) ys))
with_more xs x (Err e) = refl

module _ (k : Known) where
  pub none_left : premises_of k none ≡ Ok []
  unfolding premises_of
  none_left = refl

  first_left : (t : Tree) (ts : Trees) → premises_of k (more t ts) ≡ (premise_of k t >>= λ c. premises_of k ts >>= λ cs. Ok (c ∷ cs))
  unfolding premises_of
  first_left t ts = refl

  first_is : (t : Tree) (ts : Trees) (c : Clause) → premise_of k t ≡ Ok c → premises_of k (more t ts) ≡ (premises_of k ts >>= λ cs. Ok (c ∷ cs))
  unfolding ◌>>=◌
  first_is t ts c e = first_left t ts ∙ ap (λ r. r >>= λ d. premises_of k ts >>= λ cs. Ok (d ∷ cs)) e

  first_fails : (t : Tree) (ts : Trees) (f : Fault) → premise_of k t ≡ Err f → premises_of k (more t ts) ≡ Err f
  unfolding ◌>>=◌
  first_fails t ts f e = first_left t ts ∙ ap (λ r. r >>= λ d. premises_of k ts >>= λ cs. Ok (d ∷ cs)) e

  module _ (cs : List Clause) (ts : Trees) (all : Read (List Clause)) (before : with_front cs (premises_of k ts) ≡ all) where
    pub premises_end : None ≡ split_first ts → all ≡ Ok cs
    premises_end e = sym before ∙ ap (λ us. with_front cs (premises_of k us)) (split_end ts e) ∙ ap (with_front cs) none_left ∙ ap (λ ds. Ok ds) (append-nil cs)

    module _ (t : Tree) (us : Trees) (split : Some (t, us) ≡ split_first ts) where
      next : with_front cs (premises_of k (more t us)) ≡ all
      next = ap (λ vs. with_front cs (premises_of k vs)) (sym (split_more ts us t split)) ∙ before

      pub premises_more : (c : Clause) → premise_of k t ≡ Ok c → with_front (cs ++ c ∷ []) (premises_of k us) ≡ all
      premises_more c e = sym (with_more cs c (premises_of k us)) ∙ ap (with_front cs) (sym (first_is t us c e)) ∙ next

      pub premises_fail : {X Y : Type 0} (one : X → Clause) (view : Y → List Clause) (s : CommandError) → Gives one (Err s) (premise_of k t) → Gives view (Err s) all
      premises_fail one view (errors.Fault f) e = sym next ∙ ap (with_front cs) (first_fails t us (located_view f) e)
      premises_fail one view errors.Memory e = tt

-- premises are known by the names of commands alone
pub premises_by : (k l : Known) → k.entries ≡ l.entries → (ts : Trees) → premises_of k ts ≡ premises_of l ts
unfolding premises_of ◌>>=◌
premises_by k l e none = refl
premises_by k l e (more (atom at kind n) ts) = λ i. clause_at at (clause_of (e i) n) >>= λ c. premises_by k l e ts i >>= λ cs. Ok (c ∷ cs)
premises_by k l e (more (list at us end) ts) = refl

-- and so is whether a name is new
pub fresh_by : (k l : Known) → k.entries ≡ l.entries → (w : Word) → fresh_name k w ≡ fresh_name l w
unfolding fresh_name
fresh_by k l e w = ap (λ es. if among (entry_names es) w.bytes then wrong w.at TwiceName else Ok w.bytes) e
