-- Names that a scope has, and new names.
use Rattle.std.proofs.Common.{◌≡◌, Bool, true, false, not, ◌||◌, Option, Some, None, refl, sym, ap, ◌∙◌}
use Rattle.std.specs.Prelude.{Ok, codes}
use Rattle.std.specs.Str.{bytes_eq}
use Rattle.spec_text.specs.declared.Fault.TheVariants.{Reserved, Twice}
use Rattle.spec_text.specs.Bytes.{Name}
use Rattle.spec_text.specs.Shapes.{Word}
use Rattle.spec_text.specs.Answers.{◌>>=◌, require}
use Rattle.spec_sorts.specs.Terms.{Sort}
use Rattle.spec_sorts.specs.Theory.{Rule, look_up, theory, is_of_theory}
use Rattle.spec_sorts.specs.Signatures.{Known, Signature, known_as, sort_as, is_some}
use Rattle.spec_reading.specs.Names.{Setting, is_barred, new_name, is_function, is_sort}
use Rattle.term_core.specs.declared.sorts.Sort.{Sort as TableSort}
use Rattle.term_core.specs.Tables.{TableView}
use Rattle.term_reader.specs.declared.scope.Function.{Function}
use Rattle.term_reader.specs.declared.scope.Function.TheVariants.{Declared, Defined}
use Rattle.term_reader.specs.Scopes.{ScopeView, sort_under, function_under, SortMeans, FunctionMeans, ScopeMeans}

-- a new name, where one test tells of its name what another does
pub new_by : (w : Setting) (f : Name → Bool) (x : Word) (taken : Bool) → taken ≡ f x.bytes → new_name w (λ _. taken) x ≡ new_name w f x
new_by w f x taken e = ap (λ b. require (not (is_barred w x)) x.at Reserved >>= λ free. require (not b) x.at Twice >>= λ new. Ok x.bytes) e

module _ (t : TableView) (v : ScopeView) (s : Signature) (n : Name) (h : ScopeMeans t v s) where
  sort_there : (o : Option TableSort) (r : Option Sort) → SortMeans t o r → (x : TableSort) → o ≡ Some x → is_some r ≡ true
  sort_there (Some y) (Some r) g x e = refl
  sort_there (Some y) None g x e = absurd g
  sort_there None r g x e = cc

  no_sort_there : (o : Option TableSort) (r : Option Sort) → SortMeans t o r → o ≡ None → is_some r ≡ false
  no_sort_there None None g e = refl
  no_sort_there None (Some r) g e = absurd g
  no_sort_there (Some y) r g e = cc

  function_there : (o : Option Function) (k : Option Known) → FunctionMeans t o k → (x : Function) → o ≡ Some x → true ≡ is_some k
  function_there None k g x e = cc
  function_there (Some f) (Some k) g x e = refl
  function_there (Some (Declared id)) None g x e = absurd g
  function_there (Some (Defined m)) None g x e = absurd g

  no_function_there : (o : Option Function) (k : Option Known) → FunctionMeans t o k → o ≡ None → false ≡ is_some k
  no_function_there None None g e = refl
  no_function_there None (Some k) g e = absurd g
  no_function_there (Some f) k g e = cc

  sort_by : (a b c : Bool) → bytes_eq (codes "Bool") n ≡ a → bytes_eq (codes "Real") n ≡ b → is_some (sort_as s n) ≡ c → (a || (b || false)) || c ≡ is_sort s n
  sort_by a b c e f g = λ i. (sym e i || (sym f i || false)) || sym g i

  pub is_truth : bytes_eq (codes "Bool") n ≡ true → true ≡ is_sort s n
  is_truth e = sort_by true (bytes_eq (codes "Real") n) (is_some (sort_as s n)) e refl refl

  pub is_number : bytes_eq (codes "Bool") n ≡ false → bytes_eq (codes "Real") n ≡ true → true ≡ is_sort s n
  is_number e f = sort_by false true (is_some (sort_as s n)) e f refl

  pub has_sort : bytes_eq (codes "Bool") n ≡ false → bytes_eq (codes "Real") n ≡ false → (x : TableSort) → sort_under v n ≡ Some x → true ≡ is_sort s n
  has_sort e f x g = sort_by false false true e f (sort_there _ _ (h.sorts n) x g)

  pub has_no_sort : bytes_eq (codes "Bool") n ≡ false → bytes_eq (codes "Real") n ≡ false → sort_under v n ≡ None → false ≡ is_sort s n
  has_no_sort e f g = sort_by false false false e f (no_sort_there _ _ (h.sorts n) g)

  pub knows : (x : Function) → function_under v n ≡ Some x → true ≡ is_some (known_as s n)
  knows x e = function_there _ _ (h.functions n) x e

  pub knows_none : function_under v n ≡ None → false ≡ is_some (known_as s n)
  knows_none e = no_function_there _ _ (h.functions n) e

-- a theory's name is a function's
pub theory_function : (s : Signature) (n : Name) (r : Rule) → look_up theory n ≡ Some r → true ≡ is_function s n
theory_function s n r e = go (is_of_theory n) (in_theory (look_up theory n) refl)
  where
    in_theory : (o : Option Rule) → look_up theory n ≡ o → is_of_theory n ≡ true
    in_theory o f = rw e refl

    go : (b : Bool) → b ≡ true → true ≡ (b || is_some (known_as s n))
    go true f = refl
    go false f = cc

-- any other is one that the signature has
pub other_function : (s : Signature) (n : Name) (b : Bool) → look_up theory n ≡ None → b ≡ is_some (known_as s n) → b ≡ is_function s n
other_function s n b e f = f ∙ go (is_of_theory n) (rw e refl)
  where
    go : (a : Bool) → a ≡ false → is_some (known_as s n) ≡ (a || is_some (known_as s n))
    go false g = refl
    go true g = cc

-- a name that is no sort's is unknown among sorts
pub unknown_sort : (s : Signature) (n : Name) → is_sort s n ≡ false → sort_as s n ≡ None
unknown_sort s n e = go (sort_as s n) (right (bytes_eq (codes "Bool") n) (bytes_eq (codes "Real") n) (is_some (sort_as s n)) e)
  where
    right : (a b c : Bool) → ((a || (b || false)) || c) ≡ false → c ≡ false
    right true b c f = cc
    right false true c f = cc
    right false false c f = f

    go : (o : Option Sort) → is_some o ≡ false → o ≡ None
    go None f = refl
    go (Some r) f = cc
