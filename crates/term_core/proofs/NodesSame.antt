-- What the derived `==` of nodes says.
use Rattle.std.proofs.Common.{◌≡◌, true, ◌&&◌, ◌==◌, List, refl, ap, subst, ◌∙◌}
use Rattle.std.specs.Bool.{Decides}
use Rattle.std.specs.Ordering.{int_eq}
use Rattle.std.specs.Cmp.Lexicographic.{pointwise}
use Rattle.std.proofs.lemmas.Bool.Decides.{Decides-like, Decides-eqb, Decides-int_eq}
use Rattle.std.proofs.lemmas.Slice.Eq.{slice_eq-Decides}
use Rattle.std.proofs.lemmas.Bool.{and_parts}
use Rattle.term_core.specs.declared.ids.TermId.{TermId}
use Rattle.term_core.specs.declared.ids.SymbolId.{SymbolId}
use Rattle.ratio128.specs.declared.ratio.Ratio.{Ratio}
use Rattle.ratio128.specs.contracts.ratio.RatioPartialEq.TheImpl.{ghosts as ratio_ghosts}
use Rattle.ratio128.proofs.Same.{same_ratio}
use Rattle.term_core.specs.declared.ids.SortId.{SortId}
use Rattle.term_core.specs.declared.sorts.Sort.{Sort}
use Rattle.term_core.specs.declared.sorts.Sort.TheVariants.{Bool, Real, Declared}
use Rattle.term_core.specs.declared.nodes.Head.{Head}
use Rattle.term_core.specs.declared.nodes.Head.TheVariants.{True, False, Not, And, Or, Xor, Implies, Equal, Ite, Minus, Plus, Times, Divide, Less, AtMost, Literal, Apply, Parameter}
use Rattle.term_core.specs.declared.nodes.Node.{Node}
use Rattle.term_core.specs.contracts.nodes.NodePartialEq.TheImpl.{ghosts}
use Rattle.term_core.specs.contracts.nodes.HeadPartialEq.TheImpl.{ghosts as head_ghosts}
use Rattle.term_core.specs.contracts.ids.TermIdPartialEq.TheImpl.{ghosts as id_ghosts}
use Rattle.term_core.specs.contracts.ids.SymbolIdPartialEq.TheImpl.{ghosts as symbol_ghosts}
use Rattle.term_core.specs.contracts.ids.SortIdPartialEq.TheImpl.{ghosts as sort_id_ghosts}
use Rattle.term_core.specs.contracts.sorts.SortPartialEq.TheImpl.{ghosts as sort_ghosts}
use Rattle.term_core.specs.Tables.{Shape, shape_of}

pub ids_decide : (a b : TermId) → Decides (id_ghosts.eq a b) (a ≡ b)
ids_decide a b = Decides-like _ (λ e. ap (λ n. record { 0 = n }) e) (λ e. ap (λ t. t.0) e) (Decides-eqb a.0 b.0)

symbols_decide : (a b : SymbolId) → Decides (symbol_ghosts.eq a b) (a ≡ b)
symbols_decide a b = Decides-like _ (λ e. ap (λ n. record { 0 = n }) e) (λ e. ap (λ t. t.0) e) (Decides-eqb a.0 b.0)

sort_ids_decide : (a b : SortId) → Decides (sort_id_ghosts.eq a b) (a ≡ b)
sort_ids_decide a b = Decides-like _ (λ e. ap (λ n. record { 0 = n }) e) (λ e. ap (λ t. t.0) e) (Decides-eqb a.0 b.0)

lists_decide : (xs ys : List TermId) → Decides (pointwise id_ghosts.eq xs ys) (xs ≡ ys)
lists_decide xs ys = slice_eq-Decides ids_decide xs ys _ refl

sorts_decide : (s t : Sort) → Decides (sort_ghosts.eq s t) (s ≡ t)
sorts_decide s t = (one_sort s t, λ e. subst (λ u. sort_ghosts.eq s u ≡ true) e (sort_itself s))
  where
    one_sort : (s t : Sort) → sort_ghosts.eq s t ≡ true → s ≡ t
    one_sort Bool Bool e = refl
    one_sort Real Real e = refl
    one_sort (Declared a) (Declared b) e = ap Declared ((sort_ids_decide a b).0 e)
    one_sort Bool _ e = cc
    one_sort Real _ e = cc
    one_sort (Declared a) _ e = cc

    sort_itself : (s : Sort) → sort_ghosts.eq s s ≡ true
    sort_itself (Declared a) = (sort_ids_decide a a).1 refl
    sort_itself _ = refl

-- fractions are one where their parts are
one_ratio : (a b : Ratio) → ratio_ghosts.eq a b ≡ true → a ≡ b
one_ratio a b e =
    let parts = and_parts (int_eq a.num b.num) (a.den == b.den) e in
    same_ratio a b (λ i. record { num = (Decides-int_eq a.num b.num).0 parts.0 i; den = (Decides-eqb a.den b.den).0 parts.1 i })

ratio_itself : (a : Ratio) → ratio_ghosts.eq a a ≡ true
ratio_itself a = λ i. (Decides-int_eq a.num a.num).1 refl i && (Decides-eqb a.den a.den).1 refl i

same_head : (g h : Head) → head_ghosts.eq g h ≡ true → g ≡ h
same_head True True e = refl
same_head False False e = refl
same_head Not Not e = refl
same_head And And e = refl
same_head Or Or e = refl
same_head Xor Xor e = refl
same_head Implies Implies e = refl
same_head Equal Equal e = refl
same_head Ite Ite e = refl
same_head Minus Minus e = refl
same_head Plus Plus e = refl
same_head Times Times e = refl
same_head Divide Divide e = refl
same_head Less Less e = refl
same_head AtMost AtMost e = refl
same_head (Literal a) (Literal b) e = ap Literal (one_ratio a b e)
same_head (Apply a) (Apply b) e = ap Apply ((symbols_decide a b).0 e)
same_head (Parameter j s) (Parameter k t) e =
    let parts = and_parts (j == k) (sort_ghosts.eq s t) e in
    λ i. Parameter ((Decides-eqb j k).0 parts.0 i) ((sorts_decide s t).0 parts.1 i)
same_head True _ e = cc
same_head False _ e = cc
same_head Not _ e = cc
same_head And _ e = cc
same_head Or _ e = cc
same_head Xor _ e = cc
same_head Implies _ e = cc
same_head Equal _ e = cc
same_head Ite _ e = cc
same_head Minus _ e = cc
same_head Plus _ e = cc
same_head Times _ e = cc
same_head Divide _ e = cc
same_head Less _ e = cc
same_head AtMost _ e = cc
same_head (Literal a) _ e = cc
same_head (Apply a) _ e = cc
same_head (Parameter j s) _ e = cc

head_itself : (h : Head) → head_ghosts.eq h h ≡ true
head_itself (Literal a) = ratio_itself a
head_itself (Apply a) = (symbols_decide a a).1 refl
head_itself (Parameter j s) = λ i. (Decides-eqb j j).1 refl i && (sorts_decide s s).1 refl i
head_itself _ = refl

pub same_node : (x y : Node) → ghosts.eq x y ≡ true → shape_of x ≡ shape_of y
same_node x y e =
    let parts = and_parts (head_ghosts.eq x.head y.head) (pointwise id_ghosts.eq x.arguments.items y.arguments.items) e in
    let head = same_head x.head y.head parts.0 in
    let arguments = (lists_decide x.arguments.items y.arguments.items).0 parts.1 in
    λ i. record { head = head i; arguments = arguments i }

-- each head and each list is equal to itself
itself : (h : Head) (xs : List TermId) → head_ghosts.eq h h && pointwise id_ghosts.eq xs xs ≡ true
itself h xs = ap (λ b. b && pointwise id_ghosts.eq xs xs) (head_itself h) ∙ (lists_decide xs xs).1 refl

pub node_same : (x y : Node) → shape_of x ≡ shape_of y → ghosts.eq x y ≡ true
node_same x y e = subst (λ (s : Shape). head_ghosts.eq x.head s.head && pointwise id_ghosts.eq x.arguments.items s.arguments ≡ true) e (itself x.head x.arguments.items)
