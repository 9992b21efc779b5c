-- The arguments of a table's terms are among them, and their heads, which are declared, take them.
use Rattle.std.proofs.Common.{◌≡◌, true, List, [], ◌∷◌, ◌++◌, length, take, get_or, Contains, map, sym, ap, ◌∙◌, subst, length-append, arith}
use Rattle.std.proofs.Math.Seq.{get_or-append_seam, take-append_seam}
use Rattle.std.proofs.lemmas.List.{get_or_default}
use Rattle.std.proofs.lemmas.List.Elements.{All-contains, Contains-get_or}
use Rattle.spec_text.proofs.Members.{to_image, from_image}
use Rattle.spec_sorts.specs.Terms.{Symbol, Head, Term, Terms, no_term, app, list_of, sort_of}
use Rattle.spec_sorts.specs.WellSorted.{IsHeadOver}
use Rattle.spec_sorts.specs.Subsets.{arguments_of, AreAmong, IsClosed}
use Rattle.spec_sorts.proofs.General.{list_of-terms_of}
use Rattle.term_core.specs.declared.ids.TermId.{TermId}
use Rattle.term_core.specs.declared.nodes.Head.{Head as NodeHead}
use Rattle.term_core.specs.declared.nodes.Head.TheVariants as heads
use Rattle.term_core.specs.declared.nodes.Node.{Node}
use Rattle.term_core.specs.Symbols.{SymbolsView, no_symbol}
use Rattle.term_core.specs.Tables.{TableView, view, term_at, IsIn, head_over, IsHeadIn, head_meant, takes, clause_at, Shape, shapes_of, no_shape, shape_term, ShapeFits, grown, NodesFit}
use Rattle.term_core.proofs.ShapesGrown.{at-term, at-fits}
use Rattle.term_core.proofs.TermsApart.{at}

-- an argument of what is written has a number among those that are written
pub argument_of : (t : TableView) (s : Shape) (u : Term) → Contains (arguments_of (shape_term t s)) u → (id : TermId) × Contains s.arguments id × (term_at t id ≡ u)
argument_of t s u c = from_image (term_at t) s.arguments u (subst (λ ts. Contains ts u) (list_of-terms_of (clause_at t s.arguments)) c)

-- and each of those numbers is of an argument
pub argument_in : (t : TableView) (s : Shape) (id : TermId) → Contains s.arguments id → Contains (arguments_of (shape_term t s)) (term_at t id)
argument_in t s id c = subst (λ ts. Contains ts (term_at t id)) (sym (list_of-terms_of (clause_at t s.arguments))) (to_image (term_at t) s.arguments id c)

-- the term of a number is a term of the table
pub term_there : (t : TableView) (id : TermId) → IsIn t id → Contains t.terms (term_at t id)
term_there t id lt = (id.0, lt, get_or_default t.terms id.0 (term_at t id) no_term lt)

-- a term of the table is written at its number
pub is_written : (d : SymbolsView) (nodes : List Node) → NodesFit d nodes → (t : Term) → Contains (grown d [] (shapes_of nodes)) t
    → (s : Shape) × ShapeFits (view d (grown d [] (shapes_of nodes))) s × (t ≡ shape_term (view d (grown d [] (shapes_of nodes))) s)
is_written d nodes whole t c =
    let terms = grown d [] (shapes_of nodes) in
    let s : Shape = get_or (shapes_of nodes) c.0 no_shape in
    let here = at d nodes whole c.0 c.1 in
    (s, at-fits d terms s c.0 here, sym c.2 ∙ get_or_default terms c.0 t no_term c.1 ∙ at-term d terms s c.0 here)

pub closed_terms : (d : SymbolsView) (nodes : List Node) → NodesFit d nodes → IsClosed (grown d [] (shapes_of nodes))
closed_terms d nodes whole t c u a =
    let tv : TableView = view d (grown d [] (shapes_of nodes)) in
    let w = is_written d nodes whole t c in
    let arg = argument_of tv w.0 u (subst (λ x. Contains (arguments_of x) u) w.2 a) in
    let within : IsIn tv arg.0 = All-contains (λ id. IsIn tv id) w.0.arguments arg.0 w.1.arguments arg.1 in
    subst (Contains tv.terms) arg.2 (term_there tv arg.0 within)

-- the head takes arguments of the sorts of the term's own
abbrev TakesItsOwn : Term → Type 0
TakesItsOwn (app h ts) = takes h (map sort_of (list_of ts)) ≡ true

pub heads_take : (d : SymbolsView) (nodes : List Node) → NodesFit d nodes → (h : Head) (ts : Terms) → Contains (grown d [] (shapes_of nodes)) (app h ts) → takes h (map sort_of (list_of ts)) ≡ true
heads_take d nodes whole h ts c =
    let tv : TableView = view d (grown d [] (shapes_of nodes)) in
    let w = is_written d nodes whole (app h ts) c in
    subst TakesItsOwn (sym w.2) (subst (λ us. takes (head_meant tv w.0.head) (map sort_of us) ≡ true) (sym (list_of-terms_of (clause_at tv w.0.arguments))) w.1.sorts)

-- the head is over these symbols
abbrev HeadIsOver : List Symbol → Term → Type 0
HeadIsOver symbols (app h ts) = IsHeadOver symbols h

meant_over : (d : SymbolsView) (h : NodeHead) → IsHeadIn d.sorts d.symbols h → IsHeadOver d.symbols (head_over d.sorts d.symbols h)
meant_over d (heads.Apply s) there = Contains-get_or d.symbols s.0 no_symbol there
meant_over d (heads.Literal q) there = record { positive = q.parts.positive; coprime = q.parts.coprime }
meant_over d heads.True there = tt
meant_over d heads.False there = tt
meant_over d heads.Not there = tt
meant_over d heads.And there = tt
meant_over d heads.Or there = tt
meant_over d heads.Xor there = tt
meant_over d heads.Implies there = tt
meant_over d heads.Equal there = tt
meant_over d heads.Ite there = tt
meant_over d heads.Minus there = tt
meant_over d heads.Plus there = tt
meant_over d heads.Times there = tt
meant_over d heads.Divide there = tt
meant_over d heads.Less there = tt
meant_over d heads.AtMost there = tt
meant_over d (heads.Parameter k s) there = tt

pub heads_over : (d : SymbolsView) (nodes : List Node) → NodesFit d nodes → (h : Head) (ts : Terms) → Contains (grown d [] (shapes_of nodes)) (app h ts) → IsHeadOver d.symbols h
heads_over d nodes whole h ts c =
    let w = is_written d nodes whole (app h ts) c in
    subst (HeadIsOver d.symbols) (sym w.2) (meant_over d w.0.head w.1.head)

-- the arguments of a term are before it
pub first_arguments : (d : SymbolsView) (nodes : List Node) → NodesFit d nodes → (before after : List Term) (t : Term) → grown d [] (shapes_of nodes) ≡ before ++ t ∷ after → AreAmong (arguments_of t) before
first_arguments d nodes whole before after t e u a =
    let s : Shape = get_or (shapes_of nodes) (length before) no_shape in
    let here = at d nodes whole (length before) (omega (arith, ap length e, length-append before (t ∷ after))) in
    let front = here.front in
    let tv : TableView = view d front in
    let both : before ++ t ∷ after ≡ front ++ shape_term tv s ∷ here.more = sym e ∙ here.whole in
    let same : before ≡ front = sym (take-append_seam before (t ∷ after)) ∙ ap (take (length before)) both ∙ ap (λ k. take k (front ++ shape_term tv s ∷ here.more)) (sym here.long) ∙ take-append_seam front (shape_term tv s ∷ here.more) in
    let is : t ≡ shape_term tv s = sym (get_or-append_seam before t after no_term) ∙ ap (λ l. get_or l (length before) no_term) both ∙ ap (λ k. get_or (front ++ shape_term tv s ∷ here.more) k no_term) (sym here.long) ∙ get_or-append_seam front (shape_term tv s) here.more no_term in
    let arg = argument_of tv s u (subst (λ x. Contains (arguments_of x) u) is a) in
    let within : IsIn tv arg.0 = All-contains (λ id. IsIn tv id) s.arguments arg.0 here.fits.arguments arg.1 in
    subst (λ l. Contains l u) (sym same) (subst (Contains front) arg.2 (term_there tv arg.0 within))
