-- A walk from its beginning to its end.
use Rattle.std.proofs.Common.{◌≡◌, List, [], ◌∷◌, ◌++◌, map, refl, ap, sym, ◌∙◌, subst}
use Rattle.std.proofs.lemmas.List.{append_cancel_left}
use Rattle.std.proofs.lemmas.List.Elements.{All-nil}
use Rattle.spec_text.specs.Trees.{Trees, none}
use Rattle.spec_sorts.specs.Signatures.{Definition, Signature, definition, with_definitions}
use Rattle.spec_reading.specs.Names.{Setting}
use Rattle.spec_reading.specs.Reading.{readings}
use Rattle.term_core.specs.Tables.{TableView, IsIn, AreIn}
use Rattle.term_reader.specs.Scopes.{ScopeView, ScopeMeans}
use Rattle.sort_check.specs.Bindings.{BindingsView, bound_at}
use Rattle.sort_check.specs.Reads.{store}
use Rattle.sort_check.specs.Rows.{HasRow}
use Rattle.sort_check.specs.Walks.{Base, readings_in, RowProgress, IsRow, Level, Here, started, AllMean, terms_of_definitions, IsWalk, Chain}
use Rattle.sort_check.proofs.Rows.{with_no, row_start, row_end}

-- the outermost row
abbrev pub root_of : TableView → Signature → BindingsView → Trees → Level
root_of t s b texts = record { base = record { signature = s; bound = bound_at t b; texts = texts }; below = []; waiting = [] }

pub walk_starts : (w : Setting) (t : TableView) (v : ScopeView) (s : Signature) (b : BindingsView) (texts : Trees) → ScopeMeans t v s → AreIn t b.terms → IsWalk w (root_of t s b texts) (started t v b texts)
walk_starts w t v s b texts h there = record {
  inner = root_of t s b texts;
  made = [];
  done = [];
  row = row_start w (record { signature = s; bound = bound_at t b; texts = texts });
  chain = refl;
  values = (All-nil (λ i. IsIn t i), refl);
  represents = subst (ScopeMeans t v) (sym (with_no s)) h;
  bound_there = there;
  bound = refl;
  waiting_there = All-nil (λ i. IsIn t i);
  waiting = refl;
  total = [];
  known = refl;
  named = (All-nil (λ i. IsIn t i), refl);
}

-- definitions are distinguished from their declarations
same_definitions : (ds es : List Definition) → map definition ds ≡ map definition es → ds ≡ es
same_definitions [] [] e = refl
same_definitions [] (x ∷ es) e = cc
same_definitions (d ∷ ds) [] e = cc
same_definitions (d ∷ ds) (x ∷ es) e =
    let head : definition d ≡ definition x = cc in
    let tail : map definition ds ≡ map definition es = cc in
    (λ i. one d x head i ∷ same_definitions ds es tail i)
  where
    one : (d x : Definition) → definition d ≡ definition x → d ≡ x
    one d x e = cc

pub walk_ends : (w : Setting) (t : TableView) (s : Signature) (b : BindingsView) (texts : Trees) (h : Here) → IsWalk w (root_of t s b texts) h → h.frames ≡ [] → h.rest ≡ none
    → HasRow s (store h.table h.scope) (readings w s (bound_at t b) texts) (h.values, h.named)
walk_ends w t s b texts h k closed end =
    let inner : k.inner ≡ root_of t s b texts = subst (λ fs. Chain w (root_of t s b texts) fs k.inner) closed k.chain in
    let base : k.inner.base ≡ (root_of t s b texts).base = ap (λ (x : Level). x.base) inner in
    let row : RowProgress = record { base = k.inner.base; made = k.made; done = k.done } in
    let read = row_end w row (subst (IsRow w row) end k.row) in
    let made : k.total ≡ k.made = same_definitions k.total k.made (append_cancel_left s (map definition k.total) (map definition k.made) (sym k.known ∙ ap (λ (x : Base). with_definitions x.signature k.made) base)) in
    record {
      readings = record { made = k.made; terms = k.done };
      read = ap (readings_in w) (sym base) ∙ read;
      terms = subst (AllMean h.table h.values) (ap (λ (x : Level). x.below ++ k.done) inner) k.values;
      represents = subst (ScopeMeans h.table h.scope) (ap (λ (x : Base). with_definitions x.signature k.made) base) k.represents;
      named = subst (λ ds. AllMean h.table h.named (terms_of_definitions ds)) made k.named;
    }
