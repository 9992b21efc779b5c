-- A table and a scope that are cut back.
use Rattle.std.proofs.Common.{◌≡◌, ℕ, length, take, refl, ap, sym, ◌∙◌, subst, arith}
use Rattle.std.proofs.lemmas.List.{take_at, take_all}
use Rattle.term_core.specs.Tables.{TableView, declared_in}
use Rattle.term_reader.specs.Building.{KeepsTable}
use Rattle.term_reader.specs.Scopes.{ScopeView, Widens}
use Rattle.term_reader.proofs.Tables.{keeps_same}
use Rattle.sort_check.specs.Reads.{Store, StoreGrows, IsSame}
use Rattle.sort_check.proofs.Widening.{widens_is}

table_restored : (old mid new : TableView) → KeepsTable old mid → new.terms ≡ take (length old.terms) mid.terms → declared_in new ≡ declared_in mid → new ≡ old
table_restored old mid new keeps terms same =
    let declared = same ∙ keeps.declared in
    let cut : new.terms ≡ old.terms = terms ∙ ap (take (length old.terms)) keeps.extends.terms ∙ take_at old.terms keeps.extends.more_terms (length old.terms) refl in
    λ i. (let x : TableView = record { sorts = (ap (λ d. d.sorts) declared) i; symbols = (ap (λ d. d.symbols) declared) i; terms = cut i } in x)

-- what is left of a scope after so many names
abbrev pub cut_scope : ScopeView → ℕ → ℕ → ScopeView
cut_scope v sorts names = record { sort_names = take sorts v.sort_names; sorts = take sorts v.sorts; names = take names v.names; functions = take names v.functions }

scope_restored : (old mid new : ScopeView) → Widens old mid → length old.sort_names ≡ length old.sorts → length old.names ≡ length old.functions → new ≡ cut_scope mid (length old.sort_names) (length old.names) → new ≡ old
scope_restored old mid new widens sorts functions is =
    let a : take (length old.sort_names) mid.sort_names ≡ old.sort_names = ap (take (length old.sort_names)) widens.sort_names ∙ take_all (length old.sort_names) old.sort_names (omega arith) in
    let b : take (length old.sort_names) mid.sorts ≡ old.sorts = ap (take (length old.sort_names)) widens.sorts ∙ take_all (length old.sort_names) old.sorts (omega (arith, sorts)) in
    let c : take (length old.names) mid.names ≡ old.names = ap (take (length old.names)) widens.names ∙ take_at old.names widens.more_names (length old.names) refl in
    let d : take (length old.names) mid.functions ≡ old.functions = ap (take (length old.names)) widens.functions ∙ take_at old.functions widens.more_functions (length old.names) (sym functions) in
    is ∙ (λ i. (let x : ScopeView = record { sort_names = a i; sorts = b i; names = c i; functions = d i } in x))

pub restored : (old mid new : Store) (terms sorts names : ℕ) → StoreGrows old mid → length old.scope.sort_names ≡ length old.scope.sorts → length old.scope.names ≡ length old.scope.functions
    → terms ≡ length old.table.terms → sorts ≡ length old.scope.sort_names → names ≡ length old.scope.names
    → new.table.terms ≡ take terms mid.table.terms → declared_in new.table ≡ declared_in mid.table → new.scope ≡ cut_scope mid.scope sorts names → IsSame old new
restored old mid new terms sorts names h each also terms_is sorts_is names_is cut same back = record {
  table = table_restored old.table mid.table new.table h.keeps (cut ∙ ap (λ n. take n mid.table.terms) terms_is) same;
  scope = scope_restored old.scope mid.scope new.scope h.widens each also (back ∙ (λ i. cut_scope mid.scope (sorts_is i) (names_is i)));
}

-- what is the same has grown by nothing
pub same_grows : (old new : Store) → IsSame old new → StoreGrows old new
same_grows old new h = record { keeps = subst (KeepsTable old.table) (sym h.table) (keeps_same old.table); widens = widens_is old.scope new.scope h.scope }
