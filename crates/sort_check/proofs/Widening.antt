-- Scopes that have more functions.
use Rattle.std.proofs.Common.{◌≡◌, [], ◌∷◌, ◌++◌, refl, sym, ap, ◌∙◌, append_assoc, append-nil}
use Rattle.spec_text.specs.Bytes.{Name}
use Rattle.term_reader.specs.declared.scope.Function.{Function}
use Rattle.term_reader.specs.Scopes.{ScopeView, Widens}
use Rattle.term_reader.proofs.Tables.{keeps_same, keeps_along}
use Rattle.sort_check.specs.Reads.{Store, StoreGrows}

pub widens_same : (v : ScopeView) → Widens v v
widens_same v = record { sort_names = refl; sorts = refl; more_names = []; names = sym (append-nil v.names); more_functions = []; functions = sym (append-nil v.functions) }

pub widens_is : (v u : ScopeView) → u ≡ v → Widens v u
widens_is v u e = record { sort_names = ap (λ (x : ScopeView). x.sort_names) e; sorts = ap (λ (x : ScopeView). x.sorts) e; more_names = []; names = ap (λ (x : ScopeView). x.names) e ∙ sym (append-nil v.names); more_functions = []; functions = ap (λ (x : ScopeView). x.functions) e ∙ sym (append-nil v.functions) }

pub widens_push : (v u : ScopeView) (n : Name) (f : Function) → u ≡ record v { names = v.names ++ n ∷ []; functions = v.functions ++ f ∷ [] } → Widens v u
widens_push v u n f e = record { sort_names = ap (λ (x : ScopeView). x.sort_names) e; sorts = ap (λ (x : ScopeView). x.sorts) e; more_names = n ∷ []; names = ap (λ (x : ScopeView). x.names) e; more_functions = f ∷ []; functions = ap (λ (x : ScopeView). x.functions) e }

pub widens_along : (v u x : ScopeView) → Widens v u → Widens u x → Widens v x
widens_along v u x h k = record {
  sort_names = k.sort_names ∙ h.sort_names;
  sorts = k.sorts ∙ h.sorts;
  more_names = h.more_names ++ k.more_names;
  names = k.names ∙ ap (λ ns. ns ++ k.more_names) h.names ∙ append_assoc v.names h.more_names k.more_names;
  more_functions = h.more_functions ++ k.more_functions;
  functions = k.functions ∙ ap (λ fs. fs ++ k.more_functions) h.functions ∙ append_assoc v.functions h.more_functions k.more_functions;
}

pub grows_along : (a b c : Store) → StoreGrows a b → StoreGrows b c → StoreGrows a c
grows_along a b c h k = record { keeps = keeps_along a.table b.table c.table h.keeps k.keeps; widens = widens_along a.scope b.scope c.scope h.widens k.widens }

pub grows_same : (a : Store) → StoreGrows a a
grows_same a = record { keeps = keeps_same a.table; widens = widens_same a.scope }
