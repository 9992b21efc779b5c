-- Commands in one list, as examples have them.
use Rattle.std.specs.Prelude.{◌≡◌, refl, ℕ, true, List, [], ◌∷◌, ◌++◌}
use Rattle.std.proofs.Common.{inl}
use Rattle.spec_text.specs.Lexemes.{Lexeme, opens, closes}
use Rattle.spec_text.specs.Trees.{Trees, spelled_all}
use Rattle.spec_proofs.specs.Texts.{complete, AreCommands}

-- commands in one list, after which nothing comes
pub in_one_list : (end at close : ℕ) (xs : List (ℕ × Lexeme)) (ts : Trees) → xs ≡ (at, opens) ∷ spelled_all ts
    ++ (close, closes) ∷ [] → AreCommands true end xs ts complete
in_one_list end at close xs ts e = (
  at,
  spelled_all ts ++ (close, closes) ∷ [],
  (close, closes) ∷ [],
  e,
  refl,
  inl
      (close, [], refl, refl),
)
