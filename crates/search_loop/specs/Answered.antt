-- Which terms the search decides.
use Rattle.std.specs.Prelude.{List, All}
use Rattle.spec_sorts.specs.Terms.{Term}
use Rattle.spec_arithmetic.specs.Numbers.{IsLinear}

-- the search decides these terms: products and quotients in them are linear
abbrev pub AreAnswered : List Term → Type 0
AreAnswered ts = All IsLinear ts
