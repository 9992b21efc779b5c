-- Responses as they are written.
use Rattle.std.specs.Prelude.{◌≡◌, refl, codes, pos, negsuc}
use Rattle.std.specs.Fmt.{digits}
use Rattle.spec_models.specs.declared.ResponseWord.TheVariants.{Success, Sat}
use Rattle.spec_numbers.specs.declared.Op.TheVariants.{Sub, Mul, Div}
use Rattle.spec_models.specs.Values.{numeral}
use Rattle.spec_models.specs.Replies.{error_text, word_line, conflicts, overflow, reason_line, reason_info}

-- an error's line
pub error : error_text 12 1 (codes "BadShape") ≡ codes "(error \"12:1: BadShape\")\n"
unfolding digits
error = refl

-- the line of a command that was performed
pub success : word_line Success ≡ codes "success\n"
success = refl

-- and that of a check
pub sat : word_line Sat ≡ codes "sat\n"
sat = refl

-- a reason on a line of its own
pub reason : reason_line (conflicts 10) ≡ codes "(conflicts 10)\n"
unfolding digits numeral
reason = refl

-- and under its keyword
pub reason_unknown : reason_info (conflicts 1) ≡ codes "(:reason-unknown (conflicts 1))\n"
unfolding digits numeral
reason_unknown = refl

-- an operation that leaves the bound, on a whole number and a quotient
pub product : reason_line (overflow (record {
  op = Mul;
  left = record { num = pos 100; den = 1 };
  right = record { num = pos 1; den = 3 };
})) ≡ codes "(overflow mul 100 (/ 1 3))\n"
unfolding numeral
product = refl

-- on numbers below 0
pub quotient : reason_line (overflow (record {
  op = Div;
  left = record { num = negsuc 4; den = 1 };
  right = record { num = negsuc 0; den = 3 };
})) ≡ codes "(overflow div (- 5) (/ (- 1) 3))\n"
unfolding numeral
quotient = refl

-- and under its keyword
pub overflow_unknown : reason_info (overflow (record {
  op = Sub;
  left = record { num = pos 0; den = 1 };
  right = record { num = pos 2; den = 1 };
})) ≡ codes "(:reason-unknown (overflow sub 0 2))\n"
unfolding numeral
overflow_unknown = refl
