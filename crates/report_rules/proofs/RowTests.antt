-- The test of a row holds of every row.
use Rattle.std.proofs.Common.{ℕ, ◌≡◌, ◌&&◌, ◌==◌, true, arith}
use Rattle.std.proofs.lemmas.Bool.Decides.{nat_tests}
use Rattle.linear_rows.specs.Rows.{Inequality}
use Rattle.linear_rows.specs.NormalForm.{divisor_of, IsRow}
use Rattle.report_lines.proofs.CollectedLaws.{collected_true}
use Rattle.report_rules.specs.Following.{is_row}

pub row_tested : (r : Inequality) → IsRow r.terms r.constant → is_row r ≡ true
row_tested r is =
    λ i. collected_true r.terms (record { ascending = is.ascending; nonzero = is.nonzero }) i
    && ones (divisor_of r.terms) is.lowest i && is.terms_within i && is.constant_within i
  where
    ones : (n : ℕ) → n ≡ 1 → (n == 1) ≡ true
    ones n e = grind (arith, nat_tests)
