use Rattle.linear_rows.proofs.Normal.{row_of_row}
use Rattle.linear_rows.proofs.laws.rows_are_their_own_normal_form.Goals as goal

pub returns : goal.returns
returns c = row_of_row
