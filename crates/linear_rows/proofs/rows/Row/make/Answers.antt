use Rattle.std.proofs.Common.{rules, ◌≡◌, IfOk}
use Rattle.linear_rows.specs.NormalForm.{row_of}
use Rattle.linear_rows.proofs.Making.{made_holds}
use Rattle.linear_rows.proofs.rows.Row.make.Goals as goal

pub returns-clause-holds : goal.returns-clause-holds
returns-clause-holds c =
    let exact : IfOk c.lowest.result (λ row. row ≡ row_of c.args.form.now) = search rules in
    made_holds c.args.form.now c.lowest.result c.requires exact
