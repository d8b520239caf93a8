use Rattle.std.proofs.Common.{◌∙◌, ap}
use Rattle.std.proofs.lemmas.Result.{err_from_is_err_and}
use Rattle.elf32_image.specs.Names.{values_of}
use Rattle.elf32_image.specs.Sections.{functions_of, section_headers}
use Rattle.elf32_image.proofs.Finding.{answered, answered_one}
use Rattle.elf32_image.proofs.naming.value_of.Goals as goal

pub returns-in_err-find_in_sections : goal.returns-in_err-find_in_sections
returns-in_err-find_in_sections c =
    let exit = err_from_is_err_and c.from_residual.result c.from_residual.ensures.1 in
    rw (exit.1, exit.2)
    (ap answered c.in_err-find_in_sections.ensures
    ∙ answered_one (values_of c.args.name.now (functions_of c.args.file.now (section_headers c.args.count c.args.table.now))))

pub returns : goal.returns
returns c =
    c.settle.ensures ∙ ap answered c.in_ok-find_in_sections.ensures
    ∙ answered_one (values_of c.args.name.now (functions_of c.args.file.now (section_headers c.args.count c.args.table.now)))
