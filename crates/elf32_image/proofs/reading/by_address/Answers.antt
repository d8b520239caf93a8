use Rattle.std.proofs.Common.{rules}
use Rattle.std.proofs.lemmas.List.Sorted.{IsNonDecreasingBy-from_sort_by_key}
use Rattle.elf32_image.specs.declared.format.ProgramHeader.{ProgramHeader}
use Rattle.elf32_image.proofs.reading.by_address.Goals as goal

pub returns-clause-rises : goal.returns-clause-rises
returns-clause-rises c = IsNonDecreasingBy-from_sort_by_key (λ (h : ProgramHeader). h.p_vaddr) _ c.sort_unstable_by_key.ensures.sorted (λ a r q k. search rules)
