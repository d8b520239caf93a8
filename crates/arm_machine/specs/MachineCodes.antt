-- A code for the values of machines, by which proofs keep them apart.
use Rattle.std.specs.Prelude.{ℕ, List, refl}
use Rattle.std.specs.Coded.{Coded, code_by, coded×, coded_ℕ, coded_list}
use Rattle.std.specs.FinMap as map
use Rattle.elf32_image.specs.Parts.{ImageValue}
use Rattle.elf32_image.specs.contracts.image.Image as image
use Rattle.fetch_timing.specs.declared.timing.Timing.{Timing}
use Rattle.fetch_timing.specs.contracts.timing.Timing as timing
use Rattle.arm_cpu.specs.declared.cpu.Cpu.{Cpu}
use Rattle.arm_cpu.specs.contracts.cpu.Cpu as cpu
use Rattle.arm_machine.specs.States.{Bytes}
use Rattle.arm_machine.specs.Machines.{MachineValue}

-- a machine's parts, one by one
abbrev pub MachineParts : Type 0
MachineParts = (ImageValue × Timing) × ((Cpu × Bytes) × (List ℕ × List (List ℕ)))

abbrev pub parts_of : MachineValue → MachineParts
parts_of m = ((m.image, m.timing), ((m.state.cpu, m.state.memory), (m.state.kept, m.state.sets)))

abbrev pub machine_of : MachineParts → MachineValue
machine_of p = record {
  image = p.0.0;
  timing = p.0.1;
  state = record { cpu = p.1.0.0; memory = p.1.0.1; kept = p.1.1.0; sets = p.1.1.1 };
}

abbrev pub machine_code : Coded MachineValue
machine_code =
    code_by MachineParts
    (coded× (coded× image.the_row.coded timing.the_row.coded)
    (coded× (coded× cpu.the_row.coded (map.code coded_ℕ coded_ℕ)) (coded× (coded_list coded_ℕ) (coded_list (coded_list coded_ℕ)))))
    parts_of machine_of (λ _. refl)
