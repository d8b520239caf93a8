-- The refusals: their numbers and their lines.
use Rattle.std.specs.Prelude.{◌≡◌, ℕ, ◌++◌, List, codes}
use Rattle.std.specs.Fmt.{decimal, signed_decimal}
use Rattle.arm_cpu.specs.declared.stops.Stop.{Stop}
use Rattle.arm_cpu.specs.declared.stops.Stop.TheVariants as stop
use Rattle.input_files.specs.declared.reading.InputRefusal.{InputRefusal}
use Rattle.input_files.specs.declared.reading.InputRefusal.TheVariants as input
use Rattle.elf32_image.specs.declared.refusal.ElfRefusal.{ElfRefusal}
use Rattle.elf32_image.specs.declared.refusal.ElfRefusal.TheVariants as elf
use Rattle.elf32_image.specs.declared.refusal.NameRefusal.{NameRefusal}
use Rattle.elf32_image.specs.declared.refusal.NameRefusal.TheVariants as name
use Rattle.flow_graph.specs.declared.graph.GraphRefusal.{GraphRefusal}
use Rattle.flow_graph.specs.declared.graph.GraphRefusal.TheVariants as graph
use Rattle.interval_loops.specs.declared.bodies.LoopRefusal.{LoopRefusal}
use Rattle.interval_loops.specs.declared.bodies.LoopRefusal.TheVariants as loops
use Rattle.copy_facts.specs.declared.following.FrameRefusal.{FrameRefusal}
use Rattle.copy_facts.specs.declared.following.FrameRefusal.TheVariants as frames
use Rattle.wcet_core.specs.declared.refusals.AnalysisRefusal.{AnalysisRefusal}
use Rattle.wcet_core.specs.declared.refusals.AnalysisRefusal.TheVariants as analysis
use Rattle.function_runs.specs.declared.refusals.RunRefusal.{RunRefusal}
use Rattle.function_runs.specs.declared.refusals.RunRefusal.TheVariants as run
use Rattle.report_elements.specs.Elements.{address_text}
use Rattle.wsymb_top.specs.declared.refusals.Refusal.{Refusal}
use Rattle.wsymb_top.specs.declared.refusals.Refusal.TheVariants as refusal

-- ---- numbers

abbrev pub input_status : InputRefusal → ℕ
input_status input.Memory = 1
input_status input.ReadFault = 3
input_status input.TooLong = 5

abbrev pub image_status : ElfRefusal → ℕ
image_status elf.Memory = 1
image_status elf.NotElf32Arm = 10
image_status elf.Truncated = 11
image_status elf.SegmentsOverlap = 12

abbrev pub name_status : NameRefusal → ℕ
name_status name.NoSymbol = 13
name_status name.TwoSymbols = 14
name_status name.ThumbCode = 15

abbrev pub graph_status : GraphRefusal → ℕ
graph_status graph.Memory = 1
graph_status graph.TooLarge = 30
graph_status (graph.UnknownWord address) = 31
graph_status (graph.OutsideCode address) = 32
graph_status (graph.IndirectJump address) = 33
graph_status (graph.Recursion address) = 34
graph_status graph.NoReturn = 35

abbrev pub loops_status : LoopRefusal → ℕ
loops_status loops.Memory = 1
loops_status loops.Irreducible = 36
loops_status loops.TooDeep = 37

abbrev pub frames_status : FrameRefusal → ℕ
frames_status frames.Memory = 1
frames_status (frames.Lost address) = 40
frames_status (frames.Over address offset) = 41
frames_status (frames.Unproved address) = 42

abbrev pub analysis_status : AnalysisRefusal → ℕ
analysis_status analysis.Memory = 1
analysis_status (analysis.Graph why) = graph_status why
analysis_status (analysis.Loops why) = loops_status why
analysis_status (analysis.Frames why) = frames_status why
analysis_status analysis.TreeTooLarge = 50

abbrev pub run_status : RunRefusal → ℕ
run_status run.Memory = 1
run_status run.SpUnaligned = 70
run_status run.SpOutOfRange = 70
run_status run.StackLoaded = 70
run_status run.ReturnLoaded = 70
run_status (run.Stopped stop address) = 71
run_status run.Spent = 72
run_status (run.Halted probe) = 73

abbrev pub status_of : Refusal → ℕ
status_of refusal.Memory = 1
status_of refusal.Usage = 2
status_of (refusal.Input why) = input_status why
status_of (refusal.Image why) = image_status why
status_of (refusal.Name why) = name_status why
status_of refusal.BadTiming = 20
status_of (refusal.Analysis why) = analysis_status why
status_of (refusal.BadReport line) = 60
status_of (refusal.BadValue name) = 61
status_of (refusal.Run why steps) = run_status why

-- memory was refused, in whatever layer
abbrev pub IsMemory : Refusal → Type 0
IsMemory why = status_of why ≡ 1

-- ---- lines

abbrev pub memory_line : List ℕ
memory_line = codes "refused 1 memory\n"

abbrev pub input_line : InputRefusal → List ℕ
input_line input.Memory = memory_line
input_line input.ReadFault = codes "refused 3 read fault\n"
input_line input.TooLong = codes "refused 5 file too long\n"

abbrev pub image_line : ElfRefusal → List ℕ
image_line elf.Memory = memory_line
image_line elf.NotElf32Arm = codes "refused 10 not an ELF32 ARM executable\n"
image_line elf.Truncated = codes "refused 11 truncated\n"
image_line elf.SegmentsOverlap = codes "refused 12 segments overlap\n"

abbrev pub name_line : NameRefusal → List ℕ
name_line name.NoSymbol = codes "refused 13 no such function\n"
name_line name.TwoSymbols = codes "refused 14 two such functions\n"
name_line name.ThumbCode = codes "refused 15 Thumb code\n"

abbrev pub graph_line : GraphRefusal → List ℕ
graph_line graph.Memory = memory_line
graph_line graph.TooLarge = codes "refused 30 graph too large\n"
graph_line (graph.UnknownWord a) = codes "refused 31 unknown word at " ++ address_text a ++ codes "\n"
graph_line (graph.OutsideCode a) = codes "refused 32 outside code at " ++ address_text a ++ codes "\n"
graph_line (graph.IndirectJump a) = codes "refused 33 indirect jump at " ++ address_text a ++ codes "\n"
graph_line (graph.Recursion a) = codes "refused 34 recursion at " ++ address_text a ++ codes "\n"
graph_line graph.NoReturn = codes "refused 35 no return\n"

abbrev pub loops_line : LoopRefusal → List ℕ
loops_line loops.Memory = memory_line
loops_line loops.Irreducible = codes "refused 36 irreducible\n"
loops_line loops.TooDeep = codes "refused 37 nested too deep\n"

abbrev pub frames_line : FrameRefusal → List ℕ
frames_line frames.Memory = memory_line
frames_line (frames.Lost a) = codes "refused 40 stack lost at " ++ address_text a ++ codes "\n"
frames_line (frames.Over a offset) =
    codes "refused 41 stack over at " ++ address_text a ++ codes " offset " ++ signed_decimal offset ++ codes "\n"
frames_line (frames.Unproved a) = codes "refused 42 return unproved at " ++ address_text a ++ codes "\n"

abbrev pub analysis_line : AnalysisRefusal → List ℕ
analysis_line analysis.Memory = memory_line
analysis_line (analysis.Graph why) = graph_line why
analysis_line (analysis.Loops why) = loops_line why
analysis_line (analysis.Frames why) = frames_line why
analysis_line analysis.TreeTooLarge = codes "refused 50 tree too large\n"

abbrev pub stop_name : Stop → List ℕ
stop_name stop.NoCode = codes "NoCode"
stop_name stop.BadWord = codes "BadWord"
stop_name stop.Unaligned = codes "Unaligned"
stop_name stop.Unmapped = codes "Unmapped"
stop_name stop.ReadOnly = codes "ReadOnly"
stop_name stop.Trespass = codes "Trespass"
stop_name stop.Leaves = codes "Leaves"

-- of a run that was allowed this number of steps
abbrev pub run_line : RunRefusal → ℕ → List ℕ
run_line run.Memory steps = memory_line
run_line run.SpUnaligned steps = codes "refused 70 bad start sp unaligned\n"
run_line run.SpOutOfRange steps = codes "refused 70 bad start sp out of range\n"
run_line run.StackLoaded steps = codes "refused 70 bad start stack loaded\n"
run_line run.ReturnLoaded steps = codes "refused 70 bad start return loaded\n"
run_line (run.Stopped stop a) steps =
    codes "refused 71 stopped " ++ stop_name stop ++ codes " at " ++ address_text a ++ codes "\n"
run_line run.Spent steps = codes "refused 72 spent " ++ decimal steps ++ codes "\n"
run_line (run.Halted probe) steps = codes "refused 73 halted by probe " ++ decimal probe ++ codes "\n"

abbrev pub line_of : Refusal → List ℕ
line_of refusal.Memory = memory_line
line_of refusal.Usage = codes "refused 2 usage\n"
line_of (refusal.Input why) = input_line why
line_of (refusal.Image why) = image_line why
line_of (refusal.Name why) = name_line why
line_of refusal.BadTiming = codes "refused 20 bad timing file\n"
line_of (refusal.Analysis why) = analysis_line why
line_of (refusal.BadReport line) = codes "refused 60 bad report at line " ++ decimal line ++ codes "\n"
line_of (refusal.BadValue name) = codes "refused 61 bad value " ++ name ++ codes "\n"
line_of (refusal.Run why steps) = run_line why steps
