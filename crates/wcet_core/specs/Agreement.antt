-- That a function has one report, or refusals of one kind.
use Rattle.std.specs.Prelude.{◌≡◌}
use Rattle.copy_facts.specs.declared.following.FrameRefusal.{FrameRefusal}
use Rattle.copy_facts.specs.declared.following.FrameRefusal.TheVariants as frames
use Rattle.wcet_core.specs.declared.refusals.AnalysisRefusal.{AnalysisRefusal}
use Rattle.wcet_core.specs.declared.refusals.AnalysisRefusal.TheVariants.{Memory, Graph, Loops, Frames, TreeTooLarge}

-- of one kind; only where the stack is lost more than one address may be named
abbrev pub AreOneFrameRefusal : FrameRefusal → FrameRefusal → Type 0
AreOneFrameRefusal (frames.Lost a) (frames.Lost b) = Unit {0}
AreOneFrameRefusal (frames.Over a o) (frames.Over b p) = Unit {0}
AreOneFrameRefusal (frames.Unproved a) (frames.Unproved b) = Unit {0}
AreOneFrameRefusal why other = ⊥

-- the same refusal of the graph, the loops or the tree, or one of the same kind of the stack's use
abbrev pub AreOneRefusal : AnalysisRefusal → AnalysisRefusal → Type 0
AreOneRefusal (Graph why) (Graph other) = why ≡ other
AreOneRefusal (Loops why) (Loops other) = why ≡ other
AreOneRefusal (Frames why) (Frames other) = AreOneFrameRefusal why other
AreOneRefusal TreeTooLarge TreeTooLarge = Unit {0}
AreOneRefusal why other = ⊥
