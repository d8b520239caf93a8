-- Faults and ways of a point, histories and walks.
use Rattle.std.proofs.Common.{◌≡◌, ℕ, zero, suc, Bool, true, false, cond, Option, Some, None, Result, Ok, Err, option_and_then}
use Rattle.std.proofs.Common.{List, [], ◌∷◌, refl, sym}
use Rattle.elf32_image.specs.Parts.{ImageValue}
use Rattle.elf32_image.specs.Bytes.{is_code, word_at}
use Rattle.arm_isa.specs.declared.instruction.Insn.{Insn}
use Rattle.arm_isa.specs.Decoding.{decoding}
use Rattle.control_flow.specs.declared.control.Fault.{Fault}
use Rattle.control_flow.specs.declared.instructions.FetchFault.TheVariants.{NoCode}
use Rattle.control_flow.specs.Instructions.{decoded, instruction_at}
use Rattle.control_flow.specs.Points.{Point, jump_of}
use Rattle.control_flow.specs.Routes.{Goes, IsHistory, IsReached, Place, Taken, Way}
use Rattle.control_flow.specs.Ways.{done_place, fault_in, fault_of, ways_of, ways_to}
use Rattle.graph_search.specs.Walks.{Walk}

no_ways : (p : Point) (insn : Insn) (place : Result (Place Point) Fault) → ways_to p insn place ≡ [] → fault_in place ≡ None → ⊥
no_ways p insn (Ok place) none clear = cc
no_ways p insn (Err fault) none clear = cc

no_faults : (p : Point) (insn : Insn) (place : Result (Place Point) Fault) → (fault_in place ≡ None → ⊥) → ways_to p insn place ≡ []
no_faults p insn (Ok place) some = absurd (some refl)
no_faults p insn (Err fault) some = refl

module _ (image : ImageValue) (entry : ℕ) (p : Point) where
  abbrev Fits : Bool → Option Insn → Type 0
  Fits code found =
      (ways_of image entry p found ≡ [] → fault_of image entry p (cond code (decoded found) (Err NoCode)) ≡ None → ⊥)
      × ((fault_of image entry p (cond code (decoded found) (Err NoCode)) ≡ None → ⊥) → ways_of image entry p found ≡ [])

  fits : (code : Bool) (found : Option Insn) → (code ≡ false → found ≡ None) → Fits code found
  fits true None outside = ((λ none clear. cc), λ some. refl)
  fits true (Some insn) outside =
      (no_ways p insn (done_place image entry p insn (jump_of insn.op)), no_faults p insn (done_place image entry p insn (jump_of insn.op)))
  fits false None outside = ((λ none clear. cc), λ some. refl)
  fits false (Some insn) outside = let e : ◌≡◌ {A = Option Insn} (Some insn) None = outside refl in absurd (cc)

  outside_none : (code : Bool) (found : Option Insn) → code ≡ false → cond code found None ≡ None
  outside_none true found e = absurd (cc)
  outside_none false found e = refl

  pub faults_fit : Fits (is_code image p.address) (instruction_at image p.address)
  faults_fit =
      fits (is_code image p.address) (instruction_at image p.address)
      (outside_none (is_code image p.address) (option_and_then decoding (word_at image p.address)))

module _ (ways : Point → List (Way Point)) (first : Point) where
  pub walk_history : (n : ℕ) (p : Point) → Walk (Goes ways) first p n → (h : List (Taken Point)) × IsHistory ways first h p
  walk_history zero p w = ([], sym w)
  walk_history (suc n) p w =
      let before = walk_history n w.0 w.1 in
      (record { point = w.0; done = w.2.0 } ∷ before.0, (before.1, w.2.1))

  pub history_walk : (h : List (Taken Point)) (p : Point) → IsHistory ways first h p → IsReached ways first p
  history_walk [] p is = (0, sym is)
  history_walk (x ∷ h) p is =
      let before = history_walk h x.point is.0 in
      (suc before.0, (x.point, before.1, (x.done, is.1)))
