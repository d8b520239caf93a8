-- Controls against ways and calls.
use Rattle.std.proofs.Common.{◌≡◌, ℕ, ℤ, Bool, true, false, cond, Option, Some, None, Result, Ok, Err, option_and_then}
use Rattle.std.proofs.Common.{[], ◌∷◌, refl, ap}
use Rattle.elf32_image.specs.Parts.{ImageValue}
use Rattle.elf32_image.specs.Bytes.{is_code, word_at}
use Rattle.arm_isa.specs.declared.instruction.Insn.{Insn}
use Rattle.arm_isa.specs.Conditions.{is_always}
use Rattle.arm_isa.specs.Decoding.{decoding}
use Rattle.arm_isa.specs.Writes.{writes_register, is_return_form}
use Rattle.control_flow.specs.declared.control.Control.{Control}
use Rattle.control_flow.specs.declared.control.Control.TheVariants as control
use Rattle.control_flow.specs.declared.control.Fault.{Fault}
use Rattle.control_flow.specs.declared.control.Fault.TheVariants as fault
use Rattle.control_flow.specs.declared.instructions.FetchFault.{FetchFault}
use Rattle.control_flow.specs.declared.instructions.FetchFault.TheVariants.{NoCode, BadWord}
use Rattle.control_flow.specs.Instructions.{decoded, fetched, instruction_at}
use Rattle.control_flow.specs.Controls.{call_in, calls, control_by, control_in, control_of, fault_by, skipped_to, skipped_way, ways_by}
use Rattle.control_flow.specs.Points.{Jump, Point, call_target, called_by, is_recursion, jump_of, last_return, next_address, target}
use Rattle.control_flow.specs.Routes.{Place, Way}
use Rattle.control_flow.specs.Ways.{done_place, fault_at, fault_in, fault_of, jump_place, next_place, return_place, skipped_ways, ways_from}
use Rattle.control_flow.specs.Ways.{ways_of, ways_to}

none_of : (r w : Bool) (x y z : Control) → call_in x ≡ None → call_in y ≡ None → call_in z ≡ None → call_in (cond r x (cond w y z)) ≡ None
none_of true w x y z e f g = e
none_of false true x y z e f g = f
none_of false false x y z e f g = g

link_of : (l : Bool) (t after : ℕ) (s : Option ℕ) → call_in (cond l (control.Call t after s) (control.Go t s)) ≡ cond l (Some t) None
link_of true t after s = refl
link_of false t after s = refl

call_by : (a : ℕ) (insn : Insn) (jump : Option Jump) → call_in (control_by a insn jump) ≡ call_target a jump
call_by a insn None = none_of (is_return_form insn) (writes_register insn 15) (control.Return (skipped_to a insn))
    (control.Fault fault.Indirect) (control.Go _ (skipped_to a insn)) refl refl refl
call_by a insn (Some jump) = link_of jump.link _ _ (skipped_to a insn)

module _ (image : ImageValue) (a : ℕ) where
  fits : (code : Bool) (found : Option Insn) → (code ≡ false → found ≡ None) → call_in
      (control_in a (cond code (decoded found) (Err NoCode))) ≡ called_by a found
  fits true None outside = refl
  fits true (Some insn) outside = call_by a insn (jump_of insn.op)
  fits false None outside = refl
  fits false (Some insn) outside = let e : ◌≡◌ {A = Option Insn} (Some insn) None = outside refl in absurd (cc)

  outside_none : (code : Bool) (found : Option Insn) → code ≡ false → cond code found None ≡ None
  outside_none true found e = absurd (cc)
  outside_none false found e = refl

  pub calls_fit : call_in (control_of image a) ≡ called_by a (instruction_at image a)
  calls_fit = fits (is_code image a) (instruction_at image a) (outside_none (is_code image a) (option_and_then decoding (word_at image a)))

module _ (image : ImageValue) (entry : ℕ) (p : Point) where
  abbrev Same : Control → Insn → Result (Place Point) Fault → Type 0
  Same control insn place = (ways_by (calls image) entry p.returns control ≡ ways_to p insn place) ×
      (fault_by (calls image) entry p.returns control ≡ fault_in place)

  skip_ways : (always : Bool) (w : Way Point) → skipped_way p.returns (cond always None (Some (next_address p.address))) ≡ cond always []
      (record { done = false; to = next_place p } ∷ [])
  skip_ways true w = refl
  skip_ways false w = refl

  skips : (insn : Insn) → skipped_way p.returns (skipped_to p.address insn) ≡ skipped_ways p insn
  skips insn = skip_ways (is_always insn.condition) (record { done = false; to = next_place p })

  onward : (insn : Insn) (place : Place Point) → record { done = true; to = place } ∷ skipped_way p.returns (skipped_to p.address insn)
      ≡ ways_to p insn (Ok place)
  onward insn place = ap (λ ws. record { done = true; to = place } ∷ ws) (skips insn)

  called : (insn : Insn) (recurs : Bool) (place : Place Point)
      → (cond recurs [] (record { done = true; to = place } ∷ skipped_way p.returns (skipped_to p.address insn)) ≡ ways_to p insn
      (cond recurs (Err fault.Recursive) (Ok place)))
      × (cond recurs (Some fault.Recursive) None ≡ fault_in (cond recurs (Err fault.Recursive) (Ok place)))
  called insn true place = (refl, refl)
  called insn false place = (onward insn place, refl)

  jumps : (insn : Insn) (link : Bool) (words : ℤ) → Same (control_by p.address insn (Some (record { link = link; words = words }))) insn
      (done_place image entry p insn (Some (record { link = link; words = words })))
  jumps insn true words = called insn (is_recursion image entry p.returns (target p.address words))
      (jump_place p (record { link = true; words = words }))
  jumps insn false words = (onward insn (jump_place p (record { link = false; words = words })), refl)

  others : (insn : Insn) (returns writes : Bool)
      → Same (cond returns (control.Return (skipped_to p.address insn))
      (cond writes (control.Fault fault.Indirect) (control.Go (next_address p.address) (skipped_to p.address insn)))) insn
      (cond returns (Ok (return_place (last_return p.returns) p.returns)) (cond writes (Err fault.Indirect) (Ok (next_place p))))
  others insn true writes = (onward insn (return_place (last_return p.returns) p.returns), refl)
  others insn false true = (refl, refl)
  others insn false false = (onward insn (next_place p), refl)

  by_jump : (insn : Insn) (jump : Option Jump) → Same (control_by p.address insn jump) insn (done_place image entry p insn jump)
  by_jump insn None = others insn (is_return_form insn) (writes_register insn 15)
  by_jump insn (Some jump) = jumps insn jump.link jump.words

  pub control_ways : (code : Bool) (found : Option Insn) → (code ≡ false → found ≡ None)
      → ways_by (calls image) entry p.returns (control_in p.address (cond code (decoded found) (Err NoCode))) ≡ ways_of image entry p found
  control_ways true None outside = refl
  control_ways true (Some insn) outside = (by_jump insn (jump_of insn.op)).0
  control_ways false None outside = refl
  control_ways false (Some insn) outside = let e : ◌≡◌ {A = Option Insn} (Some insn) None = outside refl in absurd (cc)

  pub control_faults : (found : Result Insn FetchFault) → fault_by (calls image) entry p.returns (control_in p.address found)
      ≡ fault_of image entry p found
  control_faults (Err NoCode) = refl
  control_faults (Err BadWord) = refl
  control_faults (Ok insn) = (by_jump insn (jump_of insn.op)).1

  none_outside : (code : Bool) (found : Option Insn) → code ≡ false → cond code found None ≡ None
  none_outside true found e = absurd (cc)
  none_outside false found e = refl

  pub ways_fit : ways_by (calls image) entry p.returns (control_of image p.address) ≡ ways_from image entry p
  ways_fit = control_ways (is_code image p.address) (instruction_at image p.address)
      (none_outside (is_code image p.address) (option_and_then decoding (word_at image p.address)))

  pub faults_fit : fault_by (calls image) entry p.returns (control_of image p.address) ≡ fault_at image entry p
  faults_fit = control_faults (fetched image p.address)
