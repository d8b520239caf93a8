-- The facts of a small function, worked out by the definitions, and that it meets the premises under which runs are routes.
use Rattle.std.proofs.Common.{◌≡◌, ℕ, zero, suc, ◌<◌, ℤ, pos, neg_ℤ, Bool, true, false, Contains, Option, Some, None, List, [], ◌∷◌}
use Rattle.std.proofs.Common.{inr, refl, sym, ◌∙◌, subst, arith}
use Rattle.std.proofs.lemmas.Bool.{false≢true}
use Rattle.std.proofs.lemmas.Int.{ints}
use Rattle.elf32_image.specs.Parts.{ImageValue}
use Rattle.arm_isa.specs.declared.conditions.Condition.TheVariants.{Al}
use Rattle.arm_isa.specs.declared.instruction.Insn.{Insn}
use Rattle.arm_isa.specs.declared.instruction.Op.{Op}
use Rattle.arm_isa.specs.declared.instruction.Op.TheVariants as op
use Rattle.arm_isa.specs.declared.instruction.Index.TheVariants.{BeforeBack}
use Rattle.arm_isa.specs.declared.instruction.Offset.TheVariants.{Value as Bytes}
use Rattle.arm_isa.specs.declared.instruction.Operand.TheVariants.{Value as Constant}
use Rattle.arm_isa.specs.declared.opcodes.Opcode.TheVariants.{Add}
use Rattle.arm_isa.specs.Writes.{is_return_form}
use Rattle.control_flow.specs.Instructions.{instruction_at}
use Rattle.control_flow.specs.Points.{Point, entry_point, last_return}
use Rattle.control_flow.specs.Routes.{Place, Taken, Way}
use Rattle.control_flow.specs.Routes.Place.{At, Exit}
use Rattle.control_flow.specs.Ways.{fault_at, ways_from}
use Rattle.control_flow.proofs.WayLemmas.{walk_history}
use Rattle.arm_machine.specs.Blocks.{registers_of}
use Rattle.path_facts.specs.Example.{example_image}
use Rattle.path_facts.specs.Facts.{Fact}
use Rattle.path_facts.specs.declared.origin.Origin.{Origin}
use Rattle.path_facts.specs.Facts.Location.{Register, StackWord}
use Rattle.path_facts.specs.declared.origin.Origin.TheVariants.{Zero, AtStart}
use Rattle.path_facts.specs.Histories.{IsFollowed, IsHistoryOf, facts_of, returned_fact, wanted_fact}
use Rattle.path_facts.specs.StackUse.{IsReturnUnproved, IsStackLost, IsStackOver}

abbrev pub done_at : List ℕ → ℕ → Taken Point
done_at returns a = record { point = record { returns = returns; address = a }; done = true }

abbrev pushed : List (Taken Point)
pushed = done_at [] 0x8000 ∷ []

abbrev called : List (Taken Point)
called = done_at [] 0x8004 ∷ pushed

abbrev inner : List (Taken Point)
inner = done_at (0x8008 ∷ []) 0x800C ∷ called

abbrev back : List (Taken Point)
back = done_at (0x8008 ∷ []) 0x8010 ∷ inner

-- after the push r13 is 8 lower, and both words have their registers and are marked
lower : (facts_of example_image 4096 pushed).fact (Register 13) ≡ Some (record { origin = AtStart 13; constant = neg_ℤ (pos 8) })
unfolding registers_of lib.Count.ones
lower = refl

saved_link : (facts_of example_image 4096 pushed).fact (StackWord 1) ≡ Some (record { origin = AtStart 14; constant = pos 0 })
unfolding registers_of lib.Count.ones
saved_link = refl

saved_register : (facts_of example_image 4096 pushed).fact (StackWord 2) ≡ Some (record { origin = AtStart 4; constant = pos 0 })
unfolding registers_of lib.Count.ones
saved_register = refl

marked : ((facts_of example_image 4096 pushed).marked 1 ≡ true) × ((facts_of example_image 4096 pushed).marked 2 ≡ true)
unfolding registers_of lib.Count.ones
marked = (refl, refl)

-- the called function has its return address in r14, and what it doesn't write is as before
link : (facts_of example_image 4096 called).fact (Register 14) ≡ Some (record { origin = Zero; constant = pos 0x8008 })
unfolding registers_of lib.Count.ones
link = refl

still_saved : (facts_of example_image 4096 back).fact (StackWord 1) ≡ Some (record { origin = AtStart 14; constant = pos 0 })
unfolding registers_of lib.Count.ones
still_saved = refl

added : (facts_of example_image 4096 back).fact (Register 0) ≡ Some (record { origin = AtStart 0; constant = pos 1 })
unfolding registers_of lib.Count.ones
added = refl

-- both returns bring their own return addresses
inner_return : returned_fact (facts_of example_image 4096 inner) (op.Exchange (record { rm = 14 })) ≡ Some (wanted_fact (Some 0x8008))
unfolding registers_of lib.Count.ones
inner_return = refl

abbrev pub pop : Op
pop = op.Block (record { load = true; before = false; up = true; write_back = true; rn = 13; list = 0x8010 })

pop_decodes : instruction_at example_image 0x8008 ≡ Some (record { condition = Al; op = pop })
pop_decodes = refl

outer_return : returned_fact (facts_of example_image 4096 back) pop ≡ Some (wanted_fact None)
unfolding registers_of lib.Count.ones
outer_return = refl

-- without room for the push nothing is known of its words
no_room : (facts_of example_image 4 pushed).fact (StackWord 2) ≡ None
unfolding registers_of lib.Count.ones
no_room = refl

-- the points of the function, and its histories
abbrev pub point_at : List ℕ → ℕ → Point
point_at returns a = record { returns = returns; address = a }

abbrev ways : Point → List (Way Point)
ways = ways_from example_image 0x8000

abbrev pub only : Place Point → List (Way Point)
only to = record { done = true; to = to } ∷ []

way_0 : ways (point_at [] 0x8000) ≡ only (At (point_at [] 0x8004))
way_0 = refl

way_1 : ways (point_at [] 0x8004) ≡ only (At (point_at (0x8008 ∷ []) 0x800C))
way_1 = refl

way_2 : ways (point_at (0x8008 ∷ []) 0x800C) ≡ only (At (point_at (0x8008 ∷ []) 0x8010))
way_2 = refl

way_3 : ways (point_at (0x8008 ∷ []) 0x8010) ≡ only (At (point_at [] 0x8008))
way_3 = refl

way_4 : ways (point_at [] 0x8008) ≡ only Exit
way_4 = refl

-- each history with its point
data IsOne : List (Taken Point) → Point → Type 0 where
  Entry : IsOne [] (point_at [] 0x8000)
  Pushed : IsOne pushed (point_at [] 0x8004)
  Called : IsOne called (point_at (0x8008 ∷ []) 0x800C)
  Inner : IsOne inner (point_at (0x8008 ∷ []) 0x8010)
  Back : IsOne back (point_at [] 0x8008)

one_way : (to : Place Point) (w : Way Point) → Contains (only to) w → w ≡ record { done = true; to = to }
one_way to w (zero, small, is) = sym is
one_way to w (suc k, small, is) = absurd (none k small)
  where
    none : (k : ℕ) → suc k < 1 → ⊥
    none k small = omega (arith, small)

-- a longer history is the next one
longer : (P : List (Taken Point) → Point → Type 0) (h : List (Taken Point)) (from next : Point) (done : Bool) (p : Point)
    → ways from ≡ only (At next) → Contains (ways from) (record { done = done; to = At p })
    → P (record { point = from; done = true } ∷ h) next → P (record { point = from; done = done } ∷ h) p
longer P h from next done p is way so =
    let same = one_way (At next) (record { done = done; to = At p }) (subst (λ (ws : List (Way Point)). Contains ws
    (record { done = done; to = At p })) is way) in
    subst (λ (w : Way Point). At_of w.done w.to) (sym same) so
  where
    At_of : Bool → Place Point → Type 0
    At_of d (At q) = P (record { point = from; done = d } ∷ h) q
    At_of d Exit = Unit {0}

no_more : (done : Bool) (p : Point) → Contains (ways (point_at [] 0x8008)) (record { done = done; to = At p }) → ⊥
no_more done p way =
    let same = one_way Exit (record { done = done; to = At p }) (subst (λ (ws : List (Way Point)). Contains ws
    (record { done = done; to = At p })) way_4 way) in
    subst (λ (w : Way Point). IsExit w.to) (sym same) tt
  where
    IsExit : Place Point → Type 0
    IsExit (At q) = ⊥
    IsExit Exit = Unit {0}

next_one : (h : List (Taken Point)) (from : Point) (done : Bool) (p : Point) → IsOne h from
    → Contains (ways from) (record { done = done; to = At p }) → IsOne (record { point = from; done = done } ∷ h) p
next_one h from done p Entry way = longer IsOne [] (point_at [] 0x8000) (point_at [] 0x8004) done p way_0 way Pushed
next_one h from done p Pushed way =
    longer IsOne pushed (point_at [] 0x8004) (point_at (0x8008 ∷ []) 0x800C) done p way_1 way Called
next_one h from done p Called way =
    longer IsOne called (point_at (0x8008 ∷ []) 0x800C) (point_at (0x8008 ∷ []) 0x8010) done p way_2 way Inner
next_one h from done p Inner way = longer IsOne inner (point_at (0x8008 ∷ []) 0x8010) (point_at [] 0x8008) done p way_3 way Back
next_one h from done p Back way = absurd (no_more done p way)

is_one : (h : List (Taken Point)) (p : Point) → IsHistoryOf example_image 0x8000 h p → IsOne h p
is_one [] p is = subst (IsOne []) (sym is) Entry
is_one (x ∷ h) p is = next_one h x.point x.done p (is_one h x.point is.0) is.1

clear : (h : List (Taken Point)) (p : Point) → IsOne h p → fault_at example_image 0x8000 p ≡ None
clear h p Entry = refl
clear h p Pushed = refl
clear h p Called = refl
clear h p Inner = refl
clear h p Back = refl

insn_same : (a b : Insn) → ◌≡◌ {A = Option Insn} (Some a) (Some b) → a ≡ b
insn_same a b e = cc

-- what is known of an instruction of the function is true of it
at_insn : (a : ℕ) (known insn : Insn) (P : Insn → Type 0) → instruction_at example_image a ≡ Some known
    → instruction_at example_image a ≡ Some insn → P known → P insn
at_insn a known insn P is found h = subst P (insn_same known insn (sym is ∙ found)) h

abbrev Brings : List (Taken Point) → Point → Insn → Type 0
Brings h p insn =
    is_return_form insn ≡ true → returned_fact (facts_of example_image 4096 h) insn.op ≡ Some (wanted_fact (last_return p.returns))

never : {P : Type 0} → false ≡ true → P
never wrong = absurd (false≢true wrong)

abbrev always : Op → Insn
always o = record { condition = Al; op = o }

brings : (h : List (Taken Point)) (p : Point) (insn : Insn) → IsOne h p → instruction_at example_image p.address ≡ Some insn
    → Brings h p insn
brings h p insn Entry found =
    at_insn 0x8000 (always (op.Block (record {
      load = false;
      before = true;
      up = false;
      write_back = true;
      rn = 13;
      list = 0x4010;
    }))) insn (Brings [] (point_at [] 0x8000)) refl found never
brings h p insn Pushed found =
    at_insn 0x8004 (always (op.Branch (record { link = true; words = pos 0 }))) insn (Brings pushed (point_at [] 0x8004)) refl found never
brings h p insn Called found =
    at_insn 0x800C (always (op.Compute (record {
      opcode = Add;
      set_flags = false;
      rn = 0;
      rd = 0;
      operand = Constant 1 false;
    }))) insn (Brings called (point_at (0x8008 ∷ []) 0x800C)) refl found never
brings h p insn Inner found =
    at_insn 0x8010 (always (op.Exchange (record { rm = 14 }))) insn (Brings inner (point_at (0x8008 ∷ []) 0x8010)) refl found
    (λ form. inner_return)
brings h p insn Back found =
    at_insn 0x8008 (always pop) insn (Brings back (point_at [] 0x8008)) refl found (λ form. outer_return)

pub example_followed : IsFollowed example_image 0x8000 4096
example_followed = record {
  no_fault = λ p reached. let history = walk_history ways (entry_point 0x8000) reached.0 p reached.1 in
      clear history.0 p (is_one history.0 p history.1);
  returns = λ h p insn history found. brings h p insn (is_one h p history) found;
}

-- with a stack of 4 bytes the push goes beyond it
over : IsStackOver example_image 0x8000 4 (point_at [] 0x8000) (neg_ℤ (pos 8))
unfolding lib.Count.ones
over = record {
  insn = always (op.Block (record {
    load = false;
    before = true;
    up = false;
    write_back = true;
    rn = 13;
    list = 0x4010;
  }));
  found = refl;
  by_sp = refl;
  history = [];
  leads = refl;
  at = refl;
  beyond = omega (arith, ints);
}

-- MOV r14,#0; BX r14: the return doesn't bring what r14 held at the start
abbrev unproved_image : ImageValue
unproved_image = record {
  segments = record { address = 0x8000; bytes = 0 ∷ 224 ∷ 160 ∷ 227 ∷ 30 ∷ 255 ∷ 47 ∷ 225 ∷ []; size = 8; flags = 5 } ∷ [];
  functions = [];
}

abbrev IsZero : Origin → Type 0
IsZero Zero = Unit {0}
IsZero (AtStart r) = ⊥

abbrev IsOfZero : Option Fact → Type 0
IsOfZero None = Unit {0}
IsOfZero (Some f) = IsZero f.origin

zero_isnt_link : ◌≡◌ {A = Option Fact} (Some (record { origin = Zero; constant = pos 0 })) (Some (record {
  origin = AtStart 14;
  constant = pos 0;
})) → ⊥
zero_isnt_link e = subst IsOfZero e tt

unproved : IsReturnUnproved unproved_image 0x8000 4096 (point_at [] 0x8004)
unproved = record {
  insn = always (op.Exchange (record { rm = 14 }));
  found = refl;
  returns = refl;
  history = done_at [] 0x8000 ∷ [];
  leads = (refl, (0, omega arith, refl));
  other = zero_isnt_link;
}

-- STR r0,[r13,#-4]!; SUBS r1,r1,#1; BNE 8000; BX r14: each turn pushes one word more
abbrev pushing_image : ImageValue
pushing_image = record {
  segments = record {
    address = 0x8000;
    bytes = 4 ∷ 0 ∷ 45 ∷ 229 ∷ 1 ∷ 16 ∷ 81 ∷ 226 ∷ 252 ∷ 255 ∷ 255 ∷ 26 ∷ 30 ∷ 255 ∷ 47 ∷ 225 ∷ [];
    size = 16;
    flags = 5;
  } ∷ [];
  functions = [];
}

zero_isnt_lower : ◌≡◌ {A = Option ℤ} (Some (pos 0)) (Some (neg_ℤ (pos 4))) → ⊥
zero_isnt_lower e = cc

lost : IsStackLost pushing_image 0x8000 4096 (point_at [] 0x8000)
lost = record {
  insn = always (op.Word (record {
    load = false;
    byte = false;
    index = BeforeBack;
    up = false;
    rn = 13;
    rd = 0;
    offset = Bytes 4;
  }));
  found = refl;
  by_sp = refl;
  one = [];
  other = done_at [] 0x8008 ∷ done_at [] 0x8004 ∷ done_at [] 0x8000 ∷ [];
  leads = refl;
  leads_too = (((refl, (0, omega arith, refl)), (0, omega arith, refl)), (0, omega arith, refl));
  differ = inr zero_isnt_lower;
}

-- MOV r4,r14; CMP r0,#0; BEQ 8010; BX r14; BL 8018; B 8014; MOV r14,r4; BX r14: the called return brings the function's own
-- return address and not that of the call. From the point after the call control never leaves the function, but the
-- return is unproved all the same.
abbrev pruned_image : ImageValue
pruned_image = record {
  segments = record {
    address = 0x8000;
    bytes = 14 ∷ 64 ∷ 160 ∷ 225 ∷ 0 ∷ 0 ∷ 80 ∷ 227 ∷ 0 ∷ 0 ∷ 0 ∷ 10 ∷ 30 ∷ 255 ∷ 47 ∷ 225 ∷ 0 ∷ 0 ∷ 0 ∷ 235 ∷ 254 ∷ 255 ∷ 255 ∷ 234
        ∷ 4 ∷ 224 ∷ 160 ∷ 225 ∷ 30 ∷ 255 ∷ 47 ∷ 225 ∷ [];
    size = 32;
    flags = 5;
  } ∷ [];
  functions = [];
}

start_isnt_return : ◌≡◌ {A = Option Fact} (Some (record { origin = AtStart 14; constant = pos 0 })) (Some (record {
  origin = Zero;
  constant = pos 0x8014;
})) → ⊥
start_isnt_return e = subst IsOfZero (sym e) tt

pruned : IsReturnUnproved pruned_image 0x8000 4096 (point_at (0x8014 ∷ []) 0x801C)
pruned = record {
  insn = always (op.Exchange (record { rm = 14 }));
  found = refl;
  returns = refl;
  history = done_at (0x8014 ∷ []) 0x8018 ∷ done_at [] 0x8010 ∷ done_at [] 0x8008 ∷ done_at [] 0x8004 ∷ done_at [] 0x8000 ∷ [];
  leads = (((((refl, (0, omega arith, refl)), (0, omega arith, refl)), (0, omega arith, refl)), (0, omega arith, refl)), (0, omega arith, refl));
  other = start_isnt_return;
}
