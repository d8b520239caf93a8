-- The facts of a function that calls another one twice, worked out by the definitions: each call has a return address of its
-- own, and what the caller saved stays.
use Rattle.std.proofs.Common.{◌≡◌, pos, neg_ℤ, Some, None, List, [], ◌∷◌, refl}
use Rattle.arm_isa.specs.declared.instruction.Op.TheVariants as op
use Rattle.control_flow.specs.Points.{Point}
use Rattle.control_flow.specs.Routes.{Taken, Way}
use Rattle.control_flow.specs.Routes.Place.{At, Exit}
use Rattle.control_flow.specs.Ways.{ways_from}
use Rattle.arm_machine.specs.Blocks.{registers_of}
use Rattle.path_facts.specs.Example.{two_calls_image}
use Rattle.path_facts.specs.Facts.Location.{Register}
use Rattle.path_facts.specs.declared.origin.Origin.TheVariants.{Zero, AtStart}
use Rattle.path_facts.specs.Histories.{facts_of, returned_fact, wanted_fact}
use Rattle.path_facts.proofs.Example.{done_at, only, point_at, pop}

abbrev ways : Point → List (Way Point)
ways = ways_from two_calls_image 0x8000

-- the nine points in their only order: the called function stands at 8010
way_0 : ways (point_at [] 0x8000) ≡ only (At (point_at [] 0x8004))
way_0 = refl

way_1 : ways (point_at [] 0x8004) ≡ only (At (point_at (0x8008 ∷ []) 0x8010))
way_1 = refl

way_2 : ways (point_at (0x8008 ∷ []) 0x8010) ≡ only (At (point_at (0x8008 ∷ []) 0x8014))
way_2 = refl

way_3 : ways (point_at (0x8008 ∷ []) 0x8014) ≡ only (At (point_at [] 0x8008))
way_3 = refl

way_4 : ways (point_at [] 0x8008) ≡ only (At (point_at (0x800C ∷ []) 0x8010))
way_4 = refl

way_5 : ways (point_at (0x800C ∷ []) 0x8010) ≡ only (At (point_at (0x800C ∷ []) 0x8014))
way_5 = refl

way_6 : ways (point_at (0x800C ∷ []) 0x8014) ≡ only (At (point_at [] 0x800C))
way_6 = refl

way_7 : ways (point_at [] 0x800C) ≡ only Exit
way_7 = refl

abbrev first_call : List (Taken Point)
first_call = done_at [] 0x8004 ∷ done_at [] 0x8000 ∷ []

abbrev first_return : List (Taken Point)
first_return = done_at (0x8008 ∷ []) 0x8010 ∷ first_call

abbrev second_call : List (Taken Point)
second_call = done_at [] 0x8008 ∷ done_at (0x8008 ∷ []) 0x8014 ∷ first_return

abbrev second_return : List (Taken Point)
second_return = done_at (0x800C ∷ []) 0x8010 ∷ second_call

abbrev last_point : List (Taken Point)
last_point = done_at (0x800C ∷ []) 0x8014 ∷ second_return

-- register 14 has the address after the call that was made
first_link : (facts_of two_calls_image 4096 first_call).fact (Register 14) ≡ Some (record { origin = Zero; constant = pos 0x8008 })
unfolding registers_of lib.Count.ones
first_link = refl

second_link : (facts_of two_calls_image 4096 second_call).fact (Register 14) ≡ Some (record { origin = Zero; constant = pos 0x800C })
unfolding registers_of lib.Count.ones
second_link = refl

-- each return of the called function brings its own call's return address
first_brings : returned_fact (facts_of two_calls_image 4096 first_return) (op.Exchange (record { rm = 14 })) ≡ Some (wanted_fact (Some 0x8008))
unfolding registers_of lib.Count.ones
first_brings = refl

second_brings : returned_fact (facts_of two_calls_image 4096 second_return) (op.Exchange (record { rm = 14 }))
    ≡ Some (wanted_fact (Some 0x800C))
unfolding registers_of lib.Count.ones
second_brings = refl

-- both calls added 1 to register 0, and the caller's return finds its own address on the stack
added_twice : (facts_of two_calls_image 4096 last_point).fact (Register 0) ≡ Some (record { origin = AtStart 0; constant = pos 2 })
unfolding registers_of lib.Count.ones
added_twice = refl

still_lower : (facts_of two_calls_image 4096 last_point).fact (Register 13) ≡ Some (record { origin = AtStart 13; constant = neg_ℤ (pos 8) })
unfolding registers_of lib.Count.ones
still_lower = refl

outer_brings : returned_fact (facts_of two_calls_image 4096 last_point) pop ≡ Some (wanted_fact None)
unfolding registers_of lib.Count.ones
outer_brings = refl
