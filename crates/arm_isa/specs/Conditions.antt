-- The condition field (ARM Architecture Reference Manual, chapter A3, "The condition field").
use Rattle.std.specs.Prelude.{ℕ, ◌==◌, ◌&&◌, ◌||◌, not, Bool, true, false, if◌then◌else◌}
use Rattle.arm_isa.specs.declared.conditions.Condition.{Condition}
use Rattle.arm_isa.specs.declared.conditions.Condition.TheVariants.{Eq, Ne, Cs, Cc, Mi, Pl, Vs, Vc, Hi, Ls, Ge, Lt, Gt, Le, Al}
use Rattle.arm_isa.specs.declared.conditions.Flags.{Flags}

-- what a condition field below 15 stands for
abbrev pub condition_numbered : ℕ → Condition
condition_numbered number =
    if number == 0 then Eq
    else if number == 1 then Ne
    else if number == 2 then Cs
    else if number == 3 then Cc
    else if number == 4 then Mi
    else if number == 5 then Pl
    else if number == 6 then Vs
    else if number == 7 then Vc
    else if number == 8 then Hi
    else if number == 9 then Ls
    else if number == 10 then Ge
    else if number == 11 then Lt
    else if number == 12 then Gt
    else if number == 13 then Le
    else Al

-- N and V are equal
abbrev pub same_signs : Flags → Bool
same_signs flags = if flags.n then flags.v else not flags.v

abbrev pub condition_passes : Condition → Flags → Bool
condition_passes Eq flags = flags.z
condition_passes Ne flags = not flags.z
condition_passes Cs flags = flags.c
condition_passes Cc flags = not flags.c
condition_passes Mi flags = flags.n
condition_passes Pl flags = not flags.n
condition_passes Vs flags = flags.v
condition_passes Vc flags = not flags.v
condition_passes Hi flags = flags.c && not flags.z
condition_passes Ls flags = not flags.c || flags.z
condition_passes Ge flags = same_signs flags
condition_passes Lt flags = not (same_signs flags)
condition_passes Gt flags = not flags.z && same_signs flags
condition_passes Le flags = flags.z || not (same_signs flags)
condition_passes Al flags = true

abbrev pub is_always : Condition → Bool
is_always Al = true
is_always _ = false
