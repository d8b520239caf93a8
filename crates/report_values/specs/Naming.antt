-- The values of parameters by their names, and which name is at fault.
use Rattle.std.specs.Prelude.{ℕ, ℤ, ◌&&◌, not, int_le, Bool, false, if◌then◌else◌, Option, Some, None, option_and_then}
use Rattle.std.specs.Prelude.{is_some, List, [], ◌∷◌, ◌++◌, Result, Ok, Err}
use Rattle.std.specs.List.{list_any}
use Rattle.std.specs.Str.{bytes_eq}
use Rattle.wsym_terms.specs.declared.bounds.ParamRange.{ParamRange}
use Rattle.command_words.specs.declared.valuations.NamedValue.{NamedValue}

-- the parameter of a name
abbrev pub range_of : List ParamRange → List ℕ → Option ParamRange
range_of [] name = None
range_of (p ∷ params) name = if bytes_eq p.name name then Some p else range_of params name

-- a value that is in the range of a parameter
abbrev pub if_within : ParamRange → ℤ → Option ℤ
if_within p v = if int_le p.low v && int_le v p.high then Some v else None

abbrev pub is_within : Option ParamRange → ℤ → Bool
is_within None v = false
is_within (Some p) v = is_some (if_within p v)

-- in the range of the parameter of its name, where no earlier value has this name
abbrev pub is_good : List ParamRange → List NamedValue → NamedValue → Bool
is_good params earlier v =
    is_within (range_of params v.name) v.value && not (list_any (λ other. bytes_eq other.name v.name) earlier)

-- the name of the first value that isn't good, after earlier ones
abbrev pub first_bad : List ParamRange → List NamedValue → List NamedValue → Option (List ℕ)
first_bad params earlier [] = None
first_bad params earlier (v ∷ values) =
    if is_good params earlier v then first_bad params (earlier ++ v ∷ []) values else Some v.name

-- the value of a name
abbrev pub value_by : List NamedValue → List ℕ → Option ℤ
value_by [] name = None
value_by (v ∷ values) name = if bytes_eq v.name name then Some v.value else value_by values name

-- the value of a parameter, in its range
abbrev pub value_of : List NamedValue → ParamRange → Option ℤ
value_of values p = option_and_then (if_within p) (value_by values p.name)

abbrev pub or_missing : List ℕ → (ℤ → Result (List ℤ) (List ℕ)) → Option ℤ → Result (List ℤ) (List ℕ)
or_missing name next None = Err name
or_missing name next (Some v) = next v

-- the values of parameters in their order, after some values, or the name of the first that has none
abbrev pub values_after : List ℤ → List ParamRange → List NamedValue → Result (List ℤ) (List ℕ)
values_after ordered [] values = Ok ordered
values_after ordered (p ∷ params) values =
    or_missing p.name (λ v. values_after (ordered ++ v ∷ []) params values) (value_of values p)

abbrev pub or_bad : Result (List ℤ) (List ℕ) → Option (List ℕ) → Result (List ℤ) (List ℕ)
or_bad ordered None = ordered
or_bad ordered (Some name) = Err name

-- the values of the parameters in their order, or the name that is at fault: a value's before a missing one
abbrev pub named_values : List ParamRange → List NamedValue → Result (List ℤ) (List ℕ)
named_values params values = or_bad (values_after [] params values) (first_bad params [] values)
