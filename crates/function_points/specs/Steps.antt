-- The points to which control goes from a point.
use Rattle.std.specs.Prelude.{ℕ, Bool, if◌then◌else◌, Option, Some, None, List, [], ◌∷◌, ◌++◌}
use Rattle.control_flow.specs.declared.control.Control.{Control}
use Rattle.control_flow.specs.declared.control.Control.TheVariants as control
use Rattle.control_flow.specs.Points.{Point, is_open, last_return, without_last}

-- the point at an address, if there is one
abbrev pub point_if : List ℕ → Option ℕ → List Point
point_if returns None = []
point_if returns (Some a) = record { returns = returns; address = a } ∷ []

-- the points to which an instruction leads, by its control and the calls that are open
abbrev pub step_by : (ℕ → ℕ → Bool) → ℕ → List ℕ → Control → List Point
step_by goes entry returns (control.Go target skipped) = record { returns = returns; address = target } ∷ point_if
    returns skipped
step_by goes entry returns (control.Call target after skipped) =
    if is_open goes entry returns target then []
    else record { returns = returns ++ after ∷ []; address = target } ∷ point_if returns skipped
step_by goes entry returns (control.Return skipped) =
    point_if (without_last returns) (last_return returns) ++ point_if returns skipped
step_by goes entry returns (control.Fault fault) = []

abbrev pub step_from : (ℕ → Control) → (ℕ → ℕ → Bool) → ℕ → Point → List Point
step_from controls goes entry p = step_by goes entry p.returns (controls p.address)
