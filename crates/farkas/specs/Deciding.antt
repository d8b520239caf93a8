-- How a run decides whether rows entail a row, or are empty.
use Rattle.std.specs.Prelude.{◌≡◌, ℕ, ◌+◌, ◌*◌, ℤ, pos, ◌+ℤ◌, ◌-ℤ◌, ◌*ℤ◌, int_lt, int_le, unsigned_abs, List, [], ◌∷◌, ◌++◌, Bool, true, false, ◌&&◌, ◌||◌, Option, Some, None, option_map, if◌then◌else◌}
use Rattle.std.specs.Ordering.{match_ordering}
use Rattle.linear_rows.specs.declared.rows.Var.{Var}
use Rattle.linear_rows.specs.declared.rows.RowTerm.{RowTerm}
use Rattle.linear_rows.specs.Variables.{var_cmp}
use Rattle.linear_rows.specs.Rows.{Inequality}
use Rattle.linear_rows.specs.Forms.{is_small}
use Rattle.row_elimination.specs.declared.weights.Multiplier.{Multiplier}
use Rattle.farkas.specs.declared.answers.RationalPoint.{RationalPoint}
use Rattle.farkas.specs.declared.answers.Answer.{Answer}
use Rattle.farkas.specs.declared.answers.Answer.TheVariants.{Proved, Refuted, Beyond}
use Rattle.farkas.specs.declared.answers.Emptiness.{Emptiness}
use Rattle.farkas.specs.declared.answers.Emptiness.TheVariants as emptiness
use Rattle.farkas.specs.declared.placing.Placed.{Placed}
use Rattle.farkas.specs.declared.placing.Limit.{Limit}
use Rattle.row_elimination.specs.Weights.{is_below, combined_support, supports_fit}
use Rattle.row_elimination.specs.Derivations.{Derivation, given_from, at_most_last, at_least_last}
use Rattle.row_elimination.specs.Steps.{are_same, bounds_last, has_no_terms, is_absurd, run, run_fits}
use Rattle.farkas.specs.Placing.{is_less, levels_of, raised, raised_fits}
use Rattle.farkas.specs.declared.placing.Level.{Level}

-- a variable in its place among ascending ones, unless it is there
abbrev pub with_one_var : Var → List Var → List Var
with_one_var x [] = x ∷ []
with_one_var x (v ∷ vs) = match_ordering (var_cmp x v) (x ∷ v ∷ vs) (v ∷ vs) (v ∷ with_one_var x vs)

abbrev pub with_vars : List Var → List RowTerm → List Var
with_vars vs [] = vs
with_vars vs (t ∷ ts) = with_vars (with_one_var t.var vs) ts

-- the variables of some inequalities besides others, in ascending order
abbrev pub vars_of : List Var → List Inequality → List Var
vars_of vs [] = vs
vars_of vs (row ∷ rows) = vars_of (with_vars vs row.terms) rows

-- what the test whether rows entail one starts with: the rows, and after them the last variable as the left
-- side of the row
abbrev pub start_of : List Inequality → Inequality → List Derivation
start_of rows row = given_from 0 rows ++ at_most_last row.terms ∷ at_least_last row.terms ∷ []

abbrev pub variables_of : List Inequality → Inequality → List Var
variables_of rows row = vars_of (with_vars [] row.terms) rows

abbrev pub first_absurd : List Derivation → Option Derivation
first_absurd [] = None
first_absurd (r ∷ rs) = if is_absurd r then Some r else first_absurd rs

-- the bound of the last variable: its constant divided by the magnitude of the factor
abbrev pub last_limit : Derivation → Limit
last_limit r = record { slack = r.constant; size = unsigned_abs r.last }

abbrev pub tighter : Option Derivation → Derivation → Option Derivation
tighter None r = Some r
tighter (Some s) r = if is_less (last_limit r) (last_limit s) then Some r else Some s

-- the tightest bound of the last variable, the first of equal ones
abbrev pub tightest : Bool → Option Derivation → List Derivation → Option Derivation
tightest up best [] = best
tightest up best (r ∷ rs) = if bounds_last up r then tightest up (tighter best r) rs else tightest up best rs

-- the bound is at most a number
abbrev pub is_at_most : ℤ → Derivation → Bool
is_at_most k u = if is_less (record { slack = k; size = 1 }) (last_limit u) then false else true

-- the sum of the two fractions is negative
abbrev pub is_negative_sum : Limit → Limit → Bool
is_negative_sum a b = int_lt ((a.slack *ℤ pos b.size) +ℤ (b.slack *ℤ pos a.size)) (pos 0)

-- the numbers of a point of no variables
abbrev pub last_at : ℤ → ℤ → Placed
last_at z d = record { vars = []; numbers = []; last = z; divisor = d }

-- one more than the tested constant, or the lower bound of the last variable where it is greater
abbrev pub start_above : ℤ → Option Derivation → Placed
start_above k None = last_at (k +ℤ pos 1) (pos 1)
start_above k (Some l) =
    if is_negative_sum (last_limit l) (record { slack = k +ℤ pos 1; size = 1 }) then last_at (pos 0 -ℤ l.constant) (pos 0 -ℤ l.last)
    else last_at (k +ℤ pos 1) (pos 1)

abbrev pub start_above_fits : ℤ → Option Derivation → Bool
start_above_fits k None = is_small (k +ℤ pos 1)
start_above_fits k (Some l) =
    is_small (k +ℤ pos 1)
    && (if is_negative_sum (last_limit l) (record { slack = k +ℤ pos 1; size = 1 })
    then is_small (pos 0 -ℤ l.constant) && is_small (pos 0 -ℤ l.last) else true)

-- a point with its numbers, without the last variable
abbrev pub point_of : Placed → RationalPoint
point_of p = record { vars = p.vars; numbers = p.numbers; divisor = p.divisor }

-- the tested row doesn't follow: the point that breaks it
abbrev pub refuted_from : List Level → Placed → Answer
refuted_from levels start = Refuted (point_of (raised levels start))

-- the least upper bound of the last variable isn't low enough: the rows are empty where a lower bound is above
-- it
abbrev pub by_bounds : List Level → Derivation → Option Derivation → Answer
by_bounds levels u None = refuted_from levels (last_at u.constant u.last)
by_bounds levels u (Some l) =
    if is_negative_sum (last_limit u) (last_limit l)
    then Proved (combined_support (unsigned_abs l.last) u.support (unsigned_abs u.last) l.support 1).multipliers
    (combined_support (unsigned_abs l.last) u.support (unsigned_abs u.last) l.support 1).divisor
    else refuted_from levels (last_at u.constant u.last)

abbrev pub by_bounds_fits : List Level → Derivation → Option Derivation → Bool
by_bounds_fits levels u None = raised_fits levels (last_at u.constant u.last)
by_bounds_fits levels u (Some l) =
    if is_negative_sum (last_limit u) (last_limit l)
    then supports_fit (unsigned_abs l.last) u.support (unsigned_abs u.last) l.support 1
    else raised_fits levels (last_at u.constant u.last)

-- the last variable has a least upper bound, or none
abbrev pub by_upper : ℤ → List Level → List Derivation → Option Derivation → Answer
by_upper k levels left None = refuted_from levels (start_above k (tightest false None left))
by_upper k levels left (Some u) =
    if is_at_most k u then Proved u.support.multipliers (u.support.divisor * unsigned_abs u.last)
    else by_bounds levels u (tightest false None left)

abbrev pub by_upper_fits : ℤ → List Level → List Derivation → Option Derivation → Bool
by_upper_fits k levels left None =
    start_above_fits k (tightest false None left) && raised_fits levels (start_above k (tightest false None left))
by_upper_fits k levels left (Some u) =
    if is_at_most k u then is_below (u.support.divisor * unsigned_abs u.last)
    else by_bounds_fits levels u (tightest false None left)

-- an inequality that holds nowhere is left, or none
abbrev pub by_absurd : ℤ → List Level → List Derivation → Option Derivation → Answer
by_absurd k levels left (Some r) = Proved r.support.multipliers r.support.divisor
by_absurd k levels left None = by_upper k levels left (tightest true None left)

abbrev pub by_absurd_fits : ℤ → List Level → List Derivation → Option Derivation → Bool
by_absurd_fits k levels left (Some r) = true
by_absurd_fits k levels left None = by_upper_fits k levels left (tightest true None left)

-- the answer to whether the tested row, whose constant is k, follows, where a run had these steps and left
-- these inequalities
abbrev pub decided : ℤ → List Level → List Derivation → Answer
decided k levels left = by_absurd k levels left (first_absurd left)

abbrev pub decision_fits : ℤ → List Level → List Derivation → Bool
decision_fits k levels left = by_absurd_fits k levels left (first_absurd left)

-- the run's numbers, its multipliers and its point are below 2^127, and no step has more than 4,096 rows
abbrev pub entailment_fits : List Inequality → Inequality → Bool
entailment_fits rows row =
    run_fits (variables_of rows row) (start_of rows row)
    && decision_fits row.constant (levels_of (variables_of rows row) (start_of rows row)) (run (variables_of rows row) (start_of rows row))

-- the same for emptiness, without the last variable
abbrev pub emptiness_by : List Level → Option Derivation → Emptiness
emptiness_by levels (Some r) = emptiness.Empty r.support.multipliers
emptiness_by levels None = emptiness.Inhabited (point_of (raised levels (last_at (pos 0) (pos 1))))

abbrev pub emptiness_by_fits : List Level → Option Derivation → Bool
emptiness_by_fits levels (Some r) = true
emptiness_by_fits levels None = raised_fits levels (last_at (pos 0) (pos 1))

abbrev pub emptiness_fits : List Inequality → Bool
emptiness_fits rows =
    run_fits (vars_of [] rows) (given_from 0 rows)
    && emptiness_by_fits (levels_of (vars_of [] rows) (given_from 0 rows)) (first_absurd (run (vars_of [] rows) (given_from 0 rows)))

-- the answer of the run for rows and a row
abbrev pub answer_of_run : List Inequality → Inequality → Answer
answer_of_run rows row =
    decided row.constant (levels_of (variables_of rows row) (start_of rows row)) (run (variables_of rows row) (start_of rows row))

abbrev pub emptiness_of_run : List Inequality → Emptiness
emptiness_of_run rows =
    emptiness_by (levels_of (vars_of [] rows) (given_from 0 rows)) (first_absurd (run (vars_of [] rows) (given_from 0 rows)))

-- a row gives another by itself: it has its left side and a constant at most as large, or it holds nowhere
abbrev pub gives : Inequality → Inequality → Bool
gives other row =
    (are_same other.terms row.terms && int_le other.constant row.constant) || (has_no_terms other.terms && int_lt other.constant (pos 0))

abbrev pub giver_place : List Inequality → Inequality → Option ℕ
giver_place [] row = None
giver_place (r ∷ rs) row = if gives r row then Some 0 else option_map (λ k. k + 1) (giver_place rs row)

abbrev pub alone : ℕ → List Multiplier
alone place = record { row = place; factor = 1 } ∷ []

-- the answer where the rows have the row
abbrev pub had_answer : List Inequality → Inequality → Option Answer
had_answer rows row =
    if has_no_terms row.terms && int_le (pos 0) row.constant then Some (Proved [] 1)
    else option_map (λ place. Proved (alone place) 1) (giver_place rows row)

abbrev pub absurd_place : List Inequality → Option ℕ
absurd_place [] = None
absurd_place (r ∷ rs) = if has_no_terms r.terms && int_lt r.constant (pos 0) then Some 0 else option_map (λ k. k + 1) (absurd_place rs)

-- the answer where one of the rows holds nowhere
abbrev pub had_emptiness : List Inequality → Option Emptiness
had_emptiness rows = option_map (λ place. emptiness.Empty (alone place)) (absurd_place rows)

-- why the answer is that a limit is passed
abbrev pub HasCause : List Inequality → Inequality → Answer → Type 0
HasCause rows row (Proved multipliers divisor) = Unit {0}
HasCause rows row (Refuted point) = Unit {0}
HasCause rows row Beyond = entailment_fits rows row ≡ false

abbrev pub HasEmptinessCause : List Inequality → Emptiness → Type 0
HasEmptinessCause rows (emptiness.Empty multipliers) = Unit {0}
HasEmptinessCause rows (emptiness.Inhabited point) = Unit {0}
HasEmptinessCause rows emptiness.Beyond = emptiness_fits rows ≡ false
