-- The least limit of a variable is at most each limit.
use Rattle.std.proofs.Common.{◌≡◌, refl, sym, ap, ◌∙◌, ℕ, ◌<◌, ℤ, pos, ◌*ℤ◌, ◌≤ℤ◌, List, [], ◌∷◌, ◌⊎◌, inl, inr, Bool, true, false, Some, None, arith}
use Rattle.std.specs.Prelude.{if◌then◌else◌}
use Rattle.std.proofs.lemmas.Int.{ints}
use Rattle.std.proofs.Math.IntN.{*ℤ_comm}
use Rattle.linear_rows.specs.declared.rows.Var.{Var}
use Rattle.linear_rows.specs.Terms.{factor_of}
use Rattle.linear_rows.proofs.Rounding.{mul_monotone}
use Rattle.farkas.specs.declared.placing.Placed.{Placed}
use Rattle.farkas.specs.declared.placing.Limit.{Limit}
use Rattle.row_elimination.specs.Derivations.{Derivation, size_of}
use Rattle.farkas.specs.Placing.{limit_of, is_less, lesser, limits, least_limit}
use Rattle.farkas.proofs.Soundness.{cancel}
use Rattle.farkas.proofs.Proving.{lt_of, ge_of, size_above, size_below}
use Rattle.farkas.proofs.Rings.{regroup}
use Rattle.farkas.proofs.Following.{Each}

-- the fraction is at most another
abbrev pub Le : Limit → Limit → Type 0
Le a b = (a.slack *ℤ pos b.size) ≤ℤ (b.slack *ℤ pos a.size)

turn : (k l : ℕ) (z : ℤ) → pos k *ℤ (z *ℤ pos l) ≡ pos l *ℤ (z *ℤ pos k)
turn k l z =
    ap (λ (x : ℤ). pos k *ℤ x) (*ℤ_comm z (pos l)) ∙ regroup k l l k z (omega arith) ∙ ap (λ (x : ℤ). pos l *ℤ x) (*ℤ_comm (pos k) z)

pub Le-trans : (a b c : Limit) → 0 < b.size → Le a b → Le b c → Le a c
Le-trans a b c h e f =
    let first = mul_monotone c.size (a.slack *ℤ pos b.size) (b.slack *ℤ pos a.size) e in
    let second = mul_monotone a.size (b.slack *ℤ pos c.size) (c.slack *ℤ pos b.size) f in
    let t1 = turn c.size b.size a.slack in let t2 = turn c.size a.size b.slack in let t3 = turn a.size b.size c.slack in
    cancel b.size (a.slack *ℤ pos c.size) (c.slack *ℤ pos a.size) h (omega (arith, ints))

pub not_less : (a b : Limit) → is_less a b ≡ false → Le b a
not_less a b e = ge_of (a.slack *ℤ pos b.size) (b.slack *ℤ pos a.size) e

pub less : (a b : Limit) → is_less a b ≡ true → Le a b
less a b e = let f = lt_of (a.slack *ℤ pos b.size) (b.slack *ℤ pos a.size) e in omega (arith, ints)

pub limits_sized : (up : Bool) (y : Var) (r : Derivation) → limits up y r ≡ true → 0 < size_of y r
limits_sized true y r e = size_above (factor_of y r.terms) (lt_of (pos 0) (factor_of y r.terms) e)
limits_sized false y r e = size_below (factor_of y r.terms) (lt_of (factor_of y r.terms) (pos 0) e)

-- what is known of each limit is known of the least one
pub record Least (T : Limit → Type 0) (up : Bool) (y : Var) (p : Placed) (rs : List Derivation) (l : Limit) : Type 0 where
  pub sized : 0 < l.size
  pub told : T l
  pub least : Each (λ r. limits up y r ≡ true → Le l (limit_of y p r)) rs

pub record LeastOf (T : Limit → Type 0) (up : Bool) (y : Var) (p : Placed) (rs : List Derivation) (b : Limit) : Type 0 where
  pub limit : Limit
  pub found : least_limit up y p (Some b) rs ≡ Some limit
  pub below : Le limit b
  pub known : Least T up y p rs limit

least_step : (T : Limit → Type 0) (up : Bool) (y : Var) (p : Placed) (r : Derivation) (rs : List Derivation) (b : Limit) → 0 < b.size → T b → (limits up y r ≡ true → T (limit_of y p r)) →
    ((c : Limit) → 0 < c.size → T c → LeastOf T up y p rs c) →
    (x : Bool) → limits up y r ≡ x → (z : Bool) → is_less (limit_of y p r) b ≡ z → LeastOf T up y p (r ∷ rs) b
least_step T up y p r rs b h t k rec false e z f =
    let m = rec b h t in
    record {
      limit = m.limit;
      found = ap (λ (c : Bool). if c then least_limit up y p (lesser (Some b) (limit_of y p r)) rs else least_limit up y p (Some b) rs) e ∙ m.found;
      below = m.below;
      known = record { sized = m.known.sized; told = m.known.told; least = ((λ g. absurd (let i : true ≡ false = sym g ∙ e in cc)), m.known.least) };
    }
least_step T up y p r rs b h t k rec true e true f =
    let c : Limit = limit_of y p r in
    let m = rec c (limits_sized up y r e) (k e) in
    record {
      limit = m.limit;
      found = ap (λ (d : Bool). if d then least_limit up y p (lesser (Some b) c) rs else least_limit up y p (Some b) rs) e
          ∙ ap (λ (d : Bool). least_limit up y p (if d then Some c else Some b) rs) f ∙ m.found;
      below = Le-trans m.limit c b (limits_sized up y r e) m.below (less c b f);
      known = record { sized = m.known.sized; told = m.known.told; least = ((λ g. m.below), m.known.least) };
    }
least_step T up y p r rs b h t k rec true e false f =
    let c : Limit = limit_of y p r in
    let m = rec b h t in
    record {
      limit = m.limit;
      found = ap (λ (d : Bool). if d then least_limit up y p (lesser (Some b) c) rs else least_limit up y p (Some b) rs) e
          ∙ ap (λ (d : Bool). least_limit up y p (if d then Some c else Some b) rs) f ∙ m.found;
      below = m.below;
      known = record { sized = m.known.sized; told = m.known.told; least = ((λ g. Le-trans m.limit b c h m.below (not_less c b f)), m.known.least) };
    }

least_some : (T : Limit → Type 0) (up : Bool) (y : Var) (p : Placed) (rs : List Derivation) (b : Limit) → 0 < b.size → T b →
    Each (λ r. limits up y r ≡ true → T (limit_of y p r)) rs → LeastOf T up y p rs b
least_some T up y p [] b h t k = record { limit = b; found = refl; below = omega (arith, ints); known = record { sized = h; told = t; least = tt } }
least_some T up y p (r ∷ rs) b h t k =
    least_step T up y p r rs b h t k.0 (λ c i u. least_some T up y p rs c i u k.1) (limits up y r) refl (is_less (limit_of y p r) b) refl

-- no limit, or the least one
pub record NoLimit (up : Bool) (y : Var) (p : Placed) (rs : List Derivation) : Type 0 where
  pub found : least_limit up y p None rs ≡ None
  pub none : Each (λ r. limits up y r ≡ false) rs

pub record SomeLimit (T : Limit → Type 0) (up : Bool) (y : Var) (p : Placed) (rs : List Derivation) : Type 0 where
  pub limit : Limit
  pub found : least_limit up y p None rs ≡ Some limit
  pub known : Least T up y p rs limit

none_step : (T : Limit → Type 0) (up : Bool) (y : Var) (p : Placed) (r : Derivation) (rs : List Derivation) → (limits up y r ≡ true → T (limit_of y p r)) →
    Each (λ s. limits up y s ≡ true → T (limit_of y p s)) rs → NoLimit up y p rs ⊎ SomeLimit T up y p rs →
    (x : Bool) → limits up y r ≡ x → NoLimit up y p (r ∷ rs) ⊎ SomeLimit T up y p (r ∷ rs)
none_step T up y p r rs k ks (inl n) false e =
    inl (record {
      found = ap (λ (c : Bool). if c then least_limit up y p (Some (limit_of y p r)) rs else least_limit up y p None rs) e ∙ n.found;
      none = (e, n.none);
    })
none_step T up y p r rs k ks (inr m) false e =
    inr (record {
      limit = m.limit;
      found = ap (λ (c : Bool). if c then least_limit up y p (Some (limit_of y p r)) rs else least_limit up y p None rs) e ∙ m.found;
      known = record { sized = m.known.sized; told = m.known.told; least = ((λ g. absurd (let i : true ≡ false = sym g ∙ e in cc)), m.known.least) };
    })
none_step T up y p r rs k ks n true e =
    let m = least_some T up y p rs (limit_of y p r) (limits_sized up y r e) (k e) ks in
    inr (record {
      limit = m.limit;
      found = ap (λ (c : Bool). if c then least_limit up y p (Some (limit_of y p r)) rs else least_limit up y p None rs) e ∙ m.found;
      known = record { sized = m.known.sized; told = m.known.told; least = ((λ g. m.below), m.known.least) };
    })

pub least : (T : Limit → Type 0) (up : Bool) (y : Var) (p : Placed) (rs : List Derivation) → Each (λ r. limits up y r ≡ true → T (limit_of y p r)) rs →
    NoLimit up y p rs ⊎ SomeLimit T up y p rs
least T up y p [] k = inl (record { found = refl; none = tt })
least T up y p (r ∷ rs) k = none_step T up y p r rs k.0 k.1 (least T up y p rs k.1) (limits up y r) refl
