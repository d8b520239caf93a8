-- A list of probes of which one after another is shown an event.
use Rattle.std.proofs.Common.{◌≡◌, ℕ, zero, suc, ◌+◌, ◌^◌, ◌<◌, ◌≤◌, ◌||◌, Bool, true, false, cond, Option, Some, None, List, [], ◌∷◌, ◌++◌, length, map, take, drop, set, get_or, refl, sym, ap, ◌∙◌, add-one, arith}
use Rattle.std.specs.List.{position}
use Rattle.std.specs.Option.{is_some, option_or}
use Rattle.std.proofs.lemmas.Grind.{common_steps}
use Rattle.std.proofs.lemmas.List.{drop-set-lt, map-set, get_or-map}
use Rattle.std.proofs.Math.Seq.{take-suc, take-suc-set}
use Rattle.arm_machine.specs.declared.events.Event.{Event}
use Rattle.machine_probe.specs.Weights.{HaveRoom, Standing, is_over, seen}
use Rattle.machine_probe.proofs.Places.{position_push}

at_front : {B : Type 0} (xs : List B) (i : ℕ) (d : B) → get_or (drop i xs) 0 d ≡ get_or xs i d
at_front [] zero d = refl
at_front [] (suc i) d = refl
at_front (x ∷ xs) zero d = refl
at_front (x ∷ xs) (suc i) d = at_front xs i d

more : {B : Type 0} (xs : List B) (i : ℕ) → drop (suc i) xs ≡ drop 1 (drop i xs)
more [] zero = refl
more [] (suc i) = refl
more (x ∷ xs) zero = refl
more (x ∷ xs) (suc i) = more xs i

-- what stands at a place from which on nothing was changed
same_at : {B : Type 0} (xs ys : List B) (i : ℕ) (d : B) → drop i xs ≡ drop i ys → get_or xs i d ≡ get_or ys i d
same_at xs ys i d same = sym (at_front xs i d) ∙ ap (λ (l : List _). get_or l 0 d) same ∙ at_front ys i d

within : {B : Type 0} (xs ys : List B) (i : ℕ) → drop i xs ≡ drop i ys → i < length xs → i < length ys
within xs ys i same lt = grind (arith, common_steps, ap length same)

rest_next : {B : Type 0} (xs ys : List B) (i : ℕ) (x : B) → drop i xs ≡ drop i ys → drop (suc i) (set xs i x) ≡ drop (suc i) ys
rest_next xs ys i x same = let lt : i < suc i = omega arith in drop-set-lt (suc i) xs i x lt ∙ more xs i ∙ ap (drop 1) same ∙ sym (more ys i)

take_next : {B X : Type 0} (n : B → X) (ys : List B) (i : ℕ) (d : B) → i < length ys → take (suc i) (map n ys) ≡ take i (map n ys) ++ n (get_or ys i d) ∷ []
take_next n ys i d lt =
    let longer : i < length (map n ys) = grind (arith, common_steps) in
    take-suc (map n ys) i (n d) longer ∙ ap (λ (y : _). take i (map n ys) ++ y ∷ []) (get_or-map n ys i d (n d) lt)

done_next : {B X : Type 0} (m n : B → X) (xs ys : List B) (i : ℕ) (x d : B) → take i (map m xs) ≡ take i (map n ys) → drop i xs ≡ drop i ys → i < length xs → m x ≡ n (get_or ys i d) → take (suc i) (map m (set xs i x)) ≡ take (suc i) (map n ys)
done_next m n xs ys i x d done same lt is =
    let longer : i < length (map m xs) = grind (arith, common_steps) in
    ap (take (suc i)) (map-set m xs i x) ∙ take-suc-set (map m xs) i (m x) longer ∙ ap (λ (l : List _). l ++ m x ∷ []) done
    ∙ ap (λ (y : _). take i (map n ys) ++ y ∷ []) is
    ∙ sym (take_next n ys i d (within xs ys i same lt))

-- the first place in the list of one element more
position_next : {B : Type 0} (n : B → Standing) (xs : List B) (i : ℕ) (d : B) → i < length xs → position is_over (take (suc i) (map n xs)) ≡ option_or (position is_over (take i (map n xs))) (cond (is_over (n (get_or xs i d))) (Some i) None)
position_next n xs i d lt =
    let zs : List Standing = take i (map n xs) in
    let y : Standing = n (get_or xs i d) in
    let long : i < length (map n xs) = grind (arith, common_steps) in
    let many : length zs ≡ i = grind (arith, common_steps) in
    ap (position is_over) (take_next n xs i d lt)
    ∙ position_push is_over zs y
    ∙ ap (λ (m : ℕ). option_or (position is_over zs) (cond (is_over y) (Some m) None)) many

one_or : (o : Option ℕ) (b : Bool) (i : ℕ) → (is_some o || b) ≡ is_some (option_or o (cond b (Some i) None))
one_or (Some n) b i = refl
one_or None true i = refl
one_or None false i = refl

-- The probes before a place have seen an event, and those from it on stand where they did; and whether one is over its limit
-- is told.
pub record SeenUpTo {B : Type 0} (at : B → Standing) (e : Event) (i : ℕ) (xs ys : List B) (stops : Bool) : Type 0 where
  pub done : take i (map at xs) ≡ take i (map (λ b. seen e (at b)) ys)
  pub rest : drop i xs ≡ drop i ys
  pub over : stops ≡ is_some (position is_over (take i (map (λ b. seen e (at b)) ys)))

over_next : {B : Type 0} (at : B → Standing) (e : Event) (i : ℕ) (ys : List B) (stops : Bool) (x d : B) → stops ≡ is_some (position is_over (take i (map (λ b. seen e (at b)) ys))) → i < length ys → at x ≡ seen e (at (get_or ys i d)) → (stops || is_over (at x)) ≡ is_some (position is_over (take (suc i) (map (λ b. seen e (at b)) ys)))
over_next at e i ys stops x d so lt there =
    let n : _ → Standing = λ b. seen e (at b) in
    let first : Option ℕ = position is_over (take i (map n ys)) in
    ap (λ (b : Bool). b || is_over (at x)) so
    ∙ ap (λ (p : Standing). is_some first || is_over p) there
    ∙ one_or first (is_over (n (get_or ys i d))) i
    ∙ ap is_some (sym (position_next n ys i d lt))

pub next_seen : {B : Type 0} (at : B → Standing) (e : Event) (i : ℕ) (xs ys : List B) (stops : Bool) (x d : B) → SeenUpTo at e i xs ys stops → i < length xs → at x ≡ seen e (at (get_or xs i d)) → SeenUpTo at e (i + 1) (set xs i x) ys (stops || is_over (at x))
next_seen at e i xs ys stops x d so lt is =
    let n : _ → Standing = λ b. seen e (at b) in
    let there : at x ≡ n (get_or ys i d) = is ∙ ap n (same_at xs ys i d so.rest) in
    rw add-one
    (record {
      done = done_next at n xs ys i x d so.done so.rest lt there;
      rest = rest_next xs ys i x so.rest;
      over = over_next at e i ys stops x d so.over (within xs ys i so.rest lt) there;
    })

fused : {B : Type 0} (at : B → Standing) (e : Event) (ys : List B) → map (λ b. seen e (at b)) ys ≡ map (seen e) (map at ys)
fused at e [] = refl
fused at e (y ∷ ys) = ap (λ (l : List Standing). seen e (at y) ∷ l) (fused at e ys)

-- In the end all have seen it.
pub all_seen : {B : Type 0} (at : B → Standing) (e : Event) (i : ℕ) (xs ys : List B) (stops : Bool) → SeenUpTo at e i xs ys stops → length xs ≤ i → length xs ≡ length ys → (map at xs ≡ map (seen e) (map at ys)) × (stops ≡ is_some (position is_over (map at xs)))
all_seen at e i xs ys stops so end same =
    let n : _ → Standing = λ b. seen e (at b) in
    let all : take i (map at xs) ≡ map at xs = grind (arith, common_steps) in
    let whole : take i (map n ys) ≡ map n ys = grind (arith, common_steps) in
    let now : map at xs ≡ map n ys = sym all ∙ so.done ∙ whole in
    (now ∙ fused at e ys, so.over ∙ ap (λ (l : List Standing). is_some (position is_over l)) (whole ∙ sym now))

room : {B : Type 0} (at : B → Standing) (ys : List B) (i : ℕ) (d : B) → HaveRoom (map at ys) → i < length ys → (at (get_or ys i d)).tally < 2 ^ 127
room at [] i d all lt = absurd (omega arith)
room at (y ∷ ys) zero d all lt = all.0
room at (y ∷ ys) (suc i) d all lt = room at ys i d all.1 (omega arith)

-- the next one can count the event
pub has_room : {B : Type 0} (at : B → Standing) (e : Event) (i : ℕ) (xs ys : List B) (stops : Bool) (d : B) → SeenUpTo at e i xs ys stops → i < length xs → HaveRoom (map at ys) → (at (get_or xs i d)).tally < 2 ^ 127
has_room at e i xs ys stops d so lt all =
    let there : at (get_or xs i d) ≡ at (get_or ys i d) = ap at (same_at xs ys i d so.rest) in
    rw there (room at ys i d all (within xs ys i so.rest lt))

-- The least probe that is over its limit among those before a place is known.
abbrev pub IsFirstUpTo : {B : Type 0} → (B → Standing) → ℕ → List B → Option ℕ → Type 0
IsFirstUpTo at i xs first = first ≡ position is_over (take i (map at xs))

pub first_next : {B : Type 0} (at : B → Standing) (i : ℕ) (xs : List B) (x : B) (first : Option ℕ) → x ≡ get_or xs i x → IsFirstUpTo at i xs first → i < length xs → IsFirstUpTo at (i + 1) xs (option_or first (cond (is_over (at x)) (Some i) None))
first_next at i xs x first is so lt =
    rw add-one
    (ap (λ (o : Option ℕ). option_or o (cond (is_over (at x)) (Some i) None)) so
    ∙ ap (λ (y : _). option_or (position is_over (take i (map at xs))) (cond (is_over (at y)) (Some i) None)) is
    ∙ sym (position_next at xs i x lt))

pub first_of_all : {B : Type 0} (at : B → Standing) (i : ℕ) (xs : List B) (first : Option ℕ) → IsFirstUpTo at i xs first → length xs ≤ i → first ≡ position is_over (map at xs)
first_of_all at i xs first so end =
    let whole : take i (map at xs) ≡ map at xs = grind (arith, common_steps) in
    so ∙ ap (position is_over) whole

pub no_place : (o : Option ℕ) → is_some o ≡ false → None ≡ o
no_place None none = refl
no_place (Some i) none = cc
