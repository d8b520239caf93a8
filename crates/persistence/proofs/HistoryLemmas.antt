-- Runs of blocks that come back to a use.
use Rattle.std.proofs.Common.{◌≡◌, ℕ, ◌<◌, ◌%◌, Bool, true, List, [], ◌∷◌, ◌++◌, length, refl, sym, ap, ◌∙◌, subst}
use Rattle.std.specs.Prelude.{map}
use Rattle.std.specs.List.{AllByRecursion}
use Rattle.std.proofs.lemmas.List.{append_assoc}
use Rattle.fetch_timing.specs.declared.timing.Timing.{Timing}
use Rattle.fetch_timing.specs.Caches.{holds, lines_at}
use Rattle.persistence.specs.BlockHistories.{IsHistory, finds, history}
use Rattle.persistence.specs.Fetches.{after_history}
use Rattle.persistence.specs.Younger.{AtLeast, Code, IsYounger, Linked}
use Rattle.persistence.proofs.RecentLemmas.{last_is_there}
use Rattle.persistence.proofs.ReturnLemmas.{returns_hit}

history_parts : (reversed : ℕ → List ℕ) (xs ys : List ℕ) → history reversed (xs ++ ys) ≡ history reversed xs ++ history reversed ys
history_parts reversed [] ys = refl
history_parts reversed (b ∷ xs) ys = ap (λ (zs : List ℕ). reversed b ++ zs) (history_parts reversed xs ys)
    ∙ sym (append_assoc (reversed b) (history reversed xs) (history reversed ys))

all_joined : (P : ℕ → Type 0) (xs ys : List ℕ) → AllByRecursion P xs → AllByRecursion P ys → AllByRecursion P (xs ++ ys)
all_joined P [] ys h k = k
all_joined P (x ∷ xs) ys h k = (h.0, all_joined P xs ys h.1 k)

all_left : (P : ℕ → Type 0) (xs ys : List ℕ) → AllByRecursion P (xs ++ ys) → AllByRecursion P xs
all_left P [] ys h = tt
all_left P (x ∷ xs) ys h = (h.0, all_left P xs ys h.1)

all_right : (P : ℕ → Type 0) (xs ys : List ℕ) → AllByRecursion P (xs ++ ys) → AllByRecursion P ys
all_right P [] ys h = h
all_right P (x ∷ xs) ys h = all_right P xs ys h.1

all_points : (P : ℕ → Type 0) (W : ℕ → Bool) (reversed : ℕ → List ℕ) → ((b : ℕ) → W b ≡ true → AllByRecursion P (reversed b))
    → (bs : List ℕ) → AllByRecursion (λ b. W b ≡ true) bs → AllByRecursion P (history reversed bs)
all_points P W reversed each [] h = tt
all_points P W reversed each (b ∷ bs) h = all_joined P (reversed b) (history reversed bs) (each b h.0) (all_points P W reversed each bs h.1)

-- what leads to a point of a history is the history before it
pub linked_after : (next : ℕ → ℕ → Bool) (xs : List ℕ) (p : ℕ) (ys : List ℕ) → IsHistory next (xs ++ p ∷ ys) → Linked next p ys
linked_after next [] p ys h = h
linked_after next (x ∷ []) p ys h = h.1
linked_after next (x ∷ y ∷ xs) p ys h = linked_after next (y ∷ xs) p ys h.1

-- A use's point in a block that was run before, with only blocks of its scope between, finds its line.
pub use_hits : (t : Timing) (sets : List (List ℕ)) (c : Code) (within : ℕ → Bool) (W : ℕ → Bool) (reversed : ℕ → List ℕ) (b p : ℕ)
    (later before mid old : List ℕ) → 0 < t.sets → length sets ≡ t.sets
    → (AtLeast t.ways (IsYounger c t.sets within p) → ⊥) → ((u : ℕ) → W u ≡ true → AllByRecursion (λ x. within x ≡ true) (reversed u))
    → reversed b ≡ later ++ p ∷ before
    → W b ≡ true → AllByRecursion (λ u. W u ≡ true) mid → IsHistory c.next (history reversed (b ∷ mid ++ b ∷ old))
    → finds t sets c p (before ++ history reversed (mid ++ b ∷ old)) ≡ true
use_hits t sets c within W reversed b p later before mid old some is few each place w all run =
    let all_b : AllByRecursion (λ x. within x ≡ true) (later ++ p ∷ before) = subst
    (λ (xs : List ℕ). AllByRecursion (λ x. within x ≡ true) xs) place (each b w) in
    let all_later = all_left (λ x. within x ≡ true) later (p ∷ before) all_b in
    let all_pb = all_right (λ x. within x ≡ true) later (p ∷ before) all_b in
    let all_mid = all_points (λ x. within x ≡ true) W reversed each mid all in
    let front : List ℕ = before ++ (history reversed mid ++ later) in
    let all_front = all_joined (λ x. within x ≡ true) before (history reversed mid ++ later) all_pb.1
    (all_joined (λ x. within x ≡ true) (history reversed mid) later all_mid all_later) in
    let placed : history reversed mid ++ history reversed (b ∷ old) ≡ history reversed mid ++
    ((later ++ p ∷ before) ++ history reversed old) = ap (λ (zs : List ℕ). history reversed mid ++ (zs ++ history reversed old)) place
    in
    let tail : history reversed (mid ++ b ∷ old) ≡ history reversed mid ++ ((later ++ p ∷ before) ++ history reversed old) = history_parts
    reversed mid (b ∷ old) ∙ placed in
    let whole : before ++ history reversed (mid ++ b ∷ old) ≡ front ++ p ∷ (before ++ history reversed old) = ap
    (λ (zs : List ℕ). before ++ zs) tail ∙ (simp append_assoc) in
    let run_b : IsHistory c.next (later ++ p ∷ (before ++ history reversed (mid ++ b ∷ old))) = subst (IsHistory c.next)
    (ap (λ (zs : List ℕ). zs ++ history reversed (mid ++ b ∷ old)) place ∙ simp append_assoc) run in
    let linked : Linked c.next p (front ++ p ∷ (before ++ history reversed old)) = subst (Linked c.next p) whole
    (linked_after c.next later p (before ++ history reversed (mid ++ b ∷ old)) run_b) in
    subst (λ (zs : List ℕ). finds t sets c p zs ≡ true) (sym whole) (returns_hit t sets c within p front (before ++ history reversed old)
    some is few all_pb.0 all_front linked)

-- A point that is no use, since the point before it is of its line, finds it.
pub no_use_hits : (t : Timing) (sets : List (List ℕ)) (c : Code) (p q : ℕ) (h : List ℕ) → 0 < t.sets → 0 < t.ways → length sets ≡ t.sets
    → c.line q ≡ c.line p → finds t sets c p (q ∷ h) ≡ true
no_use_hits t sets c p q h some ways is same =
    subst (λ (l : ℕ). holds (c.line p) (lines_at (after_history t sets (l ∷ map c.line h)) (c.line p % t.sets)) ≡ true) (sym same)
    (last_is_there t sets (c.line p) some is (map c.line h) ways)
