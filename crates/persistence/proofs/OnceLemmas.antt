-- A use misses at most once in an entry of its scope.
use Rattle.std.proofs.Common.{◌≡◌, ◌⊎◌, inl, inr, ℕ, zero, suc, ◌+◌, ◌<◌, ◌≤◌, Bool, true, false, if◌then◌else◌, List, [], ◌∷◌, ◌++◌}
use Rattle.std.proofs.Common.{length, refl, sym, ap, ◌∙◌, subst, arith}
use Rattle.std.specs.List.{AllByRecursion}
use Rattle.std.proofs.lemmas.Bool.{cases_Bool, false≢true}
use Rattle.std.proofs.lemmas.Bool.Decides.{nat_tests}
use Rattle.fetch_timing.specs.declared.timing.Timing.{Timing}
use Rattle.persistence.specs.BlockHistories.{IsHistory, finds, history}
use Rattle.persistence.specs.Younger.{Code}
use Rattle.persistence.proofs.HistoryLemmas.{use_hits}
use Rattle.tree_law.specs.Pieces.{AtMostOnce, hits, over}
use Rattle.interval_loops.specs.Trails.{Ran, Visit, all_visits, first_visit, next_visit, visits_after}
use Rattle.interval_loops.specs.Loops.{IsRound, LoopFlow}
use Rattle.tree_law.proofs.OnceLemmas.{Firsts, firsts_once}
use Rattle.persistence.specs.Runs.{AreUses, IsRun, Uses}

-- what a visit that counts is
counts : (scopes : ℕ → ℕ → ℕ) (b k e : ℕ) (v : Visit) → hits scopes b k e v ≡ 1
    → (v.block ≡ b) × (v.entry (scopes b k) ≡ e) × (v.missed k ≡ true)
counts scopes b k e v h = grind (arith, nat_tests)

counts_less : (scopes : ℕ → ℕ → ℕ) (b k e : ℕ) (v : Visit) → hits scopes b k e v ≤ 1
counts_less scopes b k e v = grind (arith, nat_tests)

none_or_one : (n : ℕ) → n ≤ 1 → (n ≡ 0) ⊎ (n ≡ 1)
none_or_one zero h = inl refl
none_or_one (suc zero) h = inr refl
none_or_one (suc (suc n)) h = absurd (omega (arith, h))

module _ (t : Timing) (sets : List (List ℕ)) (c : Code) (f : LoopFlow) (at : ℕ → ℕ) (round : ℕ → ℕ → ℕ) (reversed : ℕ → List ℕ)
    (points : ℕ → ℕ → Bool) (uses : Uses)
    (some : 0 < t.sets) (is : length sets ≡ t.sets) (loops : IsRound f at round) (are : AreUses t c f at reversed points uses) (b k e : ℕ)
  where
    abbrev d : ℕ
    d = uses.loop b k

    abbrev w : Visit → ℕ
    w = hits uses.scope b k e

    -- What was seen before the next block, d being the use's loop: nothing that counts; or the block in this entry of the
    -- loop, which wasn't left since; or the loop was left.
    record Stayed (time : ℕ) (v : Visit) (bs : List ℕ) : Type 0 where
      mid : List ℕ
      old : List ℕ
      parts : bs ≡ mid ++ b ∷ old
      all : AllByRecursion (λ u. f.within d u ≡ true) mid
      now : f.within d v.block ≡ true
      entry : v.entry (at d) ≡ e
      early : e < time

    record Left (time : ℕ) (v : Visit) : Type 0 where
      early : e < time
      later : f.within d v.block ≡ true → e < v.entry (at d)

    abbrev Seen : ℕ → ℕ → Visit → List ℕ → Type 0
    Seen before time v bs = (before ≡ 0) ⊎ (Stayed time v bs ⊎ Left time v)

    next_entry : (time : ℕ) (v : Visit) (x : Ran) → f.within d x.block ≡ true
        → (next_visit f round time v x).entry (at d) ≡ (if f.within d v.block then v.entry (at d) else time)
    next_entry time v x i = ap (λ (j : ℕ). if f.within j v.block then v.entry (at d) else time) (loops.own d x.block i)

    -- to the next block
    stays_on : (time : ℕ) (v : Visit) (x : Ran) (bs : List ℕ) → Stayed time v bs
        → Stayed (time + 1) (next_visit f round time v x) (x.block ∷ bs) ⊎ Left (time + 1) (next_visit f round time v x)
    stays_on time v x bs s =
        elim (cases_Bool (f.within d x.block)) as (λ _. Stayed (time + 1) (next_visit f round time v x) (x.block ∷ bs)
        ⊎ Left (time + 1) (next_visit f round time v x)) [
          | inl i ↦
              inl (record {
                mid = x.block ∷ s.mid;
                old = s.old;
                parts = ap (λ (ys : List ℕ). x.block ∷ ys) s.parts;
                all = (i, s.all);
                now = i;
                entry = next_entry time v x i ∙ ap (λ (j : Bool). if j then v.entry (at d) else time) s.now ∙ s.entry;
                early = omega (arith, s.early);
              })
          | inr o ↦ inr (record { early = omega (arith, s.early); later = λ i. absurd (false≢true (sym o ∙ i)) })
        ]

    later_entry : (time : ℕ) (v : Visit) (x : Ran) → Left time v → f.within d x.block ≡ true → e < (next_visit f round time v x).entry (at d)
    later_entry time v x l i =
        subst (λ (j : ℕ). e < j) (sym (next_entry time v x i)) (elim (cases_Bool (f.within d v.block)) as
        (λ _. e < (if f.within d v.block then v.entry (at d) else time)) [
          | inl j ↦ subst (λ (q : Bool). e < (if q then v.entry (at d) else time)) (sym j) (l.later j)
          | inr j ↦ subst (λ (q : Bool). e < (if q then v.entry (at d) else time)) (sym j) l.early
        ])

    left_on : (time : ℕ) (v : Visit) (x : Ran) → Left time v → Left (time + 1) (next_visit f round time v x)
    left_on time v x l = record { early = omega (arith, l.early); later = later_entry time v x l }

    -- an entry is a time that has passed
    abbrev IsEarly : ℕ → Visit → Type 0
    IsEarly time v = f.within d v.block ≡ true → v.entry (at d) < time

    early_on : (time : ℕ) (v : Visit) (x : Ran) → IsEarly time v → IsEarly (time + 1) (next_visit f round time v x)
    early_on time v x l i =
        subst (λ (j : ℕ). j < time + 1) (sym (next_entry time v x i)) (elim (cases_Bool (f.within d v.block)) as
        (λ _. (if f.within d v.block then v.entry (at d) else time) < time + 1) [
          | inl j ↦ subst (λ (q : Bool). (if q then v.entry (at d) else time) < time + 1) (sym j) (let a = l j in omega (arith, a))
          | inr j ↦ subst (λ (q : Bool). (if q then v.entry (at d) else time) < time + 1) (sym j) (omega arith)
        ])

    abbrev Missed : List ℕ → Ran → Type 0
    Missed bs x = (k : ℕ) → x.missed k ≡ true → (k < uses.count x.block) × (finds t sets c (uses.point x.block k)
        (uses.before x.block k ++ history reversed bs) ≡ false)

    -- a visit that counts begins a stay
    begins : (time : ℕ) (u : Visit) (bs : List ℕ) → k < uses.count b → w u ≡ 1 → IsEarly time u → Stayed time u (u.block ∷ bs)
    begins time u bs lt one l =
        let is_b = counts uses.scope b k e u one in
        let inside : f.within d u.block ≡ true = subst (λ (q : ℕ). f.within d q ≡ true) (sym is_b.0) (are.around b k lt) in
        let same : u.entry (at d) ≡ e = ap u.entry (are.deep b k lt) ∙ is_b.1 in
        record {
          mid = [];
          old = bs;
          parts = ap (λ (q : ℕ). q ∷ bs) is_b.0;
          all = tt;
          now = inside;
          entry = same;
          early = subst
              (λ (q : ℕ). q < time) same (l inside);
        }

    -- in a stay the use hits
    hits_again : (time : ℕ) (v : Visit) (bs : List ℕ) → k < uses.count b → Stayed time v bs → IsHistory c.next (history reversed (b ∷ bs))
        → finds t sets c (uses.point b k) (uses.before b k ++ history reversed bs) ≡ true
    hits_again time v bs lt s run =
        subst (λ (ys : List ℕ). finds t sets c (uses.point b k) (uses.before b k ++ history reversed ys) ≡ true) (sym s.parts)
        (use_hits t sets c (points d) (f.within d) reversed b (uses.point b k) (uses.later b k) (uses.before b k) s.mid s.old some is
        (are.few b k lt) (are.whole d) (are.places b k lt) (are.around b k lt) s.all
        (subst (λ (ys : List ℕ). IsHistory c.next (history reversed (b ∷ ys))) s.parts run))

    first_one : (before time : ℕ) (v : Visit) (x : Ran) (bs : List ℕ) → Seen before time v bs
        → IsHistory c.next (history reversed (x.block ∷ bs)) → Missed bs x → w (next_visit f round time v x) ≡ 1 → before ≡ 0
    first_one before time v x bs seen run missed one =
        let is_b = counts uses.scope b k e (next_visit f round time v x) one in
        let block : x.block ≡ b = is_b.0 in
        let miss = missed k is_b.2 in
        let lt : k < uses.count b = subst (λ (q : ℕ). k < uses.count q) block miss.0 in
        elim seen as (λ _. before ≡ 0) [
          | inl q ↦ q
          | inr q ↦
              elim q as (λ _. before ≡ 0) [
                | inl s ↦
                    let hit = hits_again time v bs lt s (subst (λ (j : ℕ). IsHistory c.next (history reversed (j ∷ bs))) block run) in
                    let none : finds t sets c (uses.point b k) (uses.before b k ++ history reversed bs) ≡ false = subst
                    (λ (j : ℕ). finds t sets c (uses.point j k) (uses.before j k ++ history reversed bs) ≡ false) block miss.1 in
                    absurd (false≢true (sym none ∙ hit))
                | inr l ↦
                    let inside : f.within d x.block ≡ true = subst (λ (j : ℕ). f.within d j ≡ true) (sym block) (are.around b k lt) in
                    let late : e < (next_visit f round time v x).entry (at d) = later_entry time v x l inside in
                    let same : (next_visit f round time v x).entry (at d) ≡ e = ap (next_visit f round time v x).entry (are.deep b k lt)
                    ∙ is_b.1 in
                    absurd (omega (arith, late, same))
              ]
        ]

    seen_on : (before time : ℕ) (v : Visit) (x : Ran) (bs : List ℕ) → Seen before time v bs → IsEarly time v → Missed bs x
        → Seen (before + w (next_visit f round time v x)) (time + 1) (next_visit f round time v x) (x.block ∷ bs)
    seen_on before time v x bs seen l missed =
        elim (none_or_one (w (next_visit f round time v x)) (counts_less uses.scope b k e (next_visit f round time v x))) as
        (λ _. Seen (before + w (next_visit f round time v x)) (time + 1) (next_visit f round time v x) (x.block ∷ bs)) [
          | inl none ↦
              elim seen as (λ _. Seen (before + w (next_visit f round time v x)) (time + 1) (next_visit f round time v x) (x.block ∷ bs)) [
                | inl q ↦ inl (omega (arith, q, none))
                | inr q ↦
                    elim q as (λ _. Seen (before + w (next_visit f round time v x)) (time + 1) (next_visit f round time v x) (x.block ∷ bs)) [
                      | inl s ↦ inr (stays_on time v x bs s)
                      | inr r ↦ inr (inr (left_on time v x r))
                    ]
              ]
          | inr one ↦
              let is_b = counts uses.scope b k e (next_visit f round time v x) one in
              let miss = missed k is_b.2 in
              inr (inl (begins (time + 1) (next_visit f round time v x) bs (subst (λ (q : ℕ). k < uses.count q) is_b.0 miss.0) one
              (early_on time v x l)))
        ]

    firsts : (xs : List Ran) (before time : ℕ) (v : Visit) (bs : List ℕ) → Seen before time v bs → IsEarly time v
        → IsRun t c reversed uses sets bs xs → Firsts w before (visits_after f round time v xs)
    firsts [] before time v bs seen l run = tt
    firsts (x ∷ xs) before time v bs seen l run = (
      first_one before time v x bs seen run.0 run.1,
      firsts xs (before + w (next_visit f round time v x)) (time + 1) (next_visit f round time v x) (x.block ∷ bs)
          (seen_on before time v x bs seen l run.1) (early_on time v x l) run.2,
    )

    first_seen : (x : Ran) → Missed [] x → Seen (w (first_visit x)) 1 (first_visit x) (x.block ∷ [])
    first_seen x missed =
        elim (none_or_one (w (first_visit x)) (counts_less uses.scope b k e (first_visit x))) as
        (λ _. Seen (w (first_visit x)) 1 (first_visit x) (x.block ∷ [])) [
          | inl none ↦ inl none
          | inr one ↦
              let is_b = counts uses.scope b k e (first_visit x) one in
              let miss = missed k is_b.2 in
              inr (inl (begins 1 (first_visit x) [] (subst (λ (q : ℕ). k < uses.count q) is_b.0 miss.0) one (λ i. omega arith)))
        ]

    pub once : (x : Ran) (xs : List Ran) → IsRun t c reversed uses sets [] (x ∷ xs) → over w (all_visits f round x xs) + 0 ≤ 1
    once x xs run =
        let more : w (first_visit x) ≡ 0 + w (first_visit x) = omega arith in
        let rest = firsts xs (w (first_visit x)) 1 (first_visit x) (x.block ∷ []) (first_seen x run.1) (λ i. omega arith) run.2 in
        firsts_once w (counts_less uses.scope b k e) (all_visits f round x xs) 0 (omega arith)
        ((λ one. refl), subst (λ (j : ℕ). Firsts w j (visits_after f round 1 (first_visit x) xs)) more rest)

pub at_most_once : (t : Timing) (sets : List (List ℕ)) (c : Code) (f : LoopFlow) (at : ℕ → ℕ) (round : ℕ → ℕ → ℕ) (reversed : ℕ → List ℕ)
    (points : ℕ → ℕ → Bool) (uses : Uses)
    → 0 < t.sets → length sets ≡ t.sets → IsRound f at round → AreUses t c f at reversed points uses → (x : Ran) (xs : List Ran)
    → IsRun t c reversed uses sets [] (x ∷ xs)
    → AtMostOnce uses.scope (all_visits f round x xs ∷ [])
at_most_once t sets c f at round reversed points uses some is loops are x xs run b k e = once t sets c f at round reversed points uses some
    is loops are b k e x xs run
