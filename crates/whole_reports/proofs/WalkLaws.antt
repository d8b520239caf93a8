-- The machine reads exactly the texts of lines that may follow one another, and names the first line that may not.
use Rattle.std.proofs.Common.{◌⊎◌, inl, inr, ⊎_elim, Bool, true, false, ℕ, ◌+◌, ◌≡◌, ◌≢◌, ◌==◌, List, [], ◌∷◌, ◌++◌, Option, Some, None, Result, Ok, Err, refl, sym, ap, ◌∙◌, subst, append_assoc, append-nil, length, arith}
use Rattle.std.proofs.lemmas.Bool.{eqb-true, eqb-false}
use Rattle.std.proofs.lemmas.Bool.Decides.{nat_tests}
use Rattle.std.specs.Option.{option_and_then}
use Rattle.whole_reports.specs.Walk.{or_bad, ended, take_line, walked, Spells, NoLine}

abbrev pub NoFeed : List ℕ → Type 0
NoFeed [] = Unit {0}
NoFeed (b ∷ bs) = (b ≢ 10) × NoFeed bs

pub no_feed_both : (xs ys : List ℕ) → NoFeed xs → NoFeed ys → NoFeed (xs ++ ys)
no_feed_both [] ys x y = y
no_feed_both (b ∷ xs) ys x y = (x.0, no_feed_both xs ys x.1 y)

heads : (a b : ℕ) (xs ys : List ℕ) → ◌≡◌ {A = List ℕ} (a ∷ xs) (b ∷ ys) → (a ≡ b) × (xs ≡ ys)
heads a b xs ys e = (cc, cc)

-- the first line feed parts a text in one way
one_split : (xs us ys vs : List ℕ) → NoFeed xs → NoFeed us → xs ++ (10 ∷ ys) ≡ us ++ (10 ∷ vs) → xs ≡ us
one_split [] [] ys vs x u e = refl
one_split [] (c ∷ us) ys vs x u e = absurd (u.0 (sym (heads 10 c ys (us ++ (10 ∷ vs)) e).0))
one_split (b ∷ xs) [] ys vs x u e = absurd (x.0 (heads b 10 (xs ++ (10 ∷ ys)) vs e).0)
one_split (b ∷ xs) (c ∷ us) ys vs x u e =
    let parts = heads b c (xs ++ (10 ∷ ys)) (us ++ (10 ∷ vs)) e in
    ap (λ (d : ℕ). d ∷ xs) parts.0 ∙ ap (λ (ws : List ℕ). c ∷ ws) (one_split xs us ys vs x.1 u.1 parts.1)

no_split : (xs us vs : List ℕ) → NoFeed xs → xs ≢ us ++ (10 ∷ vs)
no_split [] [] vs x e = absurd (cc)
no_split [] (c ∷ us) vs x e = absurd (cc)
no_split (b ∷ xs) [] vs x e = x.0 (heads b 10 xs vs e).0
no_split (b ∷ xs) (c ∷ us) vs x e = no_split xs us vs x.1 (heads b c xs (us ++ (10 ∷ vs)) e).1

ended_ok : {R : Type 0} (k : ℕ) (line : List ℕ) (o : Option R) (r : R) → ended k line o ≡ Ok r → (line ≡ []) × (o ≡ Some r)
ended_ok k [] (Some x) r e = (refl, cc)
ended_ok k [] None r e = absurd (cc)
ended_ok k (b ∷ bs) o r e = absurd (cc)

ended_err : {R : Type 0} (k : ℕ) (line : List ℕ) (o : Option R) (j : ℕ) → ended k line o ≡ Err j → (j ≡ k) × (line ≡ [] → o ≡ None)
ended_err k [] (Some x) j e = absurd (cc)
ended_err k [] None j e = (cc, λ _. refl)
ended_err k (b ∷ bs) o j e = (cc, λ n. absurd (cc))

or_bad_ok : {A B : Type 0} (k : ℕ) (f : A → Result B ℕ) (o : Option A) (r : B) → or_bad k f o ≡ Ok r → (a : A) × (o ≡ Some a) × (f a ≡ Ok r)
or_bad_ok k f None r e = absurd (cc)
or_bad_ok k f (Some a) r e = (a, refl, e)

or_bad_err : {A B : Type 0} (k : ℕ) (f : A → Result B ℕ) (o : Option A) (j : ℕ) → or_bad k f o ≡ Err j → ((o ≡ None) × (j ≡ k)) ⊎ ((a : A) × (o ≡ Some a) × (f a ≡ Err j))
or_bad_err k f None j e = inl (refl, cc)
or_bad_err k f (Some a) j e = inr (a, refl, e)

then_some : {A B : Type 0} (f : A → Option B) (o : Option A) (b : B) → option_and_then f o ≡ Some b → (a : A) × (o ≡ Some a) × (f a ≡ Some b)
then_some f None b e = absurd (cc)
then_some f (Some a) b e = (a, refl, e)

pub none_some : {A : Type 0} {a : A} → None ≡ Some a → ⊥
none_some e = absurd (cc)

not_empty : (line : List ℕ) (b : ℕ) (bs : List ℕ) → line ++ (b ∷ bs) ≡ [] → ⊥
not_empty [] b bs e = absurd (cc)
not_empty (c ∷ line) b bs e = absurd (cc)

feed_test : (b : ℕ) (t : Bool) → (b == 10) ≡ t → (b ≡ 10) ⊎ (b ≢ 10)
feed_test b true e = inl (eqb-true b 10 e)
feed_test b false e = inr (eqb-false b 10 e)

first_feed : (bs : List ℕ) → NoFeed bs ⊎ ((xs : List ℕ) × (ys : List ℕ) × NoFeed xs × (bs ≡ xs ++ (10 ∷ ys)))
first_feed [] = inl tt
first_feed (b ∷ bs) =
    ⊎_elim
    (λ is. inr ([], bs, tt, ap (λ (c : ℕ). c ∷ bs) is))
    (λ other. ⊎_elim (λ clean. inl (other, clean)) (λ s. inr (b ∷ s.0, s.1, (other, s.2), ap (λ (cs : List ℕ). b ∷ cs) s.3)) (first_feed bs))
    (feed_test b (b == 10) refl)

module _ {Form Line R : Type 0} (read_line : Form → List ℕ → Option Line) (after : Form → Line → Option Form) (done : Form → Option R) (text : Form → Line → List ℕ) where
  abbrev walk : ℕ → List ℕ → Form → List ℕ → Result R ℕ
  walk = walked read_line after done

  byte_on : (k : ℕ) (line : List ℕ) (f : Form) (b : ℕ) (bs : List ℕ) → b ≢ 10 → walk k line f (b ∷ bs) ≡ walk k (line ++ b ∷ []) f bs
  byte_on k line f b bs other = grind (arith, nat_tests)

  line_on : (k : ℕ) (line : List ℕ) (f : Form) (bs rest : List ℕ) → NoFeed bs → walk k line f (bs ++ rest) ≡ walk k (line ++ bs) f rest
  line_on k line f [] rest clean = ap (λ (l : List ℕ). walk k l f rest) (sym (append-nil line))
  line_on k line f (b ∷ bs) rest clean =
      byte_on k line f b (bs ++ rest) clean.0
      ∙ line_on k (line ++ b ∷ []) f bs rest clean.1
      ∙ ap (λ (l : List ℕ). walk k l f rest) (append_assoc line (b ∷ []) bs)

  module _ (reads : (f : Form) (l : Line) (m : Form) → after f l ≡ Some m → read_line f (text f l) ≡ Some l) (no_feed : (f : Form) (l : Line) (m : Form) → after f l ≡ Some m → NoFeed (text f l)) where
    taken : (f : Form) (l : Line) (m : Form) → after f l ≡ Some m → take_line read_line after done f (text f l) ≡ Some m
    taken f l m e = ap (option_and_then (after f)) (reads f l m e) ∙ e

    pub walk_only : (ls : List Line) (k : ℕ) (f g : Form) (bs : List ℕ) (r : R) → Spells text after f ls g bs → done g ≡ Some r → walk k [] f bs ≡ Ok r
    walk_only [] k f g bs r s e = ap (λ (cs : List ℕ). walk k [] f cs) s.1 ∙ ap (λ (h : Form). ended k [] (done h)) s.0 ∙ ap (ended k []) e
    walk_only (l ∷ ls) k f g bs r (m, rest, may, is, s) e =
        ap (λ (cs : List ℕ). walk k [] f cs) is
        ∙ line_on k [] f (text f l) (10 ∷ rest) (no_feed f l m may)
        ∙ ap (or_bad k (λ (h : Form). walk (k + 1) [] h rest)) (taken f l m may)
        ∙ walk_only ls (k + 1) m g rest r s e

  -- what a machine that gives a report has read
  abbrev pub Read : Form → List ℕ → R → Type 0
  Read f bs r = (ls : List Line) × (g : Form) × Spells text after f ls g bs × (done g ≡ Some r)

  module _ (exact : (f : Form) (bs : List ℕ) (l : Line) → read_line f bs ≡ Some l → bs ≡ text f l) where
    read_same : (f : Form) (cs bs : List ℕ) (r : R) → cs ≡ bs → Read f cs r → Read f bs r
    read_same f cs bs r e h = subst (λ (x : List ℕ). Read f x r) e h

    found_line : (line : List ℕ) (f : Form) (b : ℕ) (bs : List ℕ) (r : R) (l : Line) (g : Form) → b ≡ 10 → line ≡ text f l → after f l ≡ Some g → Read g bs r → Read f (line ++ (b ∷ bs)) r
    found_line line f b bs r l g is same may (ls, h, s, fin) = (l ∷ ls, h, (g, bs, may, (λ i. same i ++ (is i ∷ bs)), s), fin)

    pub walk_found : (bs : List ℕ) (k : ℕ) (line : List ℕ) (f : Form) (r : R) → walk k line f bs ≡ Ok r → Read f (line ++ bs) r
    walk_found [] k line f r e =
        let at_end = ended_ok k line (done f) r e in
        ([], f, (refl, append-nil line ∙ at_end.0), at_end.1)
    walk_found (b ∷ bs) k line f r e =
        ⊎_elim
        (λ is.
        let o = or_bad_ok k (λ (g : Form). walk (k + 1) [] g bs) (take_line read_line after done f line) r (subst (λ (c : ℕ). walk k line f (c ∷ bs) ≡ Ok r) is e) in
        let parts = then_some (after f) (read_line f line) o.0 o.1 in
        found_line line f b bs r parts.0 o.0 is (exact f line parts.0 parts.1) parts.2 (walk_found bs (k + 1) [] o.0 r o.2))
        (λ other. read_same f ((line ++ b ∷ []) ++ bs) (line ++ (b ∷ bs)) r (append_assoc line (b ∷ []) bs) (walk_found bs k (line ++ b ∷ []) f r (sym (byte_on k line f b bs other) ∙ e)))
        (feed_test b (b == 10) refl)

  -- what a machine that gives a line number has read
  abbrev pub Bad : Form → List ℕ → ℕ → ℕ → Type 0
  Bad f bs k j = (ls : List Line) × (g : Form) × (front : List ℕ) × (rest : List ℕ) × Spells text after f ls g front × (bs ≡ front ++ rest) × (j ≡ length ls + k) × NoLine text after g rest × (rest ≡ [] → done g ≡ None)

  module _ (exact : (f : Form) (bs : List ℕ) (l : Line) → read_line f bs ≡ Some l → bs ≡ text f l) (reads : (f : Form) (l : Line) (m : Form) → after f l ≡ Some m → read_line f (text f l) ≡ Some l) (no_feed : (f : Form) (l : Line) (m : Form) → after f l ≡ Some m → NoFeed (text f l)) where
    not_taken : (line : List ℕ) (f : Form) (l : Line) (m : Form) → take_line read_line after done f line ≡ None → after f l ≡ Some m → line ≡ text f l → ⊥
    not_taken line f l m none may same = none_some (sym none ∙ ap (λ (x : List ℕ). take_line read_line after done f x) same ∙ ap (option_and_then (after f)) (reads f l m may) ∙ may)

    bad_same : (f : Form) (cs bs : List ℕ) (k j : ℕ) → cs ≡ bs → Bad f cs k j → Bad f bs k j
    bad_same f cs bs k j e h = subst (λ (x : List ℕ). Bad f x k j) e h

    bad_end : (line : List ℕ) (k : ℕ) (f : Form) (j : ℕ) → NoFeed line → j ≡ k → (line ≡ [] → done f ≡ None) → Bad f (line ++ []) k j
    bad_end line k f j clean is none = ([], f, [], line, (refl, refl), append-nil line, omega (arith, is), (λ l m later may same. no_split line (text f l) later clean same), none)

    bad_here : (line : List ℕ) (k : ℕ) (f : Form) (b : ℕ) (bs : List ℕ) (j : ℕ) → NoFeed line → b ≡ 10 → take_line read_line after done f line ≡ None → j ≡ k → Bad f (line ++ (b ∷ bs)) k j
    bad_here line k f b bs j clean is none at = (
      [],
      f,
      [],
      line ++ (b ∷ bs),
      (refl, refl),
      refl,
      omega (arith, at),
      (λ l m later may same. not_taken line f l m none may (one_split line (text f l) bs later clean (no_feed f l m may) ((λ i. line ++ (sym is i ∷ bs)) ∙ same))),
      (λ e. absurd (not_empty line b bs e)),
    )

    bad_line : (line : List ℕ) (k : ℕ) (f : Form) (b : ℕ) (bs : List ℕ) (j : ℕ) (l : Line) (g : Form) → b ≡ 10 → line ≡ text f l → after f l ≡ Some g → Bad g bs (k + 1) j → Bad f (line ++ (b ∷ bs)) k j
    bad_line line k f b bs j l g is same may (ls, h, front, rest, s, parts, at, none, fin) = (
      l ∷ ls,
      h,
      text f l ++ (10 ∷ front),
      rest,
      (g, front, may, refl, s),
      (λ i. same i ++ (is i ∷ parts i)) ∙ sym (append_assoc (text f l) (10 ∷ front) rest),
      omega (arith, at),
      none,
      fin,
    )

    pub walk_bad : (bs : List ℕ) (k : ℕ) (line : List ℕ) (f : Form) (j : ℕ) → NoFeed line → walk k line f bs ≡ Err j → Bad f (line ++ bs) k j
    walk_bad [] k line f j clean e =
        let at_end = ended_err k line (done f) j e in
        bad_end line k f j clean at_end.0 at_end.1
    walk_bad (b ∷ bs) k line f j clean e =
        ⊎_elim
        (λ is. ⊎_elim
        (λ stuck. bad_here line k f b bs j clean is stuck.0 stuck.1)
        (λ o.
        let parts = then_some (after f) (read_line f line) o.0 o.1 in
        bad_line line k f b bs j parts.0 o.0 is (exact f line parts.0 parts.1) parts.2 (walk_bad bs (k + 1) [] o.0 j tt o.2))
        (or_bad_err k (λ (g : Form). walk (k + 1) [] g bs) (take_line read_line after done f line) j (subst (λ (c : ℕ). walk k line f (c ∷ bs) ≡ Err j) is e)))
        (λ other. bad_same f ((line ++ b ∷ []) ++ bs) (line ++ (b ∷ bs)) k j (append_assoc line (b ∷ []) bs) (walk_bad bs k (line ++ b ∷ []) f j (no_feed_both line (b ∷ []) clean (other, tt)) (sym (byte_on k line f b bs other) ∙ e)))
        (feed_test b (b == 10) refl)

  module _ (exact : (f : Form) (bs : List ℕ) (l : Line) → read_line f bs ≡ Some l → bs ≡ text f l) (reads : (f : Form) (l : Line) (m : Form) → after f l ≡ Some m → read_line f (text f l) ≡ Some l) (no_feed : (f : Form) (l : Line) (m : Form) → after f l ≡ Some m → NoFeed (text f l)) where
    no_taken : (g : Form) (xs ys : List ℕ) (o : Option Form) → NoLine text after g (xs ++ (10 ∷ ys)) → take_line read_line after done g xs ≡ o → o ≡ None
    no_taken g xs ys None none is = refl
    no_taken g xs ys (Some m) none is =
        let parts = then_some (after g) (read_line g xs) m is in
        absurd (none parts.0 m ys parts.2 (ap (λ (x : List ℕ). x ++ (10 ∷ ys)) (exact g xs parts.0 parts.1)))

    ended_stuck : (k : ℕ) (rest : List ℕ) (g : Form) → (rest ≡ [] → done g ≡ None) → ended k rest (done g) ≡ Err k
    ended_stuck k [] g fin = ap (ended k []) (fin refl)
    ended_stuck k (b ∷ bs) g fin = refl

    stuck_split : (k : ℕ) (g : Form) (rest xs ys : List ℕ) → NoFeed xs → rest ≡ xs ++ (10 ∷ ys) → NoLine text after g rest → walk k [] g rest ≡ Err k
    stuck_split k g rest xs ys clean is none =
        ap (walk k [] g) is
        ∙ line_on k [] g xs (10 ∷ ys) clean
        ∙ ap (or_bad k (λ (h : Form). walk (k + 1) [] h ys)) (no_taken g xs ys (take_line read_line after done g xs) (subst (NoLine text after g) is none) refl)

    stuck : (k : ℕ) (g : Form) (rest : List ℕ) → NoLine text after g rest → (rest ≡ [] → done g ≡ None) → walk k [] g rest ≡ Err k
    stuck k g rest none fin =
        ⊎_elim
        (λ clean. ap (walk k [] g) (sym (append-nil rest)) ∙ line_on k [] g rest [] clean ∙ ended_stuck k rest g fin)
        (λ s. stuck_split k g rest s.0 s.1 s.2 s.3 none)
        (first_feed rest)

    pub walk_bad_only : (ls : List Line) (k : ℕ) (f g : Form) (front rest : List ℕ) → Spells text after f ls g front → NoLine text after g rest → (rest ≡ [] → done g ≡ None) → walk k [] f (front ++ rest) ≡ Err (length ls + k)
    walk_bad_only [] k f g front rest s none fin =
        (λ i. walk k [] (s.0 i) (s.1 i ++ rest)) ∙ stuck k g rest none fin ∙ ap Err (omega arith)
    walk_bad_only (l ∷ ls) k f g front rest (m, later, may, is, s) none fin =
        ap (λ (x : List ℕ). walk k [] f (x ++ rest)) is
        ∙ ap (walk k [] f) (append_assoc (text f l) (10 ∷ later) rest)
        ∙ line_on k [] f (text f l) (10 ∷ (later ++ rest)) (no_feed f l m may)
        ∙ ap (or_bad k (λ (h : Form). walk (k + 1) [] h (later ++ rest))) (ap (option_and_then (after f)) (reads f l m may) ∙ may)
        ∙ walk_bad_only ls (k + 1) m g later rest s none fin
        ∙ ap Err (omega arith)
