-- What the files read so far say of all files.
use Rattle.std.proofs.Common.{◌≡◌, ℕ, ◌≤◌, ◌<◌, ◌||◌, inl, inr, Bool, true, false, List, [], ◌∷◌, ◌++◌, length, take, Option, Some, None, refl, sym, ap, subst, ◌∙◌, arith}
use Rattle.std.proofs.lemmas.Bool.{lt-ltb, false≢true}
use Rattle.std.proofs.lemmas.List.{take_all, length-take}
use Rattle.wsym_io.specs.Io.{File, IfTold, file_bytes}
use Rattle.input_files.specs.declared.reading.InputRefusal.{InputRefusal}
use Rattle.input_files.specs.declared.reading.InputRefusal.TheVariants.{Memory, ReadFault, TooLong}
use Rattle.input_files.specs.Inputs.{HasRisen, IsUnread, bytes_of, is_any_long, is_long, longest}

-- ---- one file

long_file : (shelf : List File) (name : List ℕ) → longest < length (file_bytes shelf name)
    → is_any_long (bytes_of shelf (name ∷ [])) ≡ true
long_file shelf name long = ap (λ (b : Bool). b || false) (lt-ltb longest (length (file_bytes shelf name)) long)

-- that number of bytes is only given of a file that is too long
pub told_long : (content : Option (List File)) (name bytes : List ℕ)
    → IfTold content (λ files. bytes ≡ take 67108865 (file_bytes files name)) → 67108864 < length bytes
    → IfTold content (λ shelf. is_any_long (bytes_of shelf (name ∷ [])) ≡ true)
told_long None name bytes told many = tt
told_long (Some shelf) name bytes told many =
    let given : 67108864 < length (take 67108865 (file_bytes shelf name)) =
    subst (λ (bs : List ℕ). 67108864 < length bs) told many in
    long_file shelf name (omega (arith, given, length-take 67108865 (file_bytes shelf name)))

whole_if_short : (n : ℕ) (xs : List ℕ) → length (take n xs) < n → take n xs ≡ xs
whole_if_short n xs short = take_all n xs (omega (arith, length-take n xs))

-- fewer bytes are the whole file
pub told_short : (content : Option (List File)) (name bytes : List ℕ)
    → IfTold content (λ files. bytes ≡ take 67108865 (file_bytes files name)) → length bytes ≤ 67108864
    → IfTold content (λ files. bytes ≡ file_bytes files name)
told_short None name bytes told few = tt
told_short (Some files) name bytes told few =
    let given : length (take 67108865 (file_bytes files name)) ≤ 67108864 =
    subst (λ (bs : List ℕ). length bs ≤ 67108864) told few in
    told ∙ whole_if_short 67108865 (file_bytes files name) (omega (arith, given))

-- ---- files in order

append_one : {A : Type 0} (xs : List A) (x : A) (ys : List A) → (xs ++ x ∷ []) ++ ys ≡ xs ++ (x ∷ ys)
append_one [] x ys = refl
append_one (y ∷ xs) x ys = ap (λ zs. y ∷ zs) (append_one xs x ys)

pub told_next : (content : Option (List File)) (files names rest : List (List ℕ)) (bytes name : List ℕ)
    → IfTold content (λ shelf. files ++ bytes_of shelf (name ∷ rest) ≡ bytes_of shelf names)
    → IfTold content (λ shelf. bytes ≡ file_bytes shelf name)
    → IfTold content (λ shelf. (files ++ bytes ∷ []) ++ bytes_of shelf rest ≡ bytes_of shelf names)
told_next None files names rest bytes name told is = tt
told_next (Some shelf) files names rest bytes name told is =
    append_one files bytes (bytes_of shelf rest) ∙ (ap (λ b. files ++ (b ∷ bytes_of shelf rest)) is ∙ told)

left_false : (x y : Bool) → x || y ≡ false → x ≡ false
left_false true y h = h
left_false false y h = refl

right_false : (x y : Bool) → x || y ≡ false → y ≡ false
right_false true y h = absurd (false≢true (sym h))
right_false false y h = h

pub short_next : (files : List (List ℕ)) (bytes : List ℕ) → is_any_long files ≡ false → is_long bytes ≡ false
    → is_any_long (files ++ bytes ∷ []) ≡ false
short_next [] bytes short is = ap (λ (b : Bool). b || false) is
short_next (f ∷ files) bytes short is =
    let first : is_long f ≡ false = left_false (is_long f) (is_any_long files) short in
    let others : is_any_long files ≡ false = right_false (is_long f) (is_any_long files) short in
    ap (λ b. b || is_any_long (files ++ bytes ∷ [])) first ∙ short_next files bytes others is

pub short_told : (content : Option (List File)) (name bytes : List ℕ)
    → IfTold content (λ shelf. bytes ≡ file_bytes shelf name) → is_long bytes ≡ false
    → IfTold content (λ shelf. is_long (file_bytes shelf name) ≡ false)
short_told None name bytes told short = tt
short_told (Some shelf) name bytes told short = sym (ap is_long told) ∙ short

abbrev pub IsLifted : Option (List File) → (List ℕ → ℕ) → List (List ℕ) → List (List ℕ) → Type 0
IsLifted content before rest names =
    (after : List ℕ → ℕ) → HasRisen content before after rest → HasRisen content before after names

pub lift_next : (content : Option (List File)) (before : List ℕ → ℕ) (name : List ℕ) (rest names : List (List ℕ))
    → IsLifted content before (name ∷ rest) names → IfTold content (λ shelf. is_long (file_bytes shelf name) ≡ false)
    → IsLifted content before rest names
lift_next content before name rest names lift short after risen = lift after (inr (short, risen))

long_among : (shelf : List File) (files rest names : List (List ℕ)) (name : List ℕ)
    → files ++ bytes_of shelf (name ∷ rest) ≡ bytes_of shelf names
    → is_any_long (bytes_of shelf (name ∷ [])) ≡ true → is_any_long (bytes_of shelf names) ≡ true
long_among shelf files rest names name told long =
    sym (ap is_any_long told) ∙ any_after files
  where
    first : is_long (file_bytes shelf name) ≡ true
    first = let e : is_long (file_bytes shelf name) || false ≡ true = long in grind arith

    any_after : (fs : List (List ℕ)) → is_any_long (fs ++ bytes_of shelf (name ∷ rest)) ≡ true
    any_after [] = ap (λ b. b || is_any_long (bytes_of shelf rest)) first
    any_after (f ∷ fs) = let e = any_after fs in grind arith

-- why one file can't be read is why the files can't
pub unread_next : (content : Option (List File)) (before middle after : List ℕ → ℕ) (files names rest : List (List ℕ))
    (name : List ℕ) (why : InputRefusal)
    → ((other : List ℕ) → before other ≤ middle other) → IsLifted content before (name ∷ rest) names
    → IfTold content (λ shelf. files ++ bytes_of shelf (name ∷ rest) ≡ bytes_of shelf names)
    → IsUnread content middle after (name ∷ []) why → IsUnread content before after names why
unread_next content before middle after files names rest name Memory rose lift told is = tt
unread_next content before middle after files names rest name ReadFault rose lift told (inl is) =
    lift after (inl (let le = rose name in omega (arith, is, le)))
unread_next content before middle after files names rest name ReadFault rose lift told (inr is) = absurd is.1
unread_next None before middle after files names rest name TooLong rose lift told is = tt
unread_next (Some shelf) before middle after files names rest name TooLong rose lift told is =
    long_among shelf files rest names name told is
