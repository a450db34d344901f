-- Laws of big-endian fields, over the width. Assumes nothing.
use mathlib.Core.Path.{◌≡◌, refl, sym, ap, ap₂, ◌∙◌}
use mathlib.Core.Logic.{◌⊎◌, inl, inr}
use Prim.Native.Nat.{ℕ, zero, suc, ◌+◌, ◌*◌, ◌-◌, ◌/◌, ◌%◌, ◌^◌, ◌≤◌, ◌<◌}
use mathlib.Core.List.{List, [], ◌∷◌, ◌++◌}
use native.Mathlib.Nat.{add-zero, zero-add, add-suc, add_assoc, mul_assoc, add-mul, pow-suc, pow-zero, mul-one, mod-one, mod-eq_of_lt, mod-lt, div-eq_of_lt, mul-add-div_right, mul-add-mod_self_right, one-le-pow, div-div-eq-div-mul, div-add-mod', not-suc-le-zero, le_of_suc-le-suc}
use native.Mathlib.Omega.{arith}
use lib.ListN.{length, set, length-append, get_or-append}
use lib.Seq.{get_or-append-add, ext_get_or, sets}
use Rattle.rules.specs.Walks.{sum_to, join_from}
use Rattle.rules.specs.Fields.{byte, field, bytes_of, AllBytes}
use Rattle.rules.proofs.Laws.Division.{lt-or_ge}
use Rattle.rules.proofs.Laws.Sums.{sum_ext, sum_const}
use Rattle.rules.proofs.Laws.Walks.{last_or, join-snoc, join_last, join-length-zero}

-- a field of m + n bytes is one of m bytes and then one of n
pub field-add : (m n : ℕ) (s : List ℕ) (at : ℕ) → field (m + n) s at ≡ field m s at * 256 ^ n + field n s (at + m)
unfolding field
field-add m zero s at = simp (add-zero, pow-zero, mul-one)
field-add m (suc n) s at = rw (add-suc, field-add m n s at) (simp (pow-suc, add-mul, mul_assoc, add_assoc))

pub bytes-length : (n x : ℕ) → length (bytes_of n x) ≡ n
unfolding bytes_of
bytes-length zero x = refl
bytes-length (suc n) x = ap suc (bytes-length n x)

-- ---- what is written is read back
pub field-one : (s : List ℕ) (at : ℕ) → field 1 s at ≡ byte s at
unfolding field
field-one s at = rw (add-zero at) (omega arith)

-- the highest byte, and the field behind it
pub field-first : (n : ℕ) (s : List ℕ) (at : ℕ) → field (suc n) s at ≡ byte s at * 256 ^ n + field n s (at + 1)
field-first n s at =
    ap (λ w. field w s at) (let e : suc n ≡ 1 + n = omega arith in e) ∙ field-add 1 n s at ∙ ap (λ c. c * 256 ^ n + field n s (at + 1)) (field-one s at)

-- the rest by m * k: the rest of the quotient, and the rest
pub mod-mul : (x m k : ℕ) → x % (m * k) ≡ x / m % k * m + x % m
mod-mul x m k =
    omega
    (arith, div-add-mod' x m, div-add-mod' x (m * k), ap (◌* m) (div-add-mod' (x / m) k), ap (◌* (m * k)) (div-div-eq-div-mul x m k))

-- the bytes t stand in s from `at` on
unfoldable pub StandsAt : List ℕ → ℕ → List ℕ → Type 0
StandsAt s at t = (k : ℕ) → k < length t → byte s (at + k) ≡ byte t k

pub stands-whole : (s : List ℕ) → StandsAt s 0 s
unfolding StandsAt
stands-whole s k l = ap (byte s) (zero-add k)

pub stands-first : (s : List ℕ) (at : ℕ) (t u : List ℕ) → StandsAt s at (t ++ u) → StandsAt s at t
unfolding StandsAt
stands-first s at t u h k l = h k (omega (arith, length-append t u)) ∙ get_or-append t u 0 k l

pub stands-next : (s : List ℕ) (at : ℕ) (t u : List ℕ) → StandsAt s at (t ++ u) → StandsAt s (at + length t) u
unfolding StandsAt
stands-next s at t u h k l = rw (add_assoc at (length t) k) (h (length t + k) (omega (arith, length-append t u)) ∙ get_or-append-add t u k 0)

-- behind n bytes
pub stands_after : (s : List ℕ) (at n : ℕ) (t u : List ℕ) → length t ≡ n → StandsAt s at (t ++ u) → StandsAt s (at + n) u
stands_after s at n t u e h = rw e at (stands-next s at t u h)

pub stands-head : (s : List ℕ) (at c : ℕ) (t : List ℕ) → StandsAt s at (c ∷ t) → byte s at ≡ c
unfolding StandsAt
stands-head s at c t h = ap (byte s) (sym (add-zero at)) ∙ h 0 (omega arith)

-- a number written in n bytes, read back: what n bytes can hold of it
pub field-mod : (n x : ℕ) (s : List ℕ) (at : ℕ) → StandsAt s at (bytes_of n x) → field n s at ≡ x % 256 ^ n
unfolding bytes_of field
field-mod zero x s at h = sym (mod-one x)
field-mod (suc n) x s at h =
    field-first n s at
    ∙ ap₂ (λ c r. c * 256 ^ n + r) (stands-head s at (x / 256 ^ n % 256) (bytes_of n x) h)
    (field-mod n x s (at + 1) (stands-next s at (x / 256 ^ n % 256 ∷ []) (bytes_of n x) h))
    ∙ sym (mod-mul x (256 ^ n) 256)
    ∙ ap (x %◌) (sym (pow-suc 256 n))

-- a number that n bytes can hold
pub field-written : (n x : ℕ) (s : List ℕ) (at : ℕ) → x < 256 ^ n → StandsAt s at (bytes_of n x) → field n s at ≡ x
field-written n x s at l h = field-mod n x s at h ∙ mod-eq_of_lt l

pub byte-written : (x : ℕ) (s : List ℕ) (at : ℕ) → x < 256 → StandsAt s at (bytes_of 1 x) → byte s at ≡ x
byte-written x s at l h = sym (field-one s at) ∙ field-written 1 x s at l h

-- between other bytes
pub field_between : (n x : ℕ) (xs ys : List ℕ) → x < 256 ^ n → field n (xs ++ bytes_of n x ++ ys) (length xs) ≡ x
field_between n x xs ys l =
    let s = xs ++ bytes_of n x ++ ys in
    field-written n x s (length xs) l (rw (zero-add (length xs)) at (stands-next s 0 xs (bytes_of n x) (stands-first s 0 (xs ++ bytes_of n x) ys (stands-whole s))))

-- the k-th of several lists that stand one after the other
pub stands_join : (s : List ℕ) (at : ℕ) (g : ℕ → List ℕ) (n : ℕ) → StandsAt s at (join_from g n 0) →
    (k : ℕ) → k < n → StandsAt s (at + sum_to (λ j. length (g j)) k) (g k)
stands_join s at g zero h k l = absurd (not-suc-le-zero l)
stands_join s at g (suc n) h k l =
    last_or k n l (λ e. rw e last) (λ m. stands_join s at g n (stands-first s at (join_from g n 0) (g (0 + n)) split) k m)
  where
    split : StandsAt s at (join_from g n 0 ++ g (0 + n))
    split = rw (join-snoc g n 0) at h

    last : StandsAt s (at + sum_to (λ j. length (g j)) n) (g n)
    last =
        rw (zero-add n) at
        (stands_after s at (sum_to (λ j. length (g j)) n) (join_from g n 0) (g (0 + n)) (join-length-zero g n) split)

-- ---- what is written is bytes
pub bytes-none : AllBytes []
unfolding AllBytes
bytes-none i = omega arith

pub bytes-append : (xs ys : List ℕ) → AllBytes xs → AllBytes ys → AllBytes (xs ++ ys)
unfolding AllBytes
bytes-append [] ys h g i = g i
bytes-append (x ∷ xs) ys h g zero = h zero
bytes-append (x ∷ xs) ys h g (suc i) = bytes-append xs ys (λ k. h (suc k)) g i

pub bytes_of_lem : (n x : ℕ) → AllBytes (bytes_of n x)
unfolding AllBytes bytes_of
bytes_of_lem zero x i = omega arith
bytes_of_lem (suc n) x zero = mod-lt (x / 256 ^ n) (omega arith)
bytes_of_lem (suc n) x (suc i) = bytes_of_lem n x i

pub bytes_join : (g : ℕ → List ℕ) (n s : ℕ) → ((k : ℕ) → AllBytes (g k)) → AllBytes (join_from g n s)
unfolding join_from
bytes_join g zero s h = bytes-none
bytes_join g (suc n) s h = bytes-append (g s) (join_from g n (s + 1)) (h s) (bytes_join g n (s + 1) h)

-- ---- what is read is what stands there
pub field_lt : (n : ℕ) (s : List ℕ) (at : ℕ) → AllBytes s → field n s at < 256 ^ n
unfolding field AllBytes
field_lt zero s at h = omega arith
field_lt (suc n) s at h = omega (arith, field_lt n s at h, h (at + n))

-- quotient and rest are determined
quotient-rest : (m a r c q : ℕ) → r < m → q < m → a * m + r ≡ c * m + q → (a ≡ c) × (r ≡ q)
quotient-rest m a r c q l k e =
    let pos : 0 < m = omega arith in
    (sym (quotient pos a r l) ∙ ap (◌/ m) e ∙ quotient pos c q k, sym (rest a r l) ∙ ap (◌% m) e ∙ rest c q k)
  where
    quotient : 0 < m → (x y : ℕ) → y < m → (x * m + y) / m ≡ x
    quotient pos x y b = mul-add-div_right pos x y ∙ omega (arith, div-eq_of_lt b)

    rest : (x y : ℕ) → y < m → (x * m + y) % m ≡ y
    rest x y b = mul-add-mod_self_right x m y ∙ mod-eq_of_lt b

pub stands_empty : (s : List ℕ) (at : ℕ) → StandsAt s at []
unfolding StandsAt
stands_empty s at k l = absurd (not-suc-le-zero l)

pub stands_one : (s : List ℕ) (at c : ℕ) → byte s at ≡ c → StandsAt s at (c ∷ [])
unfolding StandsAt
stands_one s at c e zero l = ap (byte s) (add-zero at) ∙ e
stands_one s at c e (suc k) l = absurd (not-suc-le-zero (le_of_suc-le-suc l))

pub stands-append : (s : List ℕ) (at n : ℕ) (t u : List ℕ) → length t ≡ n → StandsAt s at t → StandsAt s (at + n) u → StandsAt s at (t ++ u)
unfolding StandsAt
stands-append s at n t u e g h k l = go (lt-or_ge k (length t))
  where
    go : (k < length t) ⊎ (length t ≤ k) → byte s (at + k) ≡ byte (t ++ u) k
    go (inl b) = g k b ∙ sym (get_or-append t u 0 k b)
    go (inr b) =
        let j = k - length t in
        let here : at + n + j ≡ at + k = omega arith in
        let there : length t + j ≡ k = omega arith in
        ap (byte s) (sym here) ∙ h j (omega (arith, length-append t u)) ∙ sym (get_or-append-add t u j 0) ∙ ap (byte (t ++ u)) there

-- several lists, each where those before it end
pub joined-stands : (s : List ℕ) (at : ℕ) (g : ℕ → List ℕ) (n : ℕ) → ((k : ℕ) → k < n → StandsAt s (at + sum_to (λ j. length (g j)) k) (g k)) →
    StandsAt s at (join_from g n 0)
unfolding join_from
joined-stands s at g zero h = stands_empty s at
joined-stands s at g (suc n) h =
    rw (join_last g n)
    (stands-append s at (sum_to (λ j. length (g j)) n) (join_from g n 0) (g n) (join-length-zero g n)
    (joined-stands s at g n (λ k l. h k (omega arith))) (h n (omega arith)))

-- the bytes of a number, where the field has what n bytes can hold of it
pub field-stands : (n x : ℕ) (s : List ℕ) (at : ℕ) → AllBytes s → field n s at ≡ x % 256 ^ n → StandsAt s at (bytes_of n x)
unfolding bytes_of
field-stands zero x s at h e = stands_empty s at
field-stands (suc n) x s at h e =
    let split = sym (field-first n s at) ∙ e ∙ ap (x %◌) (pow-suc 256 n) ∙ mod-mul x (256 ^ n) 256 in
    let parts =
    quotient-rest (256 ^ n) (byte s at) (field n s (at + 1)) (x / 256 ^ n % 256) (x % 256 ^ n)
    (field_lt n s (at + 1) h) (mod-lt x (one-le-pow n 256 (omega arith))) split in
    stands-append s at 1 (x / 256 ^ n % 256 ∷ []) (bytes_of n x) refl
    (stands_one s at (x / 256 ^ n % 256) parts.0) (field-stands n x s (at + 1) h parts.1)

pub field-read : (n : ℕ) (s : List ℕ) (at : ℕ) → AllBytes s → StandsAt s at (bytes_of n (field n s at))
field-read n s at h = field-stands n (field n s at) s at h (sym (mod-eq_of_lt (field_lt n s at h)))

pub byte-read : (s : List ℕ) (at : ℕ) → AllBytes s → StandsAt s at (bytes_of 1 (byte s at))
byte-read s at h = rw (← field-one s at) (field-read 1 s at h)

-- a list is the one that stands in it and is as long
pub stands-equal : (s t : List ℕ) → length s ≡ length t → StandsAt s 0 t → s ≡ t
unfolding StandsAt
stands-equal s t e h = ext_get_or 0 s t e (λ k l. ap (byte s) (sym (zero-add k)) ∙ h k (omega arith))

-- lists of c bytes each, one after the other
pub join-bytes-length : (g : ℕ → List ℕ) (c n : ℕ) → ((k : ℕ) → k < n → length (g k) ≡ c) → length (join_from g n 0) ≡ c * n
join-bytes-length g c n h = join-length-zero g n ∙ sum_ext (λ k. length (g k)) (λ k. c) n h ∙ sum_const c n

bytes-before : (g : ℕ → List ℕ) (c n : ℕ) → ((k : ℕ) → k < n → length (g k) ≡ c) → (k : ℕ) → k < n → sum_to (λ j. length (g j)) k ≡ c * k
bytes-before g c n e k l = sum_ext (λ j. length (g j)) (λ j. c) k (λ j m. e j (omega arith)) ∙ sum_const c k

pub join_stands : (s : List ℕ) (at : ℕ) (g : ℕ → List ℕ) (c n : ℕ) → ((k : ℕ) → k < n → length (g k) ≡ c) →
    ((k : ℕ) → k < n → StandsAt s (at + c * k) (g k)) → StandsAt s at (join_from g n 0)
join_stands s at g c n e h = joined-stands s at g n (λ k l. rw (bytes-before g c n e k l) (h k l))

pub stands_join-at : (s : List ℕ) (at : ℕ) (g : ℕ → List ℕ) (c n : ℕ) → ((k : ℕ) → k < n → length (g k) ≡ c) →
    StandsAt s at (join_from g n 0) → (k : ℕ) → k < n → StandsAt s (at + c * k) (g k)
stands_join-at s at g c n e h k l = rw (bytes-before g c n e k l) at (stands_join s at g n h k l)

-- ---- stores one after the other are one run of stores
pub sets-append {ℓ} : {A : Type ℓ} (l : List A) (at : ℕ) (a b : List A) → sets (sets l at a) (at + length a) b ≡ sets l at (a ++ b)
sets-append l at [] b = rw add-zero refl
sets-append l at (x ∷ a) b =
    let e : at + suc (length a) ≡ suc at + length a = omega arith in
    rw e (sets-append (set l at x) (suc at) a b)
