-- What a walk over 0 .. n - 1 makes of a function of the number: a sum, a maximum, a count, a test, a list.
-- The definitions below are written with these, and with the library's choice `if◌then◌else◌`. Assumes nothing.
use Rattle.std.specs.Prelude.{ℕ, zero, suc, ◌+◌, max, Bool, true, false, ◌||◌, ◌&&◌, List, [], ◌∷◌, ◌++◌}

-- g 0 + .. + g (n - 1)
unfoldable pub sum_to : (ℕ → ℕ) → ℕ → ℕ
sum_to g zero = 0
sum_to g (suc n) = sum_to g n + g n

-- the largest of g 0 .. g (n - 1), and 0 where there is none
unfoldable pub max_to : (ℕ → ℕ) → ℕ → ℕ
max_to g zero = 0
max_to g (suc n) = max (max_to g n) (g n)

-- 1 where a test passes, and 0 where it does not
abbrev pub bit : Bool → ℕ
bit true = 1
bit false = 0

-- how many of 0 .. n - 1 pass the test
abbrev pub count_to : (ℕ → Bool) → ℕ → ℕ
count_to q n = sum_to (λ k. bit (q k)) n

-- one of 0 .. n - 1 passes the test
unfoldable pub any_to : (ℕ → Bool) → ℕ → Bool
any_to q zero = false
any_to q (suc n) = any_to q n || q n

-- all of 0 .. n - 1 pass the test
unfoldable pub all_to : (ℕ → Bool) → ℕ → Bool
all_to q zero = true
all_to q (suc n) = all_to q n && q n

-- g s, g (s + 1), .., n of them
unfoldable pub list_from {ℓ} : {A : Type ℓ} → (ℕ → A) → ℕ → ℕ → List A
list_from g zero s = []
list_from g (suc n) s = g s ∷ list_from g n (s + 1)

-- the lists g s, g (s + 1), .., n of them, one after the other
unfoldable pub join_from {ℓ} : {A : Type ℓ} → (ℕ → List A) → ℕ → ℕ → List A
join_from g zero s = []
join_from g (suc n) s = g s ++ join_from g n (s + 1)
