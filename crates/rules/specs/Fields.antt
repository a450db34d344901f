-- "Fields are unsigned and big-endian": numbers in bytes, read and written. Assumes nothing.
use Rattle.std.specs.Prelude.{ℕ, zero, suc, ◌+◌, ◌*◌, ◌/◌, ◌%◌, ◌^◌, ◌<◌, List, [], ◌∷◌, get_or}

-- the byte at i
abbrev pub byte : List ℕ → ℕ → ℕ
byte s i = get_or s i 0

-- the number in the n bytes from `at` on, the highest byte first
unfoldable pub field : ℕ → List ℕ → ℕ → ℕ
field zero s at = 0
field (suc n) s at = field n s at * 256 + byte s (at + n)

-- a number in n bytes, the highest byte first
unfoldable pub bytes_of : ℕ → ℕ → List ℕ
bytes_of zero x = []
bytes_of (suc n) x = x / 256 ^ n % 256 ∷ bytes_of n x

-- every element is a byte
unfoldable pub AllBytes : List ℕ → Type 0
AllBytes s = (i : ℕ) → byte s i < 256
