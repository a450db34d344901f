-- The digits of a number, and how many they are; a number below 2 ^ 32 is printed with them; how long a line is. Assumes
-- nothing.
use mathlib.Core.Path.{◌≡◌, refl, sym, ap, ◌∙◌}
use Prim.Native.Nat.{ℕ, zero, suc, ◌+◌, ◌-◌, ◌/◌, ◌%◌, ◌^◌, ◌≤◌, ◌<◌}
use native.Mathlib.Omega.{arith}
use mathlib.Core.Bool.{Bool, true, false}
use mathlib.Core.List.{List, [], ◌∷◌, ◌++◌, append_assoc}
use lib.ListN.{length, length-append}
use lib.Dec.{ltb}
use borrow.Author.Tests.{lt-ltb, le-ltb}
use Rattle.std.specs.Prelude.{if◌then◌else◌}
use Rattle.rules.specs.Fields.{bytes_of}
use Rattle.rules.specs.Rows.{Row}
use Rattle.rules.specs.Text.{
  digit,
  digits_of,
  decimal,
  word_table,
  word_late,
  word_finish,
  word_space,
  table_line,
  finish_line,
  row_line,
  refusal_line,
}
use Rattle.plan_text.specs.Put.{pair_line, longest_line}
use Rattle.std.specs.Fmt as Fmt
use Rattle.std.proofs.lemmas.Fmt.{AppendsLastDigit, decimal_from_appends, length-decimal-le}

-- one digit where the number is below 10, and the digits before the last where it is not: a bound on these bounds all
number-length : (b : Bool) (d : ℕ) (before : List ℕ) (n : ℕ) → length before ≤ n + 1 →
    (1 ≤ length (if b then d ∷ [] else before ++ d ∷ [])) × (length (if b then d ∷ [] else before ++ d ∷ []) ≤ suc n + 1)
number-length true d before n h = (omega arith, omega arith)
number-length false d before n h = let e = length-append before (d ∷ []) in (omega arith, omega arith)

-- a number has at least one digit, and at most n + 1
digits-length : (n x : ℕ) → (1 ≤ length (digits_of n x)) × (length (digits_of n x) ≤ n + 1)
unfolding digits_of
digits-length zero x = (omega arith, omega arith)
digits-length (suc n) x = number-length (ltb x 10) (digit x) (digits_of n (x / 10)) n (digits-length n (x / 10)).1

pub digits_most : (n x : ℕ) → length (digits_of n x) ≤ n + 1
digits_most n x = (digits-length n x).1

-- the three cases of a number: no digit may stand before its last, none has to, or those of a tenth do
pub digits_last : (n x : ℕ) → n ≡ 0 → digit x ∷ [] ≡ digits_of n x
unfolding digits_of
digits_last n x e = ap (λ (m : ℕ). digits_of m x) (sym e)

pub digits-single : (n x : ℕ) → x < 10 → digit x ∷ [] ≡ digits_of n x
unfolding digits_of
digits-single zero x h = refl
digits-single (suc n) x h = rw (lt-ltb x 10 h)

pub digits_more : (n x : ℕ) → 0 < n → 10 ≤ x → digits_of (n - 1) (x / 10) ++ digit x ∷ [] ≡ digits_of n x
unfolding digits_of
digits_more zero x h g = absurd (omega arith)
digits_more (suc n) x h g = let e : suc n - 1 ≡ n = omega arith in rw (e, le-ltb x 10 g)

-- with no place there is no digit, and with n + 1 at most those of `digits_of n`
placed : ℕ → ℕ → List ℕ
placed zero x = []
placed (suc n) x = digits_of n x

placed-last : AppendsLastDigit placed
unfolding placed digits_of
placed-last = record { one = one; more = more }
  where
    last : (x : ℕ) → x < 10 → digit x ≡ 48 + x
    last x l = omega arith

    one : (n x : ℕ) → x < 10 → digits_of n x ≡ (48 + x) ∷ []
    one n x l = sym (digits-single n x l) ∙ ap (λ (d : ℕ). d ∷ []) (last x l)

    more : (n x : ℕ) → 10 ≤ x → digits_of n x ≡ placed n (x / 10) ++ ((48 + x % 10) ∷ [])
    more zero x l = refl
    more (suc n) x l = rw (le-ltb x 10 l) refl

-- a number below 2 ^ 32 is printed with its digits
pub printed-decimal : (x : ℕ) → x < 2 ^ 32 → Fmt.decimal x ≡ decimal x
unfolding placed
printed-decimal x l = sym (decimal_from_appends placed placed-last 10 x (omega arith) (length-decimal-le 10 x (omega arith) (omega arith) (omega arith)))

-- ---- the lines that are a pair
pub table_line_lem : (bytes late : ℕ) → pair_line word_table bytes word_late late ≡ table_line bytes late
unfolding table_line
table_line_lem bytes late = refl

pub finish_line_lem : (flow finish : ℕ) → pair_line word_finish flow word_space finish ≡ finish_line flow finish
unfolding finish_line
finish_line_lem flow finish = refl

-- ---- no line is longer than 64 bytes
pub table_line_most : (bytes late : ℕ) → length (table_line bytes late) ≤ longest_line
unfolding table_line bytes_of
table_line_most bytes late = simp length-append (omega (arith, digits_most 9 bytes, digits_most 9 late))

pub finish_line_most : (flow finish : ℕ) → length (finish_line flow finish) ≤ longest_line
unfolding finish_line bytes_of
finish_line_most flow finish = simp length-append (omega (arith, digits_most 9 flow, digits_most 9 finish))

pub row_line_most : (r : Row) → length (row_line r) ≤ longest_line
unfolding row_line bytes_of
row_line_most r =
    simp length-append (omega (arith, digits_most 9 r.slot, digits_most 9 r.flow, digits_most 9 r.job, digits_most 9 r.processors))

pub refusal_line_most : (number flow job : ℕ) → length (refusal_line number flow job) ≤ longest_line
unfolding refusal_line bytes_of
refusal_line_most number flow job = simp length-append (omega (arith, digits_most 9 number, digits_most 9 flow, digits_most 9 job))

-- pieces one after the other
pub ruleset pieces = (printed-decimal, append_assoc)
