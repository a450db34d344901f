-- What is left where bytes are stored: the bytes of a number, or of a row, one after the other. Assumes nothing.
use mathlib.Core.Path.{◌≡◌, ap, sym, refl, ◌∙◌}
use Prim.Native.Nat.{ℕ, ◌+◌, ◌-◌, ◌*◌, ◌<◌, ◌≤◌}
use native.Mathlib.Nat.{div-one, mod-eq_of_lt}
use native.Mathlib.Numerals.{towards_suc}
use native.Mathlib.Omega.{arith}
use mathlib.Core.List.{List, ◌++◌}
use lib.ListN.{length, set, take, drop, replicate, length-take}
use lib.Seq.{sets, length-sets}
use borrow.Rule.Slice.PartMut.{put_mid}
use Rattle.std.proofs.Common.{append_assoc}
use Rattle.std.proofs.lemmas.Slice.{put_mid-paste}
use Rattle.std.proofs.lemmas.List.Edits.{paste_all, sets-eq}
use Rattle.rules.specs.Fields.{bytes_of}
use Rattle.rules.specs.Rows.{work_zero}
use Rattle.rules.specs.Table.{row_bytes}

-- a part that is written over is stored number by number
pub stored : (s : List ℕ) (at n : ℕ) (vs ys : List ℕ) → at + n ≤ length s → length vs ≡ n → ys ≡ vs → put_mid at (at + n - at) s ys ≡ sets s at vs
stored s at n vs ys fits size same =
    let k : n ≡ at + n - at = omega arith in
    put_mid-paste at (at + n - at) s ys vs n same k (sym size)
    ∙ paste_all s at vs n (sym size)
    ∙ rw (← size) (sym (sets-eq vs s at (omega arith) ∙ append_assoc (take at s) vs (drop (at + length vs) s)))

-- a front that is filled with zero
pub filled : (s w : List ℕ) (n : ℕ) → 2 * n ≤ length s → w ≡ replicate (length (take (2 * n) s)) 0 → w ++ drop (2 * n) s ≡ work_zero n s
unfolding work_zero
filled s w n fits e =
    let size : length (take (2 * n) s) ≡ 2 * n = simp length-take (omega arith) in
    rw (e, size) refl

-- slot, flow, job and processors, stored in turn, are a row's bytes
pub row_stores : (s : List ℕ) (at slot flow job processors : ℕ) → flow < 256 → job < 256 →
    sets (set (set (sets s at (bytes_of 2 slot)) (at + 2) flow) (at + 3) job) (at + 4) (bytes_of 2 processors)
    ≡ sets s at (row_bytes (record { slot = slot; flow = flow; job = job; processors = processors }))
unfolding bytes_of row_bytes
row_stores s at slot flow job processors hf hj = simp (towards_suc, div-one, mod-eq_of_lt hf, mod-eq_of_lt hj)

-- stores keep the length
pub stores-length : (s : List ℕ) (at : ℕ) (vs : List ℕ) {l : List ℕ} → l ≡ sets s at vs → length l ≡ length s
stores-length s at vs e = ap length e ∙ length-sets s at vs
