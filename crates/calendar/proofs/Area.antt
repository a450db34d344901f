-- Laws of work areas whose pairs hold any function of the slot. The number of slots is a parameter throughout. Assumes
-- nothing.
use mathlib.Core.Path.{◌≡◌, refl, sym, ap, ◌∙◌}
use Prim.Native.Nat.{ℕ, suc, ◌+◌, ◌*◌, ◌-◌, ◌≤◌, ◌<◌}
use mathlib.Core.Bool.{Bool, true, false, not, ◌&&◌}
use mathlib.Core.List.{List, ◌++◌, append_assoc}
use native.Mathlib.Nat.{zero-add}
use native.Mathlib.Omega.{arith}
use lib.ListN.{length, take, drop, length-append, length-drop}
use lib.Seq.{sets}
use Rattle.std.specs.Prelude.{if◌then◌else◌}
use Rattle.rules.specs.Fields.{field, bytes_of}
use Rattle.rules.specs.Rows.{Row, used_in, work_used}
use Rattle.rules.specs.Calendar.{Calendar, Window, in_window, is_open}
use Rattle.rules.proofs.Laws.Walks.{join-ext}
use Rattle.rules.proofs.Laws.Fields.{bytes-length, field_between}
use Rattle.rules.proofs.Rows.WorkArea.{pairs, pairs-length, pairs-around, sets_between}
use Rattle.calendar.specs.Area.{area_holding}
use Rattle.calendar.proofs.Windows.{up_to, slot_in, others_same, none_in, none-shut}

-- the use of rows is one such function
pub used_holding : (n : ℕ) (rows : List Row) (area : List ℕ) → work_used n rows area ≡ area_holding n (used_in rows) area
unfolding work_used area_holding
used_holding n rows area = refl

module _ (n : ℕ) (area : List ℕ) where
  pub holding_ext : (g h : ℕ → ℕ) → ((t : ℕ) → t < n → g t ≡ h t) → area_holding n g area ≡ area_holding n h area
  unfolding area_holding
  holding_ext g h e = ap (◌++ drop (2 * n) area) (join-ext _ _ n 0 (λ k l. ap (bytes_of 2) (rw (zero-add k) (e k l))))

  pub holding-length : (g : ℕ → ℕ) → 2 * n ≤ length area → length (area_holding n g area) ≡ length area
  unfolding area_holding
  holding-length g l = rw (length-append, length-drop, pairs-length g n 0) (omega arith)

  -- a slot's pair between those before it and the rest
  holding-around : (g : ℕ → ℕ) (t : ℕ) → t < n → area_holding n g area ≡ pairs g t 0 ++ bytes_of 2 (g t) ++ (pairs g (n - suc t) (suc t) ++ drop (2 * n) area)
  unfolding area_holding
  holding-around g t l = ap (◌++ drop (2 * n) area) (pairs-around g n t l) ∙ simp append_assoc

  -- a pair reads as its slot's value
  pub holding_pair : (g : ℕ → ℕ) (t : ℕ) → t < n → g t < 65536 → field 2 (area_holding n g area) (2 * t) ≡ g t
  holding_pair g t l h =
      rw (holding-around g t l, ← pairs-length g t 0) (field_between 2 (g t) (pairs g t 0) (pairs g (n - suc t) (suc t) ++ drop (2 * n) area) h)

  -- a pair that is written changes its slot alone
  pub holding-set : (g h : ℕ → ℕ) (t v : ℕ) → t < n → h t ≡ v → ((u : ℕ) → (u ≡ t → ⊥) → h u ≡ g u) → area_holding n h area ≡ sets (area_holding n g area) (2 * t) (bytes_of 2 v)
  holding-set g h t v l here same =
      let first : pairs h t 0 ≡ pairs g t 0 = join-ext _ _ t 0 (λ k m. ap (bytes_of 2) (same (0 + k) (λ (q : 0 + k ≡ t). omega arith))) in
      let last : pairs h (n - suc t) (suc t) ≡ pairs g (n - suc t) (suc t) =
      join-ext _ _ (n - suc t) (suc t) (λ k m. ap (bytes_of 2) (same (suc t + k) (λ (q : suc t + k ≡ t). omega arith))) in
      let rest = pairs g (n - suc t) (suc t) ++ drop (2 * n) area in
      holding-around h t l
      ∙ rw (first, last, here) refl
      ∙ sym (sets_between (pairs g t 0) (bytes_of 2 (g t)) (bytes_of 2 v) rest (2 * t) (pairs-length g t 0) (bytes-length 2 (g t) ∙ sym (bytes-length 2 v)))
      ∙ ap (λ y. sets y (2 * t) (bytes_of 2 v)) (sym (holding-around g t l))

module _ (n value : ℕ) (before : List ℕ) where
  -- area l has the value in a window's slots up to t, and else what was there before
  abbrev pub WindowTo : ℕ → ℕ → List ℕ → Type 0
  WindowTo shut t l = (used : ℕ → ℕ) (bytes : List ℕ) → before ≡ area_holding n used bytes → l ≡ area_holding n (λ u. if up_to shut t u then value else used u) bytes

  pub window-none : (shut : ℕ) → WindowTo shut shut before
  window-none shut used bytes e = e ∙ holding_ext n bytes _ _ (λ u l. rw (none_in shut u) refl)

  pub window-next : (shut t : ℕ) (l : List ℕ) → shut ≤ t → t < n → WindowTo shut t l → WindowTo shut (t + 1) (sets l (2 * t) (bytes_of 2 value))
  window-next shut t l h room so_far used bytes e =
      ap (λ (y : List ℕ). sets y (2 * t) (bytes_of 2 value)) (so_far used bytes e)
      ∙ sym (holding-set n bytes _ _ t value room (rw (slot_in shut t h) refl) (λ u ne. rw (others_same shut t h u ne) refl))

  -- area l has the value in the slots that the first k windows shut, and else what was there before
  abbrev pub ShutTo : Calendar → ℕ → List ℕ → Type 0
  ShutTo c k l = (used : ℕ → ℕ) (bytes : List ℕ) → before ≡ area_holding n used bytes → l ≡ area_holding n (λ t. if is_open (take k c) t then used t else value) bytes

  pub shut_none : (c : Calendar) → ShutTo c 0 before
  shut_none c used bytes e = e ∙ holding_ext n bytes _ _ (λ t l. rw (none-shut c t) refl)

-- one window more, v
pub shut-next : (n value : ℕ) (before l : List ℕ) (c : Calendar) (k : ℕ) (v : Window) {m : List ℕ} →
    ((t : ℕ) → is_open (take (k + 1) c) t ≡ (is_open (take k c) t && not (in_window v t))) → ShutTo n value before c k l →
    WindowTo n value l v.shut v.reopening m → ShutTo n value before c (k + 1) m
shut-next n value before l c k v next so_far window used bytes e =
    window _ bytes (so_far used bytes e)
    ∙ holding_ext n bytes _ _ (λ t b. rw (next t) (both (in_window v t) (is_open (take k c) t) (used t)))
  where
    both : (i o : Bool) (u : ℕ) → (if i then value else if o then u else value) ≡ (if o && not i then u else value)
    both true true u = refl
    both true false u = refl
    both false true u = refl
    both false false u = refl
