-- Runs of rows, each as its six bytes: the rows of one flow in one slot, from the first one on, and what copying them
-- leaves. Assumes nothing.
use Rattle.std.specs.Prelude.{◌≡◌, ℕ, suc, ◌+◌, ◌*◌, ◌≤◌, ◌<◌, List, [], length, take, get_or, Option, Some, None, leb, eqb, if◌then◌else◌}
use Rattle.std.specs.List.{flat_map}
use Rattle.std.proofs.lemmas.List.Edits.{sets}
use Rattle.rules.specs.Walks.{list_from}
use Rattle.rules.specs.Fields.{byte, field}

-- n bytes of s, from `from` on
unfoldable pub part : List ℕ → ℕ → ℕ → List ℕ
part s from n = list_from (byte s) n from

-- the slot of a row, where it is one of this flow
unfoldable pub due_of : List ℕ → ℕ → Option ℕ
due_of row flow = if eqb (byte row 2) flow then Some (field 2 row 0) else None

-- the slot of the row at `at`, where there is one and it is one of this flow
unfoldable pub due_at : List (List ℕ) → ℕ → ℕ → Option ℕ
due_at rows at flow = if leb (length rows) at then None else due_of (get_or rows at []) flow

-- the first n rows are of this flow in this slot
unfoldable pub RunOf : List (List ℕ) → ℕ → ℕ → ℕ → Type 0
RunOf rows flow slot n = (m : ℕ) → m < n → due_at rows m flow ≡ Some slot

-- and the run ends there
pub record Run (rows : List (List ℕ)) (flow slot n : ℕ) : Type 0 where
  pub each : RunOf rows flow slot n
  pub ends : due_at rows n flow ≡ Some slot → ⊥

-- what copying a run asks: what stands between two rows of the run belongs to it, and there is room for the run,
-- however long it is
pub record RunAsked (rows : List (List ℕ)) (flow slot room : ℕ) : Type 0 where
  pub gapless : (m : ℕ) → due_at rows m flow ≡ Some slot → RunOf rows flow slot (suc m)
  pub fits : (n : ℕ) → RunOf rows flow slot n → 6 * n ≤ room

-- the bytes of the first n rows
abbrev pub front : List (List ℕ) → ℕ → List ℕ
front rows n = flat_map (λ row. row) (take n rows)

-- the first n rows are of the run, and they are copied
pub record Copied (rows : List (List ℕ)) (flow slot : ℕ) (out out' : List ℕ) (n : ℕ) : Type 0 where
  pub each : RunOf rows flow slot n
  pub copied : out' ≡ sets out 0 (front rows n)

-- the same, and fewer than 16 rows of the run are left
pub record BlocksCopied (rows : List (List ℕ)) (flow slot : ℕ) (out out' : List ℕ) (n : ℕ) : Type 0 where
  pub some : Copied rows flow slot out out' n
  pub few_left : due_at rows (n + 15) flow ≡ Some slot → ⊥

-- the same, of at most `most` rows: all of the run, where it is fewer
pub record SomeCopied (most : ℕ) (rows : List (List ℕ)) (flow slot : ℕ) (out out' : List ℕ) (n : ℕ) : Type 0 where
  pub some : Copied rows flow slot out out' n
  pub within : n ≤ most
  pub ends : n < most → due_at rows n flow ≡ Some slot → ⊥

-- a whole run is copied
pub record RunCopied (rows : List (List ℕ)) (flow slot : ℕ) (out out' : List ℕ) (n : ℕ) : Type 0 where
  pub run : Run rows flow slot n
  pub copied : out' ≡ sets out 0 (front rows n)
