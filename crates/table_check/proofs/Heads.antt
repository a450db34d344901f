-- 14 as the code tests it: the length first, then all other parts of the head together. Assumes nothing.
use mathlib.Core.Path.{◌≡◌, refl}
use Prim.Native.Nat.{ℕ, ◌+◌, ◌*◌, ◌-◌, ◌%◌, ◌≤◌, ◌<◌}
use mathlib.Core.Bool.{Bool, not, ◌||◌}
use mathlib.Core.List.{List}
use lib.ListN.{length}
use lib.Dec.{eqb}
use borrow.Author.Tests.{lt-ltb, le-ltb}
use Rattle.rules.specs.Verdicts.{Pass, Refused}
use Rattle.std.specs.Prelude.{if◌then◌else◌}
use Rattle.rules.specs.Fields.{byte, field}
use Rattle.rules.specs.Book.{Book, flow_count}
use Rattle.rules.specs.Check.{table_head_fault}
use Rattle.table_check.specs.Tests.{head_fault}

pub head_of_book : (b : Book) (s : List ℕ) → head_fault b.processors (flow_count b) s ≡ table_head_fault b s
unfolding head_fault table_head_fault
head_of_book b s = refl

module _ (processors flows : ℕ) (s : List ℕ) where
  pub head-short : length s < 8 + 2 * flows → head_fault processors flows s ≡ Refused 14 255 255
  unfolding head_fault
  head-short h = rw (lt-ltb (length s) (8 + 2 * flows) h) refl

  pub head_whole : (stated count p : ℕ) (t : Bool) → 8 + 2 * flows ≤ length s → stated ≡ field 4 s 0 → p ≡ field 2 s 5 → count ≡ byte s 7 →
      (not (eqb stated (length s)) || not (eqb (byte s 4) 1) || not (eqb p processors) || not (eqb count flows)
      || not (eqb ((length s - (8 + 2 * flows)) % 6) 0)) ≡ t →
      head_fault processors flows s ≡ (if t then Refused 14 255 255 else Pass)
  unfolding head_fault
  head_whole stated count p t h e₁ e₂ e₃ q = rw (le-ltb (length s) (8 + 2 * flows) h, ← e₁, ← e₂, ← e₃, q) refl
