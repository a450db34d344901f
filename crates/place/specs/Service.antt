-- The pseudo-job in service, as the code holds it, in the specification's values. Assumes nothing.
use Rattle.std.specs.Prelude.{◌≡◌, ℕ, ◌+◌, ◌*◌, ◌-◌, ◌/◌, ◌%◌, ◌<◌, min, max, List, [], ◌∷◌, length, get_or}
use Rattle.rules.specs.Verdicts.{Pass}
use Rattle.rules.specs.Walks.{join_from}
use Rattle.rules.specs.Book.{Flow, flow_count, job_count, flow_of}
use Rattle.rules.specs.Reading.{book_of, book_fault}
use Rattle.rules.specs.Ideal.{take_of}
use Rattle.rules.specs.PseudoJobs.{PseudoJob, rate}
use Rattle.rules.specs.Rows.{Row, row_for}
use Rattle.rules.specs.Placing.{share}
use Rattle.chain.specs.declared.Part.{Part}
use Rattle.chain.specs.Runs.{PartsOf}
use Rattle.chain.specs.Alone.{names_in, takes_in}
use Rattle.place.specs.declared.Current.{Current}

-- its flow, and its pseudo-job
abbrev pub current_flow : List ℕ → Current → Flow
current_flow s c = flow_of (book_of s) c.flow

abbrev pub pseudo_job : Current → PseudoJob
pseudo_job c = record { first = c.first; width = c.width }

-- the row of slot t whose four bytes after the slot, flow, job and processors, are those of a number, the lowest first
unfoldable pub packed_row : ℕ → ℕ → Row
packed_row t v = record { slot = t; flow = v % 256; job = v / 256 % 256; processors = 256 * (v / 65536 % 256) + v / 16777216 }

-- the number holds the row of job j of flow f with n processors, whatever the slot
abbrev pub Packs : ℕ → ℕ → ℕ → ℕ → Type 0
Packs v f j n = (t : ℕ) → packed_row t v ≡ record { slot = t; flow = f; job = j; processors = n }

-- the values that the code holds are those of the book in these bytes, which passes
pub record InService (s : List ℕ) (c : Current) : Type 0 where
  pub passes : book_fault s ≡ Pass
  pub flow_in_is : c.flow < flow_count (book_of s)
  pub processors : c.processors ≡ (book_of s).processors
  pub rate : c.rate ≡ rate (current_flow s c) (pseudo_job c)
  pub rate_positive : 0 < c.rate
  pub width_positive : 0 < c.width

-- .. and so are its parts, all of them
pub record PartsHeld (s : List ℕ) (c : Current) (names takes : List ℕ) : Type 0 where
  pub in_service : InService s c
  pub parts : PartsOf (λ i. take_of (current_flow s c) i c.first) (job_count (current_flow s c)) names takes (length names)

-- packed rows are those of the first parts, in a slot that gives each its take
abbrev pub PackedTo : ℕ → List Part → List ℕ → Type 0
PackedTo f parts rows = (q : ℕ) → q < length rows → Packs (get_or rows q 0) f (get_or (names_in parts) q 0) (get_or (takes_in parts) q 0)

-- .. and of all parts
pub record Serving (s : List ℕ) (c : Current) (names takes rows : List ℕ) : Type 0 where
  pub held : PartsHeld s c names takes
  pub rows_whole : length rows ≡ length names
  pub rows_are : (q : ℕ) → q < length rows → Packs (get_or rows q 0) c.flow (get_or names q 0) (get_or takes q 0)

-- the units of one job among n units from the o-th of a slot on, where its own stand after the first `before` of each
-- slot
abbrev pub overlaps : ℕ → ℕ → ℕ → ℕ → ℕ → ℕ
overlaps o n before a r = (min (o + n) (before + a) - max o before) + (min (o + n) (before + r + a) - max o (before + r))

-- the rows of flow f in slot t, in which the pseudo-job p gets n units after the first `done`
unfoldable pub job_rows : Flow → ℕ → ℕ → PseudoJob → ℕ → ℕ → List Row
job_rows w f t p done n = join_from (λ i. row_for t f i (share w p i done n)) (job_count w) 0

-- the first n of a list of packed rows, in slot t
unfoldable pub packed_rows : ℕ → List ℕ → ℕ → List Row
packed_rows t a n = join_from (λ q. packed_row t (get_or a q 0) ∷ []) n 0
