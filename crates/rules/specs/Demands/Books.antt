-- Which books pass: the encodings of values in range, and no other bytes; and what a version 1 book and a cap above P mean, in every call. Assumes nothing.
use Rattle.std.specs.Prelude.{◌≡◌, ℕ, ◌≤◌, ◌<◌, List}
use Rattle.rules.specs.Verdicts.{Refused}
use Rattle.rules.specs.Fields.{AllBytes}
use Rattle.rules.specs.Calendar.{calendar_bytes}
use Rattle.rules.specs.Book.{Book, flow_count, flow_in, flow_of, lowered, job_of, InRange}
use Rattle.rules.specs.Reading.{version_of, read, read_book, book_bytes, book_of, book_fault}
use Rattle.rules.specs.Planner.{plan_call}
use Rattle.rules.specs.Check.{check_call}
use Rattle.rules.specs.Dispatch.{dispatch_call}
use Rattle.rules.specs.Finish.{finish_call}

-- ---- "A book passes its checks when no test that comes before 11 turns it down."

pub record BooksRead : Type 0 where
  -- what is read is in range, the calendar too
  pub in_range : (book calendar : List ℕ) (b : Book) → read_book book calendar ≡ read b → InRange b
  -- and every book in range, encoded beside its calendar, is read as itself: in version 2, and in version 1 where every release is 0
  pub version_2 : (b : Book) → InRange b → read_book (book_bytes 2 b) (calendar_bytes b.calendar) ≡ read b
  pub version_1 : (b : Book) → InRange b → ((f : ℕ) → f < flow_count b → (flow_in b f).release ≡ 0) → read_book (book_bytes 1 b) (calendar_bytes b.calendar) ≡ read b
  -- and nothing else passes: the bytes are the encoding of what is read
  pub only_encodings : (book calendar : List ℕ) (b : Book) → AllBytes book → AllBytes calendar → read_book book calendar ≡ read b →
      (book ≡ book_bytes (version_of book) b) × (calendar ≡ calendar_bytes b.calendar)
  -- "Only a cap of 0 is still 9" (02, Req 02)
  pub cap_zero : (book : List ℕ) (f i : ℕ) → AllBytes book → book_fault book ≡ Refused 9 f i → (job_of (flow_in (book_of book) f) i).cap ≡ 0

-- ---- two books beside one calendar: every call answers and leaves the same for both
pub record SameCalls (book other calendar : List ℕ) : Type 0 where
  pub same_plan : (out area : List ℕ) → plan_call book calendar out area ≡ plan_call other calendar out area
  pub same_check : (table area : List ℕ) → check_call book calendar table area ≡ check_call other calendar table area
  pub same_list : (table out area : List ℕ) → dispatch_call book calendar table out area ≡ dispatch_call other calendar table out area
  pub same_finish : (f : ℕ) (area : List ℕ) → finish_call book calendar f area ≡ finish_call other calendar f area

-- ---- "a version 1 book means release 0" (02, Req 01): every release is 0, and the calls are those of the version 2 book with these values
pub record Version1Kept : Type 0 where
  pub release_zero : (book calendar : List ℕ) (b : Book) → read_book book calendar ≡ read b → version_of book ≡ 1 →
      (f : ℕ) → f < flow_count b → (flow_of b f).release ≡ 0
  pub as_version_2 : (book calendar : List ℕ) (b : Book) → read_book book calendar ≡ read b → SameCalls book (book_bytes 2 b) calendar

-- ---- "A cap above P, up to 65,535, shall count as P wherever a cap is read" (02, Req 02): the same book with each cap lowered to P is a book too, and the calls
-- are the same
pub record CapsLowered : Type 0 where
  pub lowered_reads : (book calendar : List ℕ) (b : Book) → read_book book calendar ≡ read b →
      read_book (book_bytes (version_of book) (lowered b)) calendar ≡ read (lowered b)
  pub as_lowered : (book calendar : List ℕ) (b : Book) → read_book book calendar ≡ read b → SameCalls book (book_bytes (version_of book) (lowered b)) calendar
  -- caps at or below P are untouched: where no cap is above P, each flow is used as it stands in the book
  pub untouched : (b : Book) → ((f i : ℕ) → (job_of (flow_in b f) i).cap ≤ b.processors) → (f : ℕ) → flow_of b f ≡ flow_in b f
