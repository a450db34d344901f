-- The lines that the printing program writes ("The program prints, whole"). Assumes nothing.
use Rattle.std.specs.Prelude.{ℕ, zero, suc, ◌+◌, ◌/◌, ◌%◌, List, [], ◌∷◌, ◌++◌, ltb, if◌then◌else◌}
use Rattle.rules.specs.Fields.{bytes_of}
use Rattle.rules.specs.Rows.{Row}

-- the last digit of a number; `0` is byte 48
abbrev pub digit : ℕ → ℕ
digit x = 48 + x % 10

-- a number in decimal, in at most n + 1 digits: the digits before its last, and its last
unfoldable pub digits_of : ℕ → ℕ → List ℕ
digits_of zero x = digit x ∷ []
digits_of (suc n) x = if ltb x 10 then digit x ∷ [] else digits_of n (x / 10) ++ digit x ∷ []

-- numbers below 2 ^ 32 have at most ten digits
abbrev pub decimal : ℕ → List ℕ
decimal x = digits_of 9 x

-- words of the lines, as their bytes: "table ", " late ", "finish ", " ", "slot ", " flow ", " job ", " take ", "refused "
abbrev pub word_table : List ℕ
word_table = bytes_of 6 0x7461626c6520

abbrev pub word_late : List ℕ
word_late = bytes_of 6 0x206c61746520

abbrev pub word_finish : List ℕ
word_finish = bytes_of 7 0x66696e69736820

abbrev pub word_space : List ℕ
word_space = bytes_of 1 0x20

abbrev pub word_slot : List ℕ
word_slot = bytes_of 5 0x736c6f7420

abbrev pub word_flow : List ℕ
word_flow = bytes_of 6 0x20666c6f7720

abbrev pub word_job : List ℕ
word_job = bytes_of 5 0x206a6f6220

abbrev pub word_take : List ℕ
word_take = bytes_of 6 0x2074616b6520

abbrev pub word_refused : List ℕ
word_refused = bytes_of 8 0x7265667573656420

-- the end of a line
abbrev pub word_end : List ℕ
word_end = bytes_of 1 0x0a

-- "The first line has the table's bytes and the late flows": `table 66 late 2`
unfoldable pub table_line : ℕ → ℕ → List ℕ
table_line length late = word_table ++ decimal length ++ word_late ++ decimal late ++ word_end

-- "then one line for each finish in book order": `finish 0 6`
unfoldable pub finish_line : ℕ → ℕ → List ℕ
finish_line f finish = word_finish ++ decimal f ++ word_space ++ decimal finish ++ word_end

-- "and each row": `slot 0 flow 1 job 0 take 2`
unfoldable pub row_line : Row → List ℕ
row_line r =
    word_slot ++ decimal r.slot ++ word_flow ++ decimal r.flow ++ word_job ++ decimal r.job ++ word_take ++ decimal r.processors ++ word_end

-- "A refusal is one line, as `refused 12 flow 0 job 255`."
unfoldable pub refusal_line : ℕ → ℕ → ℕ → List ℕ
refusal_line number flow job = word_refused ++ decimal number ++ word_flow ++ decimal flow ++ word_job ++ decimal job ++ word_end
