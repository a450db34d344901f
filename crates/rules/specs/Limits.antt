-- The table of ranges, and the slots of a work area. Assumes nothing.
use Rattle.std.specs.Prelude.{ℕ, Bool, ◌||◌, ltb}

-- n is below the least or above the most
abbrev pub outside : ℕ → ℕ → ℕ → Bool
outside least most n = ltb n least || ltb most n

-- "P | 1 | 4,096"
abbrev pub most_processors : ℕ
most_processors = 4096

-- "flows | 0 | 64"
abbrev pub most_flows : ℕ
most_flows = 64

-- "deadline | 1 | 4,096"
abbrev pub most_deadline : ℕ
most_deadline = 4096

-- "jobs in a flow | 1 | 64"
abbrev pub most_jobs : ℕ
most_jobs = 64

-- "size | 1 | 1,000,000"
abbrev pub most_size : ℕ
most_size = 1000000

-- "cap | 1 | P", and since "A cap above P, up to 65,535, shall count as P" and "Only a cap of 0 is still 9" (02, Req 02), all that its field holds
abbrev pub most_cap : ℕ
most_cap = 65535

-- "windows (1, at most 32)" (02, Req 07)
abbrev pub most_windows : ℕ
most_windows = 32

-- "reopens at slot 4,096 or sooner" (02, Req 07)
abbrev pub most_reopening : ℕ
most_reopening = 4096

-- "slots 0 to 8,191"
abbrev pub slots : ℕ
slots = 8192

-- "Work area: at least 16,384 bytes, two per slot"
abbrev pub work_bytes : ℕ
work_bytes = 16384
