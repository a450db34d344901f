-- The books, calendars and tables of the marked plans, byte by byte: A to F of document 01, E as Req 02 has it, and G to L for the requests of document 02.
-- Assumes nothing.
use Rattle.std.specs.Prelude.{ℕ, zero, suc, ◌*◌, ◌-◌, ◌/◌, ◌%◌, ◌^◌, List, [], ◌∷◌, ◌++◌, replicate}
use Rattle.rules.specs.Walks.{list_from}
use Rattle.rules.specs.Book.{Flow}

-- n bytes, written as one hexadecimal number, so that a listing stands as the document has it
abbrev pub hex : ℕ → ℕ → List ℕ
hex zero x = []
hex (suc n) x = x / 256 ^ n % 256 ∷ hex n x

-- A: P 3. Flow 0: deadline 5, job 0 size 5 cap 2, job 1 size 4 cap 3 after job 0. Flow 1: deadline 3, one job, size 5 cap 2
abbrev pub book_a : List ℕ
book_a = hex 56 0x00000038_01_0003_02_0005_02_00000005_0002_0000000000000000_00000004_0003_0000000000000001_0003_01_00000005_0002_0000000000000000

abbrev pub table_a : List ℕ
table_a =
    hex 12 0x00000042_01_0003_02_0006_0003
    ++ hex 18 0x0000_01_00_0002_0001_01_00_0002_0002_01_00_0001
    ++ hex 24 0x0000_00_00_0001_0001_00_00_0001_0002_00_00_0002_0003_00_00_0001
    ++ hex 12 0x0004_00_01_0003_0005_00_01_0001

-- its rows as the dispatcher works: in slots 0 to 2 flow 0 stands before flow 1, which is served first
abbrev pub list_a : List ℕ
list_a =
    hex 7 0x0000003d_01_0003
    ++ hex 24 0x0000_00_00_0001_0000_01_00_0002_0001_00_00_0001_0001_01_00_0002
    ++ hex 30 0x0002_00_00_0002_0002_01_00_0001_0003_00_00_0001_0004_00_01_0003_0005_00_01_0001

-- B: P 3. Flow 0: deadline 3, size 3 cap 1. Flow 1: deadline 4, two free jobs, size 4 cap 2 and size 2 cap 1
abbrev pub book_b : List ℕ
book_b = hex 56 0x00000038_01_0003_02_0003_01_00000003_0001_0000000000000000_0004_02_00000004_0002_0000000000000000_00000002_0001_0000000000000000

-- flow 1: slot 0 job 0 two; slots 1 and 2 one each for both jobs
abbrev pub table_b : List ℕ
table_b =
    hex 12 0x0000003c_01_0003_02_0003_0003
    ++ hex 18 0x0000_00_00_0001_0001_00_00_0001_0002_00_00_0001
    ++ hex 30 0x0000_01_00_0002_0001_01_00_0001_0001_01_01_0001_0002_01_00_0001_0002_01_01_0001

-- C: P 2, one job of this size, cap 1, deadline 2
abbrev pub book_c : ℕ → List ℕ
book_c size = hex 11 0x00000019_01_0002_01_0002_01 ++ hex 4 size ++ hex 10 0x0001_0000000000000000

-- D: no flows
abbrev pub book_d : List ℕ
book_d = hex 8 0x00000008_01_0003_00

-- E: book A with P 2
abbrev pub book_e : List ℕ
book_e = hex 56 0x00000038_01_0002_02_0005_02_00000005_0002_0000000000000000_00000004_0003_0000000000000001_0003_01_00000005_0002_0000000000000000

-- job 1's cap of 3 counts as 2 (02, Req 02): it has two processors in slots 6 and 7, the first of them with these processors
abbrev pub table_e : ℕ → List ℕ
table_e n =
    hex 12 0x00000042_01_0002_02_0008_0003
    ++ hex 18 0x0000_01_00_0002_0001_01_00_0002_0002_01_00_0001
    ++ hex 24 0x0002_00_00_0001_0003_00_00_0002_0004_00_00_0001_0005_00_00_0001
    ++ hex 4 0x0006_00_01 ++ hex 2 n ++ hex 6 0x0007_00_01_0002

-- E with a cap of 0
abbrev pub book_no_cap : List ℕ
book_no_cap = hex 56 0x00000038_01_0002_02_0005_02_00000005_0002_0000000000000000_00000004_0000_0000000000000001_0003_01_00000005_0002_0000000000000000

-- F: table A with its eighth row moved to slot 3, and with these processors in it
abbrev pub table_f : ℕ → List ℕ
table_f n =
    hex 12 0x00000042_01_0003_02_0006_0003
    ++ hex 18 0x0000_01_00_0002_0001_01_00_0002_0002_01_00_0001
    ++ hex 24 0x0000_00_00_0001_0001_00_00_0001_0002_00_00_0002_0003_00_00_0001
    ++ hex 4 0x0003_00_01 ++ hex 2 n ++ hex 6 0x0005_00_01_0001

-- G, version 2: P 3. Flow 0: deadline 6, release 2, one job, size 5 cap 2. Flow 1: deadline 4, release 0, one job, size 6 cap 2
abbrev pub book_g : List ℕ
book_g = hex 46 0x0000002e_02_0003_02_0006_0002_01_00000005_0002_0000000000000000_0004_0000_01_00000006_0002_0000000000000000

-- flow 0 waits for slot 2, though a processor is free before, and shares it with flow 1
abbrev pub table_g : List ℕ
table_g =
    hex 12 0x00000036_01_0003_02_0006_0003
    ++ hex 18 0x0000_01_00_0002_0001_01_00_0002_0002_01_00_0002
    ++ hex 24 0x0002_00_00_0001_0003_00_00_0002_0004_00_00_0001_0005_00_00_0001

-- the same with its fourth row moved to the slot before the release
abbrev pub table_early : List ℕ
table_early =
    hex 12 0x00000036_01_0003_02_0006_0003
    ++ hex 18 0x0000_01_00_0002_0001_01_00_0002_0002_01_00_0002
    ++ hex 24 0x0001_00_00_0001_0003_00_00_0002_0004_00_00_0001_0005_00_00_0001

-- G with the release of flow 0 at its deadline
abbrev pub book_late_release : List ℕ
book_late_release = hex 46 0x0000002e_02_0003_02_0006_0006_01_00000005_0002_0000000000000000_0004_0000_01_00000006_0002_0000000000000000

-- H, version 2: P 2. One flow, deadline 8, release 0: job 0 size 6 cap 65,535 and job 1 size 3 cap 1, both free. Job 0's cap counts as 2, so it lasts
-- three ideal slots beside job 1: three times two units of job 0 and one of job 1
abbrev pub book_h : List ℕ
book_h = hex 41 0x00000029_02_0002_01_0008_0000_02_00000006_ffff_0000000000000000_00000003_0001_0000000000000000

abbrev pub table_h : List ℕ
table_h =
    hex 10 0x00000034_01_0002_01_0005
    ++ hex 18 0x0000_00_00_0002_0001_00_00_0001_0001_00_01_0001
    ++ hex 24 0x0002_00_00_0001_0002_00_01_0001_0003_00_00_0002_0004_00_01_0001

-- I: P 2, three flows of one job with cap 1. Flow 0: deadline 2, size 5, which is infeasible. Flow 1: deadline 1, size 1. Flow 2: deadline 3, size 1
abbrev pub book_i : List ℕ
book_i =
    hex 25 0x0000003b_01_0002_03_0002_01_00000005_0001_0000000000000000
    ++ hex 17 0x0001_01_00000001_0001_0000000000000000
    ++ hex 17 0x0003_01_00000001_0001_0000000000000000

-- J, version 2: P 2. Flow 0: deadline 9, one job, size 9 cap 2. Flow 1: deadline 4, one job, size 2 cap 1. Both have release 0
abbrev pub book_j : List ℕ
book_j = hex 46 0x0000002e_02_0002_02_0009_0000_01_00000009_0002_0000000000000000_0004_0000_01_00000002_0001_0000000000000000

-- the cluster is shut in slot 0, in 3 and 4, and in 8 to 10, among them the slot of flow 0's deadline: the open slots are 1, 2, 5, 6, 7, and those from 11 on
abbrev pub calendar_j : List ℕ
calendar_j = hex 18 0x00000012_01_03_0000_0001_0003_0005_0008_000b

-- a window that begins in the slot in which the one before reopened
abbrev pub calendar_touching : List ℕ
calendar_touching = hex 14 0x0000000e_01_02_0003_0005_0005_0008

-- flow 1 has slots 1 and 2. Flow 0 shares them; its four ideal slots of two processors are interrupted by slots 3 and 4, and its last one waits for slot 11.
-- That is a finish of 12, past its deadline, with 6 open slots before it where twice the open slots before the deadline are 10. Flow 0's third row in this slot
abbrev pub table_j : ℕ → List ℕ
table_j t =
    hex 12 0x0000003c_01_0002_02_000c_0003
    ++ hex 12 0x0001_01_00_0001_0002_01_00_0001
    ++ hex 12 0x0001_00_00_0001_0002_00_00_0001
    ++ hex 2 t ++ hex 4 0x00_00_0002 ++ hex 18 0x0006_00_00_0002_0007_00_00_0002_000b_00_00_0001

-- K, version 2: P 4. Flow 0: deadline 8, one job, size 4 cap 2. Flow 1: deadline 3, one job, size 3 cap 3. Both have release 2
abbrev pub book_k : List ℕ
book_k = hex 46 0x0000002e_02_0004_02_0008_0002_01_00000004_0002_0000000000000000_0003_0002_01_00000003_0003_0000000000000000

-- the cluster is shut in slot 1, and in 3 and 4: the open slots are 0, 2, and those from 5 on
abbrev pub calendar_k : List ℕ
calendar_k = hex 14 0x0000000e_01_02_0001_0002_0003_0005

-- flow 1 has three processors in slot 2 and leaves flow 0 one, which then has slots 5 and 6. Four open slots stand before its finish, 7: the one before its
-- release, its path of 2, and 7 units of work on 4 processors
abbrev pub rows_k : List ℕ
rows_k = hex 24 0x0002_01_00_0003_0002_00_00_0001_0005_00_00_0002_0006_00_00_0001

-- L: K with a flow appended that has flow 0's deadline and release 0, one job, size 9 cap 4. It begins before the others, in slot 0, and takes what they leave
abbrev pub book_l : List ℕ
book_l =
    hex 46 0x00000041_02_0004_03_0008_0002_01_00000004_0002_0000000000000000_0003_0002_01_00000003_0003_0000000000000000
    ++ hex 19 0x0008_0000_01_00000009_0004_0000000000000000

abbrev pub flow_l : Flow
flow_l = record { deadline = 8; release = 0; jobs = record { size = 9; cap = 4; predecessors = 0 } ∷ [] }

-- flows whose chains are marked: n jobs of one size and cap, each after the one before; and three jobs, of which the last begins where the first has ended
-- and the second takes one less, so that the takes change and the rate does not
abbrev pub jobs_in_a_row : ℕ → ℕ → ℕ → Flow
jobs_in_a_row n size cap = record { deadline = 4096; release = 0; jobs = list_from (λ i. record { size = size; cap = cap; predecessors = 2 ^ i / 2 }) n 0 }

abbrev pub equal_rates : Flow
equal_rates = record {
  deadline = 3;
  release = 0;
  jobs =
      record { size = 1; cap = 1; predecessors = 0 }
      ∷ record { size = 5; cap = 3; predecessors = 0 }
      ∷ record { size = 4; cap = 2; predecessors = 1 }
      ∷ [];
}

-- an output of n bytes, and a work area of 16,384, filled with nines
abbrev pub out : ℕ → List ℕ
out n = replicate n 9

abbrev pub area : List ℕ
area = replicate 16384 9

-- a work area whose first n slots hold a listing, and the others zero
abbrev pub used : ℕ → ℕ → List ℕ
used n x = hex (2 * n) x ++ replicate (16384 - 2 * n) 0
