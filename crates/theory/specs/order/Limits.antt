-- The limits of document 01, for the definitions. crates/theory/src/limits.rt has them for the code, under the same names; the contracts tie the two.
use Rattle.std.specs.Prelude.{ℕ}

-- the tasks are 0 to 15
abbrev pub tasks : ℕ
tasks = 16

-- the semaphores are 0 to 31
abbrev pub semaphores : ℕ
semaphores = 32

-- the flags are 0 to 31
abbrev pub flags : ℕ
flags = 32

-- the variables are 0 to 63
abbrev pub variables : ℕ
variables = 64

-- the profiles that a recording can be put under: 0, that of owned semaphores, is the only one
abbrev pub profiles : ℕ
profiles = 1

-- a recording has at most this many records
abbrev pub records : ℕ
records = 4_000_000

-- so many entries of accepted faults are taken in
abbrev pub entries : ℕ
entries = 200
