-- The version of the C header. Assumes nothing.
use Rattle.std.specs.Prelude.{ℕ}

-- the version of the C header, `FLOWPLAN_HEADER_VERSION`, that the library was built with
abbrev pub header_version : ℕ
header_version = 8
