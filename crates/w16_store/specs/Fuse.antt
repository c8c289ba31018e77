-- How often a fuse has blown.
use Rattle.std.specs.Prelude.{ℕ, ◌==◌, ◌||◌, nat_lt, if◌then◌else◌}

-- after so many reads: once the read of the fuse's number was made, and never where that number is 0
abbrev pub blown : ℕ → ℕ → ℕ
blown fuse reads = if fuse == 0 || nat_lt reads fuse then 0 else 1
