-- The version of the library.
use Rattle.std.specs.Prelude.{ℕ, ◌+◌, ◌*◌}

-- 0.3.1 as one number: the major number times 1,000,000, the minor number times 1,000, and the patch number
unfoldable pub version : ℕ
version = 0 * 1000000 + 3 * 1000 + 1
