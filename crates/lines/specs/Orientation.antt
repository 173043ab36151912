-- The byte of an orientation.
use Rattle.std.specs.Prelude.{Bool, true, false, ℕ}

-- SCOPE 2.1, 2.6: "orientation byte 1 horizontal or 0 vertical"
unfoldable pub orientation_byte : Bool → ℕ
orientation_byte true = 1
orientation_byte false = 0
