-- The least of a list, absent where the list is empty (SCOPE 3.5, 3.9, 3.15). `lt a b` is true where a is strictly below b.
use Rattle.std.specs.Prelude.{Bool, cond, List, [], ◌∷◌, Option, None, Some}

-- the lesser of two that may be absent; the first where neither is below the other
unfoldable pub lesser : {A : Type 0} → (A → A → Bool) → Option A → Option A → Option A
lesser lt None b = b
lesser lt (Some x) None = Some x
lesser lt (Some x) (Some y) = Some (cond (lt y x) y x)

unfoldable pub least : {A : Type 0} → (A → A → Bool) → List A → Option A
least lt [] = None
least lt (x ∷ l) = lesser lt (Some x) (least lt l)
