-- What a lent output column holds at exit. SCOPE 16.7: "Output entries past the last piece keep their contents"
use Rattle.std.specs.Prelude.{List, ◌++◌, map, length, drop}

-- f of each entry of a list, and past these what was there
abbrev pub written_over : {A B : Type 0} → (A → B) → List A → List B → List B
written_over f l old = map f l ++ drop (length l) old
