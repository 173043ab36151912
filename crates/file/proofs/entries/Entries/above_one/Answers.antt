-- `file::entries::Entries::above_one` meets its contract. Assumes nothing.
use mathlib.Core.Path.{refl, ◌∙◌}
use mathlib.Core.List.{[]}
use Prim.Native.Nat.{ℕ}
use native.Mathlib.Omega.{arith}
use lib.Dec.{ltb}
use lib.ListN.{get_or, take, drop}
use Rattle.std.proofs.Common.{rules, tests}
use Rattle.std.proofs.lemmas.Iterator.{YieldsList-from_range}
use Rattle.std.proofs.lemmas.Iterator.Search.{any_from_yields_List}
use Rattle.file.specs.Reading.{big_endian}
use Rattle.file.specs.Inner.Places.{entry_starts}
use Rattle.file.proofs.ColumnsFilled.{any_entry}
use Rattle.file.proofs.FixedPlaces.{length-places}
use Rattle.file.proofs.entries.Entries.above_one.Goals as goal

pub returns : goal.returns
returns c =
    let s = c.args.self.now in
    any_from_yields_List (λ (i : ℕ). ltb 1 (big_endian 0 (take 1 (drop c.args.offset (get_or (entry_starts s) i []))))) _ _ _ c.any.ensures.ran (YieldsList-from_range 0 s.count s.count refl (omega arith)) (λ x b q k. search (rules, tests))
    ∙ any_entry (λ entry. ltb 1 (big_endian 0 (take 1 (drop c.args.offset entry)))) (entry_starts s) 0 s.count (omega (arith, length-places s.width s.count (drop s.at s.bytes.now)))
